-- What is known of the trees of overriding methods before the method lines are judged.
use Rattle.std.specs.Prelude.{◌≡◌, ℕ, List, [], ◌∷◌, Some, slice_get, Contains}
use Rattle.core_program.specs.Core.{Method}
use Rattle.core_program.specs.Dispatch.{Overrides}
use Rattle.rules.specs.Overriding.{AreOverriders}
use Rattle.rules.specs.Search.{row_at}
use Rattle.effects.specs.Rules.{Value}
use Rattle.books.specs.Books.{Line}
use Rattle.book_check.specs.declared.judge.Judge.{Judge}
use Rattle.book_check.specs.declared.overs.Overs.{Overs}
use Rattle.book_check.specs.declared.overs.Overs.TheVariants.{Below, Unknown}
use Rattle.book_check.specs.Good.{IsTabled, IsUnderIn}
use Rattle.book_check.specs.Judges.{judge_assignment, judge_program, judge_rel, judge_table, judge_value, numbered}

-- the trees of all methods that override this one are at or below a value, wherever a call of this one may begin
abbrev pub AreOversUnder : Judge → ℕ → Method → Value → Type 0
AreOversUnder judge m method own = (over : ℕ) → Overrides (judge_program judge) over m → IsUnderIn (judge_rel judge m) method.requires_ (judge_assignment judge over) own

-- they are at or below the method's own tree, for each method
abbrev pub AreOversBelow : Judge → Type 0
AreOversBelow judge = (m : ℕ) (method : Method) → slice_get (judge_program judge).methods m ≡ Some method → AreOversUnder judge m method (judge_assignment judge m)

-- a method's tree tests relevant paths only and falls, and those of the methods in its row are at or below it
pub record IsAboveNearest (judge : Judge) (rows : List (List ℕ)) (m : ℕ) (method : Method) : Type 0 where
  pub tabled : IsTabled (judge_rel judge m) (numbered (judge_table judge) (slice_get judge.lines.now m))
  pub below : (n : ℕ) → Contains (row_at rows m) n → IsUnderIn (judge_rel judge m) method.requires_ (judge_assignment judge n) (judge_assignment judge m)

-- this holds of each method
abbrev pub AreAboveNearest : Judge → List (List ℕ) → Type 0
AreAboveNearest judge rows = (m : ℕ) (method : Method) → slice_get (judge_program judge).methods m ≡ Some method → IsAboveNearest judge rows m method

-- what is known is true
abbrev pub AreOvers : Judge → Overs → Type 0
AreOvers judge Below = AreOversBelow judge
AreOvers judge (Unknown rows) = AreOverriders (judge_program judge) rows

-- it is true of a method whose line has the tree with this number
abbrev pub AreOversAt : Judge → ℕ → Method → ℕ → Overs → Type 0
AreOversAt judge m method number Below = AreOversUnder judge m method (judge_value judge number)
AreOversAt judge m method number (Unknown rows) = AreOverriders (judge_program judge) rows

-- and of each method with its line
abbrev pub AreOversOf : Judge → List Line → Overs → Type 0
AreOversOf judge lines over = (m : ℕ) (method : Method) (line : Line) → slice_get (judge_program judge).methods m ≡ Some method → slice_get lines m ≡ Some line → AreOversAt judge m method line.number over

-- and of a method with the first of these lines
abbrev pub AreOversFirst : Judge → ℕ → Method → List Line → Overs → Type 0
AreOversFirst judge m method [] over = Unit {0}
AreOversFirst judge m method (line ∷ lines) over = AreOversAt judge m method line.number over
