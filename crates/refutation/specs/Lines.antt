-- Lines of a certificate of refusal, what a list of them says of every method, and what a call of a method then comes to at least.
use Rattle.std.specs.Prelude.{ℕ, zero, suc, ◌+◌, ◌==◌, ◌&&◌, Bool, true, false, not, List, [], ◌∷◌, filter, length, Option, Some, None, slice_get, if◌then◌else◌}
use Rattle.std.specs.List.{list_all, AllByRecursion}
use Rattle.std.specs.List.Sorted.{IsStrictlySortedBy}
use Rattle.paths.specs.Paths.{PathData, path_order}
use Rattle.algebra.specs.declared.basic.Basic.{Basic}
use Rattle.algebra.specs.declared.basic.Basic.TheVariants.{Const}
use Rattle.algebra.specs.Basics.{join_of}
use Rattle.algebra.specs.HeldPaths.{Held, has_path}
use Rattle.core_program.specs.Core.{Program, Method}
use Rattle.core_program.specs.Dispatch.{target_of}
use Rattle.rules.specs.Clauses.{method_class, is_this_number}
use Rattle.rules.specs.Effect.{Assignment, effect}
use Rattle.rules.specs.Rules.{held_in}

-- a line: where these paths are held, this method is at least this basic
pub record LineData : Type 0 where
  pub method : ℕ
  pub found : Basic
  pub held : List PathData

-- the paths of each line ascend strictly
abbrev pub AreAscending : List LineData → Type 0
AreAscending ls = AllByRecursion (λ l. IsStrictlySortedBy path_order l.held) ls

-- each relevant path of the set is one of these
abbrev pub covers : (held rel : List PathData) → Held → Bool
covers held rel H = list_all (λ p. if H p then has_path held p else true) rel

-- what one line says of a method at a set: its basic, where it is a line of the method whose paths have those of the set. Fewer held paths
-- never give a smaller effect, so what is at least a basic at the line's paths is so at each part of them.
abbrev pub line_at : (rel : ℕ → List PathData) → LineData → Assignment
line_at rel l m H = if (l.method == m) && covers l.held (rel m) H then l.found else Const

-- what the lines say together: the greatest basic of the lines for the method whose paths have those of the set
abbrev pub floor : (rel : ℕ → List PathData) → List LineData → Assignment
floor rel [] m H = Const
floor rel (l ∷ ls) m H = join_of (line_at rel l m H) (floor rel ls m H)

-- whether a class, where there is one, runs the first method for the second
abbrev pub runs_in : Program → Option ℕ → (over m : ℕ) → Bool
runs_in P None over m = false
runs_in P (Some class) over m = is_this_number (target_of P class m) over

-- whether the first method overrides the second: it differs from it, and runs for it in its own class
abbrev pub overrides : Program → (over m : ℕ) → Bool
overrides P over m = not (over == m) && runs_in P (method_class (slice_get P.methods over)) over m

-- so many numbers from this one on
abbrev pub numbers : (first count : ℕ) → List ℕ
numbers first zero = []
numbers first (suc n) = first ∷ numbers (first + 1) n

-- the methods that override this one, ascending
abbrev pub overriding : Program → ℕ → List ℕ
overriding P m = filter (λ over. overrides P over m) (numbers 0 (length P.methods))

-- the greatest of what is assigned to these methods, each at those of the held paths that are relevant to it
abbrev pub joined_over : (rel : ℕ → List PathData) → Assignment → List ℕ → Held → Basic
joined_over rel A [] H = Const
joined_over rel A (n ∷ ns) H = join_of (A n (held_in (rel n) H)) (joined_over rel A ns H)

-- the effect of a method's body, where the method is there
abbrev pub body_effect : Program → (rel : ℕ → List PathData) → Assignment → Option Method → Held → Basic
body_effect P rel A None H = Const
body_effect P rel A (Some method) H = effect P rel A method.body H

-- what a call of a method may come to under an assignment: its body, or that of a method that overrides it
abbrev pub certified_effect : Program → (rel : ℕ → List PathData) → Assignment → ℕ → Held → Basic
certified_effect P rel A m H = join_of (body_effect P rel A (slice_get P.methods m) H) (joined_over rel A (overriding P m) H)

-- what a call of a method comes to at least, by these lines
abbrev pub certified_up : Program → (rel : ℕ → List PathData) → List LineData → ℕ → Held → Basic
certified_up P rel ls m H = certified_effect P rel (floor rel ls) m H
