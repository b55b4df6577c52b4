-- What the two passes over a book's method lines find.
use Rattle.std.specs.Prelude.{◌≡◌, ◌⊎◌, ℕ, ◌<◌, List, [], ◌∷◌, length, slice_get, Option, Some, None, Result, Ok, Err, Vec}
use Rattle.std.specs.Global.{Global}
use Rattle.paths.specs.Paths.{PathData}
use Rattle.core_program.specs.Core.{Program, Method}
use Rattle.books.specs.Books.{Line, Book}
use Rattle.book_check.specs.declared.wrong.Wrong.{Wrong}
use Rattle.book_check.specs.declared.wrong.Wrong.TheVariants as wrong
use Rattle.book_check.specs.declared.judge.Judge.{Judge}
use Rattle.book_check.specs.Judges.{judge_assignment, judge_program, judge_rel, judge_table}
use Rattle.conditions.specs.Conditions.{Cond}
use Rattle.book_check.specs.Nearness.{AreNear}
use Rattle.book_check.specs.Good.{IsShaped, IsGoodBook, IsGoodLine}
use Rattle.book_check.specs.Faults.{HasShapeFault, AreShaped, IsUnjudged, IsWrongBook, IsLineVerdict}

-- a shape that is wrong at this position, or no judgement
abbrev pub IsShapeFault : ℕ → Option Method → Option Line → Wrong → Type 0
IsShapeFault m method line (wrong.Shape k node) = (k ≡ m) × HasShapeFault m method line node
IsShapeFault m method line wrong.Memory = Unit {0}
IsShapeFault m method line wrong.Work = Unit {0}
IsShapeFault m method line (wrong.Table k) = ⊥
IsShapeFault m method line (wrong.Step k node) = ⊥
IsShapeFault m method line (wrong.Override k) = ⊥
IsShapeFault m method line (wrong.Bound k) = ⊥

-- the shape of the first of some method lines, seen by view: the number of its tree, and the lines that are then still to come
abbrev pub IsShapeStep : {S : Type 0} → (S → List Line) → ℕ → Method → List Line → Result (ℕ × S) Wrong → Type 0
IsShapeStep view m method [] (Ok x) = ⊥
IsShapeStep view m method [] (Err fault) = IsShapeFault m (Some method) None fault
IsShapeStep view m method (line ∷ lines) (Ok x) = (x.0 ≡ line.number) × IsShaped m method line × (view x.1 ≡ lines)
IsShapeStep view m method (line ∷ lines) (Err fault) = IsShapeFault m (Some method) (Some line) fault

-- the numbers of the trees of method lines
abbrev pub tree_numbers : List Line → List ℕ
tree_numbers [] = []
tree_numbers (line ∷ lines) = line.number ∷ tree_numbers lines

-- the first pass: the numbers of all trees, where all shapes are right
abbrev pub AreAllShaped : Program → (ℕ → List PathData) → Book → Result (Vec ℕ Global) Wrong → Type 0
AreAllShaped P rel book (Ok numbers) = (numbers.items ≡ tree_numbers book.lines) × (length book.lines ≡ length P.methods) × AreShaped P rel book
AreAllShaped P rel book (Err fault) = IsWrongBook P rel book fault

-- the second pass, and the whole judgement
abbrev pub IsBookVerdict : Program → (ℕ → List PathData) → Book → Result (Unit {0}) Wrong → Type 0
IsBookVerdict P rel book (Ok u) = IsGoodBook P rel book
IsBookVerdict P rel book (Err fault) = IsWrongBook P rel book fault

-- the judgement of the first of some method lines, and the lines that are then still to come; no judgement says nothing
abbrev pub IsLineStep : {S : Type 0} → (S → List Line) → Judge → ℕ → Method → List Line → Result S Wrong → Type 0
IsLineStep view judge m method [] (Ok x) = ⊥
IsLineStep view judge m method [] (Err fault) = IsUnjudged fault
IsLineStep view judge m method (line ∷ lines) (Ok x) =
    IsGoodLine (judge_program judge) (judge_rel judge) (judge_table judge) (judge_assignment judge) m method line × (view x ≡ lines)
IsLineStep view judge m method (line ∷ lines) (Err fault) =
    IsUnjudged fault ⊎ IsLineVerdict (judge_program judge) (judge_rel judge) (judge_table judge) (judge_assignment judge) m method line (Some fault)

-- every line before this position is good
abbrev pub AreGoodLines : Judge → Book → ℕ → Type 0
AreGoodLines judge book m = (k : ℕ) (method : Method) (line : Line) → k < m → slice_get (judge_program judge).methods k ≡ Some method → slice_get book.lines k ≡ Some line →
    IsGoodLine (judge_program judge) (judge_rel judge) (judge_table judge) (judge_assignment judge) k method line

-- a line that is wrong, where every one before it is good
pub record IsWrongLine (judge : Judge) (book : Book) (fault : Wrong) : Type 0 where
  pub position : ℕ
  pub before : AreGoodLines judge book position
  pub method : Method
  pub line : Line
  pub method_is : slice_get (judge_program judge).methods position ≡ Some method
  pub line_is : slice_get book.lines position ≡ Some line
  pub verdict : IsLineVerdict (judge_program judge) (judge_rel judge) (judge_table judge) (judge_assignment judge) position method line (Some fault)

-- the second pass
abbrev pub AreLinesJudged : Judge → Book → Result (Unit {0}) Wrong → Type 0
AreLinesJudged judge book (Ok u) = AreGoodLines judge book (length (judge_program judge).methods)
AreLinesJudged judge book (Err fault) = IsUnjudged fault ⊎ IsWrongLine judge book fault

-- the trees of the first of some method lines test only these paths
abbrev pub IsFirstNear : List PathData → List Cond → List Line → Type 0
IsFirstNear paths table [] = Unit {0}
IsFirstNear paths table (line ∷ lines) = AreNear paths table line.body
