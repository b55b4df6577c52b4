-- Books whose trees test few paths.
use Rattle.std.specs.Prelude.{◌≡◌, ℕ, true, List, ◌++◌, Some, slice_get}
use Rattle.paths.specs.Paths.{PathData}
use Rattle.conditions.specs.Conditions.{Cond}
use Rattle.books.specs.Books.{Line, Book}
use Rattle.book_check.specs.Nearness.{is_near, AreNear}

-- the tree of a method line tests only relevant paths, and those of its nodes test also paths of locals that are near the method
pub record IsNearLine (rel loc : List PathData) (table : List Cond) (line : Line) : Type 0 where
  pub own : is_near rel table line.number ≡ true
  pub nodes : AreNear (rel ++ loc) table line.body

-- each method line does, by its position
abbrev pub IsNearBook : (rel loc : ℕ → List PathData) → Book → Type 0
IsNearBook rel loc book = (m : ℕ) (line : Line) → slice_get book.lines m ≡ Some line → IsNearLine (rel m) (loc m) book.table line
