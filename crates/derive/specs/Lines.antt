-- The method lines of a derived book, one after another.
use Rattle.std.specs.Prelude.{◌≡◌, ℕ, ◌<◌, List, ◌∷◌, length, Some, slice_get}
use Rattle.paths.specs.Paths.{PathData}
use Rattle.core_program.specs.Core.{Program, Method}
use Rattle.conditions.specs.Conditions.{Cond}
use Rattle.books.specs.Books.{Line}
use Rattle.effects.specs.Parts.{StmtP}
use Rattle.derive.specs.Derived.{node_numbers, lines_numbers, AreInOrder}
use Rattle.derive.specs.Bases.{trees_assign}
use Rattle.derive.specs.Concluded.{BeginsWithTrees, Concludes}

module _ (P : Program) (rel : ℕ → List PathData) (trees : List Cond) where
  -- a line over this table: of this method, with its tree, and each node concludes exactly its rule's value
  pub record IsLineOf (m : ℕ) (method : Method) (table : List Cond) (line : Line) : Type 0 where
    pub id : line.id ≡ m
    pub within : line.number < length table
    pub own : slice_get table line.number ≡ slice_get trees m
    pub concludes : Concludes P rel (trees_assign trees) table (StmtP method.body) line.body

  -- a line whose trees were added to the table in order of first use
  pub record IsLineMade (m : ℕ) (method : Method) (old new : List Cond) (line : Line) : Type 0 where
    pub begins : BeginsWithTrees old new
    pub is_line : IsLineOf m method new line
    pub in_order : AreInOrder (length old) (line.number ∷ node_numbers line.body) (length new)

  -- the lines of the first methods, so many
  pub record AreLinesOf (count : ℕ) (table : List Cond) (lines : List Line) : Type 0 where
    pub count_is : length lines ≡ count
    pub each : (m : ℕ) (method : Method) (line : Line) → slice_get P.methods m ≡ Some method → slice_get lines m ≡ Some line → IsLineOf m method table line
    pub in_order : AreInOrder 0 (lines_numbers lines) (length table)
