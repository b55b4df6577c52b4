-- How a table of some paths is read along others.
use Rattle.std.specs.Prelude.{◌≡◌, false, List, [], ◌∷◌, ◌++◌}
use Rattle.paths.specs.Paths.{PathData}
use Rattle.algebra.specs.declared.basic.Basic.{Basic}
use Rattle.algebra.specs.declared.basic.Basic.TheVariants.{Const}
use Rattle.algebra.specs.HeldPaths.{Held, has_path}
use Rattle.algebra.specs.Tables.{first_entry, half_table}
use Rattle.rules.specs.Rules.{IsSubset}
use Rattle.refutation.specs.Tables.{table_entry}
use Rattle.refutation.specs.declared.steps.Step.{Step}
use Rattle.refutation.specs.declared.steps.Step.TheVariants.{Both, First, Second}

-- the entry of a table at a set, along some steps over these paths: of a path that the table has too, the half is taken by whether it is
-- held; a path that it lacks is passed; and a path that it has alone isn't held
abbrev pub entry_along : List Step → (rel : List PathData) → List Basic → Held → Basic
entry_along [] rel table H = first_entry table
entry_along (Both ∷ steps) [] table H = Const
entry_along (Both ∷ steps) (p ∷ ps) table H = entry_along steps ps (half_table (H p) table) H
entry_along (First ∷ steps) [] table H = Const
entry_along (First ∷ steps) (p ∷ ps) table H = entry_along steps ps table H
entry_along (Second ∷ steps) rel table H = entry_along steps rel (half_table false table) H

-- some steps more, by which a table of the second paths is read along the first, where only paths of a whole list are held
pub record IsAlong (whole rel its : List PathData) (old new : List Step) : Type 0 where
  pub more : List Step
  pub are : new ≡ old ++ more
  pub tells : (table : List Basic) (H : Held) → IsSubset H (has_path whole) → entry_along more rel table H ≡ table_entry its table H
