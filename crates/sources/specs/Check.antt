-- `check FILE`: judges the source and the rules.
use Rattle.std.specs.Prelude.{ℕ, ◌+◌, List, [], ◌∷◌, ◌++◌}
use Rattle.classes.specs.Table.{TableData, table_of}
use Rattle.conditions.specs.Conditions.{Cond}
use Rattle.core_program.specs.Core.{Program}
use Rattle.report.specs.Verdicts.{atomicity_line}
use Rattle.syntax.specs.Trees.{ProgramTree}
use Rattle.sources.specs.declared.refusal.Ending.{Ending}
use Rattle.sources.specs.declared.refusal.Ending.TheVariants.{Done}
use Rattle.sources.specs.Checking.{IsWellFormedSource}
use Rattle.sources.specs.Verdicts.{IsShownLeast, NoAccepted}

-- a line for each method, the first of which has this number
abbrev pub report_from : TableData → ℕ → List Cond → List ℕ
report_from t m [] = []
report_from t m (tree ∷ trees) = atomicity_line t m tree ++ report_from t (m + 1) trees

-- the line that refuses the source; or, of an accepted one, a line for each method with the tree of the least closed assignment
pub data CheckAnswer (file : List ℕ) : Ending → List ℕ → Type 0 where
  not_accepted : {ending : Ending} {line : List ℕ} → NoAccepted file ending line → CheckAnswer file ending line
  judged : (tree : ProgramTree) (P : Program) (trees : List Cond) → IsWellFormedSource file tree P → IsShownLeast P trees → CheckAnswer file Done (report_from (table_of tree) 0 trees)
