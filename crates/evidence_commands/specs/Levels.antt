-- `levels FILE LEVELS`: judges the source, without the rules of atomicity, then the text of levels, and then whether the program is
-- ordered for them.
use Rattle.std.specs.Prelude.{ℕ, List}
use Rattle.classes.specs.Table.{TableData, table_of}
use Rattle.core_program.specs.Core.{Program}
use Rattle.levels.specs.Contexts.{IsOrdered, IsFirstBad}
use Rattle.levels.specs.Walks.{level_in}
use Rattle.level_check.specs.declared.reader.LevelsFault.{LevelsFault}
use Rattle.level_check.specs.Faults.{AreLevels, IsFirstLevelsFault}
use Rattle.rules.specs.Near.{MethodPaths, AreRelevant, rel_of}
use Rattle.sources.specs.declared.refusal.Ending.{Ending}
use Rattle.sources.specs.declared.refusal.Ending.TheVariants as ending
use Rattle.sources.specs.Checking.{IsWellFormedSource, NoSource}
use Rattle.sources.specs.Facts.{IsNotWellFormed}
use Rattle.syntax.specs.Trees.{ProgramTree}
use Rattle.evidence_commands.specs.LevelLines.{ordered_line, levels_fault_line, takes_line}

-- the bytes give levels for which the program is ordered
pub record OrdersBy (t : TableData) (P : Program) (bytes : List ℕ) : Type 0 where
  pub levels : List ℕ
  pub are_levels : AreLevels t P bytes levels
  pub sets : List MethodPaths
  pub relevant : AreRelevant P sets
  pub ordered : IsOrdered P (rel_of sets) (level_in levels)

-- the line that refuses bytes for a program: the first fault of a text that gives no levels, or the first bad `synchronized`
pub data NoLevelOrder (t : TableData) (P : Program) (bytes : List ℕ) : Ending → List ℕ → Type 0 where
  no_levels : (fault : LevelsFault) → IsFirstLevelsFault t P bytes fault → NoLevelOrder t P bytes ending.LevelsRefused (levels_fault_line t fault)
  first_bad : (levels : List ℕ) (sets : List MethodPaths) (method class under : ℕ) → AreLevels t P bytes levels → AreRelevant P sets
      → IsFirstBad P (rel_of sets) (level_in levels) method class under → NoLevelOrder t P bytes ending.LevelsRefused (takes_line t method class under)

-- the line that refuses the source, else the levels; or what is written where the program is ordered
pub data LevelsAnswer (file bytes : List ℕ) : Ending → List ℕ → Type 0 where
  no_source : {ending : Ending} {line : List ℕ} → NoSource file ending line → LevelsAnswer file bytes ending line
  no_order : {ending : Ending} {line : List ℕ} (tree : ProgramTree) (P : Program) → IsWellFormedSource file tree P → NoLevelOrder (table_of tree) P bytes ending line → LevelsAnswer file bytes ending line
  in_order : (tree : ProgramTree) (P : Program) → IsWellFormedSource file tree P → OrdersBy (table_of tree) P bytes → LevelsAnswer file bytes ending.Done ordered_line

-- when `levels` ends how
abbrev pub LevelsFact : List ℕ → List ℕ → Ending → Type 0
LevelsFact file bytes ending.Refused = IsNotWellFormed file
LevelsFact file bytes ending.LevelsRefused = (tree : ProgramTree) × (P : Program) × IsWellFormedSource file tree P × (OrdersBy (table_of tree) P bytes → ⊥)
LevelsFact file bytes ending.Done = (tree : ProgramTree) × (P : Program) × IsWellFormedSource file tree P × OrdersBy (table_of tree) P bytes
LevelsFact file bytes _ = ⊥
