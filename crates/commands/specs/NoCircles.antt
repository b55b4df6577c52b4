-- What `levels` is for: whoever wrote the levels, it says yes only of sources whose threads never wait for each other in a circle,
-- whatever schedule is run; and it says yes to levels that order the program.
use Rattle.std.specs.Prelude.{◌≡◌, ℕ, ◌≤◌, List, [], ◌∷◌, Some, codes, length, ◌⊎◌}
use Rattle.lexer.specs.Limits.{longest_source}
use Rattle.sources.specs.Limits.{longest_second_file}
use Rattle.classes.specs.Table.{table_of}
use Rattle.core_program.specs.Core.{Program}
use Rattle.levels.specs.Circles.{Circle}
use Rattle.evidence_commands.specs.Levels.{OrdersBy}
use Rattle.sources.specs.Checking.{IsWellFormedSource}
use Rattle.state.specs.States.{State}
use Rattle.semantics.specs.Run.{run}
use Rattle.syntax.specs.Trees.{ProgramTree}
use Rattle.edge.specs.Calls.{Call, HasNoFault}

-- the words are `levels` and the names of two files, which are told and within their limits
pub record IsLevelsOf (call : Call) (source_name levels_name file bytes : List ℕ) : Type 0 where
  pub words : call.words ≡ codes "levels" ∷ source_name ∷ levels_name ∷ []
  pub source : call.told source_name ≡ Some file
  pub levels : call.told levels_name ≡ Some bytes
  pub small : length file ≤ longest_source
  pub short : length bytes ≤ longest_second_file

-- the file is a well-formed source, and no state to which a schedule runs on its program has a circle of threads each of which waits
-- for a lock that the next one holds
pub record ReachesNoCircle (file : List ℕ) : Type 0 where
  pub tree : ProgramTree
  pub program : Program
  pub source : IsWellFormedSource file tree program
  pub none : (s : List ℕ) (q : State) → run program s ≡ Some q → Circle q → ⊥

-- what `levels` says over any levels, and over levels that order the program
pub record NoCircles (call : Call) : Type 0 where
  -- status 0 only where no circle is reached
  pub sound : (source_name levels_name file bytes : List ℕ) → IsLevelsOf call source_name levels_name file bytes → call.status ≡ 0 → ReachesNoCircle file
  -- where nothing failed, status 0 to levels that order the program of a well-formed source, unless memory is refused
  pub ordered : (source_name levels_name file bytes : List ℕ) → IsLevelsOf call source_name levels_name file bytes → HasNoFault call (source_name ∷ levels_name ∷ [])
      → (tree : ProgramTree) (P : Program) → IsWellFormedSource file tree P → OrdersBy (table_of tree) P bytes → (call.status ≡ 8) ⊎ (call.status ≡ 0)
