-- The sentence that the program is for:
-- for every accepted source and every schedule that runs on it to a state with no thread inside an atomic call, `serialise`
-- writes, unless memory is refused, a rearrangement of that schedule that runs to the same heap, locks, threads and output and
-- interrupts no atomic call; and `check` refuses a well-formed source exactly where no assignment of atomicities is admissible,
-- naming a method whose bound every closed assignment breaks.
use Rattle.std.specs.Prelude.{◌≡◌, ℕ, ◌<◌, ◌≤◌, List, [], ◌∷◌, Some, None, length, slice_get, codes, ◌⊎◌}
use Rattle.std.specs.Io.KnownBytes.{Appends}
use Rattle.lexer.specs.Limits.{longest_source}
use Rattle.sources.specs.Limits.{longest_second_file}
use Rattle.algebra.specs.declared.basic.Basic.{Basic}
use Rattle.algebra.specs.HeldPaths.{has_path}
use Rattle.classes.specs.Table.{TableData, table_of}
use Rattle.core_program.specs.Core.{Program, Method}
use Rattle.infer.specs.Least.{IsLeast}
use Rattle.infer.specs.Verdicts.{IsBrokenByAll}
use Rattle.edge.specs.Calls.{Call, HasNoFault}
use Rattle.report.specs.Verdicts.{broken_line}
use Rattle.rules.specs.Effect.{Assignment}
use Rattle.rules.specs.Near.{MethodPaths, AreRelevant, rel_of}
use Rattle.rules.specs.Rules.{IsAccepted, HoldsBound, declared_bound}
use Rattle.schedule.specs.Text.{IsSchedule}
use Rattle.sources.specs.Checking.{IsWellFormedSource}
use Rattle.state.specs.States.{State}
use Rattle.semantics.specs.Run.{run, open_thread, IsRearrangement, IsUninterrupted}
use Rattle.syntax.specs.Trees.{ProgramTree}

-- the bytes that the call wrote are the text of a rearrangement of the schedule, which runs to the same heap, locks, threads and
-- output and interrupts no atomic call
pub record WritesRearrangement (call : Call) (P : Program) (s : List ℕ) (q : State) : Type 0 where
  pub status : call.status ≡ 0
  pub out : List ℕ
  pub written : Appends call.written_before call.written_after out
  pub order : List ℕ
  pub spells : IsSchedule out order
  pub rearranges : IsRearrangement s order
  pub same_state : run P order ≡ Some q
  pub uninterrupted : IsUninterrupted P order

-- the line that the call wrote names a method of the program whose bound every closed assignment breaks
pub record NamesBroken (call : Call) (P : Program) (table : TableData) : Type 0 where
  -- the line with a method's number, what the method declares, and what was found of it
  pub method : ℕ
  pub declared : Basic
  pub found : Basic
  pub written : Appends call.written_before call.written_after (broken_line table method declared found)
  -- the relevant sets of the program
  pub sets : List MethodPaths
  pub relevant : AreRelevant P sets
  -- the program has that method, and every closed assignment breaks its bound
  pub broken : IsBrokenByAll P (rel_of sets) method
  -- what it declares is its bound
  pub declared_is : declared ≡ declared_bound broken.method.annotated
  -- what was found is its value in the least closed assignment, at its required paths
  pub least : Assignment
  pub is_least : IsLeast P (rel_of sets) least
  pub found_is : found ≡ least method (has_path broken.method.requires_)
  -- and it is the first in source order: there each method before it keeps its bound
  pub earlier : (k : ℕ) (other : Method) → k < method → slice_get P.methods k ≡ Some other → HoldsBound least k other

-- the call accepts where some assignment is admissible; it refuses exactly where none is, and names such a method
pub record RefusesExactly (call : Call) (P : Program) (table : TableData) : Type 0 where
  pub accepts : IsAccepted P → call.status ≡ 0
  pub only : call.status ≡ 2 → IsAccepted P → ⊥
  pub all : (IsAccepted P → ⊥) → call.status ≡ 2
  pub names : call.status ≡ 2 → NamesBroken call P table

-- what `serialise` and `check` promise of a call, both over the bytes of their files
pub record Headline (call : Call) : Type 0 where
  -- `serialise`, on files that are told and within their limits, where nothing failed
  pub serialise : (source_name schedule_name file text : List ℕ) → call.words ≡ codes "serialise" ∷ source_name ∷ schedule_name ∷ []
      → call.told source_name ≡ Some file → call.told schedule_name ≡ Some text → length file ≤ longest_source → length text ≤ longest_second_file
      → HasNoFault call (source_name ∷ schedule_name ∷ [])
      -- for every accepted source
      → (tree : ProgramTree) (P : Program) → IsWellFormedSource file tree P → IsAccepted P
      -- and every schedule that runs on it to a state with no thread inside an atomic call
      → (s : List ℕ) (q : State) → IsSchedule text s → run P s ≡ Some q → open_thread P q ≡ None
      -- writes, unless memory is refused, such a rearrangement
      → (call.status ≡ 8) ⊎ WritesRearrangement call P s q
  -- `check`, on a file that is told and within its limit, where nothing failed
  pub check : (name file : List ℕ) → call.words ≡ codes "check" ∷ name ∷ [] → call.told name ≡ Some file → length file ≤ longest_source
      → HasNoFault call (name ∷ [])
      -- refuses a well-formed source exactly where no assignment is admissible, and else accepts it, unless memory is refused
      → (tree : ProgramTree) (P : Program) → IsWellFormedSource file tree P → (call.status ≡ 8) ⊎ RefusesExactly call P (table_of tree)
