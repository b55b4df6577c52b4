-- What `serialise-open` is for: for every accepted source and every schedule that runs on it, it writes, unless memory is refused,
-- a rearrangement of that schedule that runs to the same heap, locks, threads and output, and in which no entry of another thread
-- stands between two entries of one outermost atomic call.
use Rattle.std.specs.Prelude.{◌≡◌, ℕ, ◌≤◌, List, [], ◌∷◌, Some, None, length, codes, ◌⊎◌}
use Rattle.std.specs.Io.KnownBytes.{Appends}
use Rattle.lexer.specs.Limits.{longest_source}
use Rattle.sources.specs.Limits.{longest_second_file}
use Rattle.core_program.specs.Core.{Program}
use Rattle.serialise.specs.Whole.{IsWhole}
use Rattle.rules.specs.Rules.{IsAccepted}
use Rattle.schedule.specs.Text.{IsSchedule}
use Rattle.sources.specs.Checking.{IsWellFormedSource}
use Rattle.state.specs.States.{State}
use Rattle.semantics.specs.Run.{run, open_thread, IsRearrangement}
use Rattle.semantics.specs.Units.{written_order}
use Rattle.syntax.specs.Trees.{ProgramTree}
use Rattle.edge.specs.Calls.{Call, HasNoFault}

-- the bytes that the call wrote are the text of a rearrangement of the schedule, which runs to the same heap, locks, threads and
-- output and is whole; where no thread stands inside an atomic call at the end, it is the one that `serialise` writes
pub record WritesGathered (call : Call) (P : Program) (s : List ℕ) (q : State) : Type 0 where
  pub status : call.status ≡ 0
  pub out : List ℕ
  pub written : Appends call.written_before call.written_after out
  pub order : List ℕ
  pub spells : IsSchedule out order
  pub rearranges : IsRearrangement s order
  pub same_state : run P order ≡ Some q
  pub whole : IsWhole P order
  pub closed : open_thread P q ≡ None → order ≡ written_order P s

-- what `serialise-open` writes for an accepted source and a schedule that runs on it
pub record OpenCalls (call : Call) : Type 0 where
  -- `serialise-open`, on files that are told and within their limits, where nothing failed
  pub opens : (source_name schedule_name file text : List ℕ) → call.words ≡ codes "serialise-open" ∷ source_name ∷ schedule_name ∷ []
      → call.told source_name ≡ Some file → call.told schedule_name ≡ Some text → length file ≤ longest_source → length text ≤ longest_second_file
      → HasNoFault call (source_name ∷ schedule_name ∷ [])
      -- for every accepted source
      → (tree : ProgramTree) (P : Program) → IsWellFormedSource file tree P → IsAccepted P
      -- and every schedule that runs on it
      → (s : List ℕ) (q : State) → IsSchedule text s → run P s ≡ Some q
      -- writes, unless memory is refused, such a rearrangement
      → (call.status ≡ 8) ⊎ WritesGathered call P s q
