-- What `replay` is for: for every accepted source and every schedule that runs on it to a state with no thread inside an atomic call,
-- it takes the rearrangement of that schedule that `serialise` writes, and writes, unless memory is refused, a line for each completed
-- outermost atomic call: what plain evaluation of the call gives in the state before it. Or it names the first call that has more than
-- 100 frames of its own.
use Rattle.std.specs.Prelude.{◌≡◌, ℕ, ◌≤◌, List, [], ◌∷◌, Some, None, length, codes, ◌⊎◌}
use Rattle.std.specs.Io.KnownBytes.{Appends}
use Rattle.lexer.specs.Limits.{longest_source}
use Rattle.sources.specs.Limits.{longest_second_file}
use Rattle.classes.specs.Table.{TableData, table_of}
use Rattle.core_program.specs.Core.{Program}
use Rattle.replay.specs.Records.{Told, IsFirstTooDeep}
use Rattle.rules.specs.Rules.{IsAccepted}
use Rattle.schedule.specs.Text.{IsSchedule}
use Rattle.sources.specs.Checking.{IsWellFormedSource}
use Rattle.state.specs.States.{State}
use Rattle.semantics.specs.Run.{run, open_thread, IsRearrangement, IsUninterrupted}
use Rattle.semantics.specs.Units.{written_order}
use Rattle.syntax.specs.Trees.{ProgramTree}
use Rattle.schedule_commands.specs.Evaluated.{AreEvaluated}
use Rattle.schedule_commands.specs.Lines.{calls_text, too_deep_call_line}
use Rattle.edge.specs.Calls.{Call, HasNoFault}

-- the order is the rearrangement of the schedule that `serialise` writes: it runs to the same heap, locks, threads and output, and
-- interrupts no atomic call
pub record IsOrderOf (P : Program) (s : List ℕ) (q : State) (order : List ℕ) : Type 0 where
  pub written : order ≡ written_order P s
  pub rearranges : IsRearrangement s order
  pub same_state : run P order ≡ Some q
  pub uninterrupted : IsUninterrupted P order

-- the call wrote a line for each completed outermost atomic call of that order: what the call gives, evaluated by itself in the state
-- before it
pub record WritesCalls (call : Call) (P : Program) (table : TableData) (s : List ℕ) (q : State) : Type 0 where
  pub status : call.status ≡ 0
  pub order : List ℕ
  pub is_order : IsOrderOf P s q order
  pub calls : List Told
  pub evaluated : AreEvaluated P order calls
  pub written : Appends call.written_before call.written_after (calls_text table calls)

-- the call named the first of the completed outermost atomic calls of that order that has more than 100 frames of its own
pub record NamesDeep (call : Call) (P : Program) (s : List ℕ) (q : State) : Type 0 where
  pub status : call.status ≡ 15
  pub order : List ℕ
  pub is_order : IsOrderOf P s q order
  pub entry : ℕ
  pub deep : IsFirstTooDeep P order entry
  pub written : Appends call.written_before call.written_after (too_deep_call_line entry)

-- what `replay` writes for an accepted source and a schedule that runs on it
pub record ReplayedCalls (call : Call) : Type 0 where
  -- `replay`, on files that are told and within their limits, where nothing failed
  pub replays : (source_name schedule_name file text : List ℕ) → call.words ≡ codes "replay" ∷ source_name ∷ schedule_name ∷ []
      → call.told source_name ≡ Some file → call.told schedule_name ≡ Some text → length file ≤ longest_source → length text ≤ longest_second_file
      → HasNoFault call (source_name ∷ schedule_name ∷ [])
      -- for every accepted source
      → (tree : ProgramTree) (P : Program) → IsWellFormedSource file tree P → IsAccepted P
      -- and every schedule that runs on it to a state with no thread inside an atomic call
      → (s : List ℕ) (q : State) → IsSchedule text s → run P s ≡ Some q → open_thread P q ≡ None
      -- writes, unless memory is refused, such lines, or names such a call
      → (call.status ≡ 8) ⊎ (WritesCalls call P (table_of tree) s q ⊎ NamesDeep call P s q)
