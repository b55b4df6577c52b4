-- `replay FILE SCHEDULE`: does with the source and the schedule what `serialise` does, and evaluates each completed outermost atomic call
-- of the written order by itself.
use Rattle.std.specs.Prelude.{◌≡◌, ℕ, List, Some, None}
use Rattle.classes.specs.Table.{TableData, table_of}
use Rattle.core_program.specs.Core.{Program}
use Rattle.replay.specs.Records.{Told, HasNoDeep, IsFirstTooDeep}
use Rattle.schedule_commands.specs.Evaluated.{AreEvaluated, HasDeep}
use Rattle.schedule_commands.specs.Lines.{calls_text, too_deep_call_line}
use Rattle.reduction.specs.SerialSchedules.{IsSerial}
use Rattle.rules.specs.Rules.{IsAccepted}
use Rattle.schedule_commands.specs.Schedules.{IsInput, HasInput, EndsOutside}
use Rattle.schedule_commands.specs.Serialise.{SerialiseAnswer, SerialiseFact}
use Rattle.sources.specs.declared.refusal.Ending.{Ending}
use Rattle.sources.specs.declared.refusal.Ending.TheVariants as ending
use Rattle.state.specs.States.{State}
use Rattle.semantics.specs.Run.{run, open_thread}
use Rattle.semantics.specs.Units.{written_order}
use Rattle.syntax.specs.Trees.{ProgramTree}

-- the line that refuses the replay of a schedule: the first of its completed outermost atomic calls that has more than 100 frames of its own
pub data NoReplay (P : Program) (s : List ℕ) : Ending → List ℕ → Type 0 where
  too_deep : (entry : ℕ) → IsFirstTooDeep P s entry → NoReplay P s ending.CallTooDeep (too_deep_call_line entry)

-- What is written for a schedule that runs to this state: a line for each completed outermost atomic call of its written order, which is a
-- rearrangement that runs to the same state, interrupts no atomic call and leads every thread through the same frames and statuses. Each
-- call gives by itself what its line says.
pub record IsReplayText (P : Program) (table : TableData) (s : List ℕ) (q : State) (out : List ℕ) : Type 0 where
  pub serial : IsSerial P s (written_order P s) q
  pub calls : List Told
  pub evaluated : AreEvaluated P (written_order P s) calls
  pub few : HasNoDeep P (written_order P s)
  pub says : out ≡ calls_text table calls

-- the line with which `serialise` refuses the source or the schedule, else the one for a call that is too deep; or what is written for the schedule
pub data ReplayAnswer (file text : List ℕ) : Ending → List ℕ → Type 0 where
  not_serialised : {ended : Ending} {line : List ℕ} → (ended ≡ ending.Done → ⊥) → SerialiseAnswer file text ended line → ReplayAnswer file text ended line
  no_replay : {ended : Ending} {line : List ℕ} (tree : ProgramTree) (P : Program) (s : List ℕ) (q : State) → IsInput file text tree P s → IsAccepted P → run P s ≡ Some q → open_thread P q ≡ None
      → IsSerial P s (written_order P s) q → NoReplay P (written_order P s) ended line → ReplayAnswer file text ended line
  replayed : {out : List ℕ} (tree : ProgramTree) (P : Program) (s : List ℕ) (q : State) → IsInput file text tree P s → IsAccepted P → run P s ≡ Some q → open_thread P q ≡ None
      → IsReplayText P (table_of tree) s q out → ReplayAnswer file text ending.Done out

-- when `replay` ends how: where the schedule isn't rewritten, as `serialise` does
abbrev pub ReplayFact : List ℕ → List ℕ → Ending → Type 0
ReplayFact file text ending.Done = HasInput file text (λ P s. IsAccepted P × EndsOutside P s × HasNoDeep P (written_order P s))
ReplayFact file text ending.CallTooDeep = HasInput file text (λ P s. IsAccepted P × EndsOutside P s × HasDeep P (written_order P s))
ReplayFact file text ended = SerialiseFact file text ended
