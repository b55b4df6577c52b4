-- `serialise FILE SCHEDULE`: judges the source, the rules and the text of the schedule, runs it, and writes it with each atomic
-- call in one piece.
use Rattle.std.specs.Prelude.{◌≡◌, ℕ, List, ◌++◌, Some, None}
use Rattle.classes.specs.Table.{TableData, table_of}
use Rattle.core_program.specs.Core.{Program}
use Rattle.reduction.specs.SerialSchedules.{IsSerial}
use Rattle.rules.specs.Rules.{IsAccepted}
use Rattle.schedule.specs.Comments.{commented}
use Rattle.schedule.specs.Text.{IsSchedule}
use Rattle.schedule.specs.Written.{written}
use Rattle.sources.specs.declared.refusal.Ending.{Ending}
use Rattle.sources.specs.declared.refusal.Ending.TheVariants as ending
use Rattle.sources.specs.Checking.{IsWellFormedSource}
use Rattle.sources.specs.Facts.{IsNotWellFormed, HasNoAssignment, IsAcceptedSource}
use Rattle.sources.specs.Verdicts.{NoAccepted}
use Rattle.state.specs.States.{State}
use Rattle.report.specs.States.{state_text}
use Rattle.semantics.specs.Run.{run, Runs, open_thread}
use Rattle.semantics.specs.Units.{written_order}
use Rattle.syntax.specs.Trees.{ProgramTree}
use Rattle.schedule_commands.specs.Schedules.{NoSchedule, NoOrder, IsInput, HasInput, IsNoSchedule, LeavesCallOpen, EndsOutside}

-- What is written for a schedule that runs to this state: its written order in a line, and the text of the state as comments.
-- Read as a schedule these bytes are the written order: a rearrangement that runs to the same state, interrupts no atomic call
-- and leads every thread through the same frames and statuses.
pub record IsSerialised (P : Program) (table : TableData) (s : List ℕ) (q : State) (out : List ℕ) : Type 0 where
  pub says : out ≡ written (written_order P s) ++ commented (state_text P table q)
  pub spells : IsSchedule out (written_order P s)
  pub serial : IsSerial P s (written_order P s) q

-- the line that refuses the source, else the schedule's text, else its rewriting; or what is written for the schedule
pub data SerialiseAnswer (file text : List ℕ) : Ending → List ℕ → Type 0 where
  not_accepted : {ending : Ending} {line : List ℕ} → NoAccepted file ending line → SerialiseAnswer file text ending line
  no_schedule : {ending : Ending} {line : List ℕ} (tree : ProgramTree) (P : Program) → IsWellFormedSource file tree P → IsAccepted P → NoSchedule text ending line
      → SerialiseAnswer file text ending line
  no_order : {ending : Ending} {line : List ℕ} (tree : ProgramTree) (P : Program) (s : List ℕ) → IsInput file text tree P s → IsAccepted P → NoOrder P s ending line
      → SerialiseAnswer file text ending line
  serialised : {out : List ℕ} (tree : ProgramTree) (P : Program) (s : List ℕ) (q : State) → IsInput file text tree P s → IsAccepted P → run P s ≡ Some q → open_thread P q ≡ None
      → IsSerialised P (table_of tree) s q out → SerialiseAnswer file text ending.Done out

-- when `serialise` ends how
abbrev pub SerialiseFact : List ℕ → List ℕ → Ending → Type 0
SerialiseFact file text ending.Refused = IsNotWellFormed file
SerialiseFact file text ending.Inadmissible = HasNoAssignment file
SerialiseFact file text ending.NoSchedule = IsAcceptedSource file × IsNoSchedule text
SerialiseFact file text ending.Stopped = HasInput file text (λ P s. IsAccepted P × (Runs P s → ⊥))
SerialiseFact file text ending.Open = HasInput file text (λ P s. IsAccepted P × LeavesCallOpen P s)
SerialiseFact file text ending.BookRefused = ⊥
SerialiseFact file text ending.NothingToBlame = ⊥
SerialiseFact file text ending.BlameRefused = ⊥
SerialiseFact file text ending.LevelsRefused = ⊥
SerialiseFact file text ending.CallTooDeep = ⊥
SerialiseFact file text ending.Done = HasInput file text (λ P s. IsAccepted P × EndsOutside P s)
