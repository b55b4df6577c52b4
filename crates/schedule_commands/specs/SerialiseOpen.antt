-- `serialise-open FILE SCHEDULE`: judges the source, the rules and the text of the schedule, runs it, and writes it with each
-- atomic call in one piece, also one that is left open.
use Rattle.std.specs.Prelude.{◌≡◌, ℕ, List, ◌++◌, Some, None}
use Rattle.classes.specs.Table.{TableData, table_of}
use Rattle.core_program.specs.Core.{Program}
use Rattle.serialise.specs.OpenOrder.{open_order}
use Rattle.serialise.specs.Whole.{IsGathered}
use Rattle.rules.specs.Rules.{IsAccepted}
use Rattle.schedule.specs.Comments.{commented}
use Rattle.schedule.specs.Text.{IsSchedule}
use Rattle.schedule.specs.Written.{written}
use Rattle.sources.specs.declared.refusal.Ending.{Ending}
use Rattle.sources.specs.declared.refusal.Ending.TheVariants as ending
use Rattle.sources.specs.Checking.{IsWellFormedSource}
use Rattle.sources.specs.Facts.{IsNotWellFormed, HasNoAssignment, IsAcceptedSource}
use Rattle.sources.specs.Verdicts.{NoAccepted}
use Rattle.state.specs.States.{State}
use Rattle.report.specs.States.{state_text}
use Rattle.semantics.specs.Run.{run, Runs, open_thread}
use Rattle.semantics.specs.Units.{written_order}
use Rattle.syntax.specs.Trees.{ProgramTree}
use Rattle.schedule_commands.specs.Schedules.{NoSchedule, NoRun, IsInput, HasInput, IsNoSchedule}

-- What is written for a schedule that runs to this state: its open order in a line, and the text of the state as comments. Read
-- as a schedule these bytes are the open order: a rearrangement that runs to the same state, is whole and leads every thread
-- through the same frames and statuses. Where no thread stands inside an atomic call at the end, it is the written order.
pub record IsOpenText (P : Program) (table : TableData) (s : List ℕ) (q : State) (out : List ℕ) : Type 0 where
  pub says : out ≡ written (open_order P s) ++ commented (state_text P table q)
  pub spells : IsSchedule out (open_order P s)
  pub gathered : IsGathered P s (open_order P s) q
  pub closed : open_thread P q ≡ None → open_order P s ≡ written_order P s

-- the line that refuses the source, else the schedule's text, else its run; or what is written for the schedule
pub data SerialiseOpenAnswer (file text : List ℕ) : Ending → List ℕ → Type 0 where
  not_accepted : {ending : Ending} {line : List ℕ} → NoAccepted file ending line → SerialiseOpenAnswer file text ending line
  no_schedule : {ending : Ending} {line : List ℕ} (tree : ProgramTree) (P : Program) → IsWellFormedSource file tree P → IsAccepted P → NoSchedule text ending line
      → SerialiseOpenAnswer file text ending line
  no_run : {ending : Ending} {line : List ℕ} (tree : ProgramTree) (P : Program) (s : List ℕ) → IsInput file text tree P s → IsAccepted P → NoRun P s ending line
      → SerialiseOpenAnswer file text ending line
  in_order : {out : List ℕ} (tree : ProgramTree) (P : Program) (s : List ℕ) (q : State) → IsInput file text tree P s → IsAccepted P → run P s ≡ Some q
      → IsOpenText P (table_of tree) s q out → SerialiseOpenAnswer file text ending.Done out

-- when `serialise-open` ends how
abbrev pub SerialiseOpenFact : List ℕ → List ℕ → Ending → Type 0
SerialiseOpenFact file text ending.Refused = IsNotWellFormed file
SerialiseOpenFact file text ending.Inadmissible = HasNoAssignment file
SerialiseOpenFact file text ending.NoSchedule = IsAcceptedSource file × IsNoSchedule text
SerialiseOpenFact file text ending.Stopped = HasInput file text (λ P s. IsAccepted P × (Runs P s → ⊥))
SerialiseOpenFact file text ending.Open = ⊥
SerialiseOpenFact file text ending.BookRefused = ⊥
SerialiseOpenFact file text ending.NothingToBlame = ⊥
SerialiseOpenFact file text ending.BlameRefused = ⊥
SerialiseOpenFact file text ending.LevelsRefused = ⊥
SerialiseOpenFact file text ending.CallTooDeep = ⊥
SerialiseOpenFact file text ending.Done = HasInput file text (λ P s. IsAccepted P × Runs P s)
