-- What the rows on schedules read, and what refuses it.
use Rattle.std.specs.Prelude.{◌≡◌, ℕ, List, Some, None, IsSome}
use Rattle.core_program.specs.Core.{Program}
use Rattle.machine.specs.declared.machine.Stopped.{Stopped}
use Rattle.machine.specs.Standing.{IsStopped}
use Rattle.schedule.specs.Faults.{HasFormFault, HasLengthFault}
use Rattle.schedule.specs.Text.{IsSchedule}
use Rattle.sources.specs.declared.refusal.Ending.{Ending}
use Rattle.sources.specs.declared.refusal.Ending.TheVariants as ending
use Rattle.sources.specs.Checking.{IsWellFormedSource}
use Rattle.state.specs.States.{State, initial}
use Rattle.report.specs.Schedules.{schedule_form_line, too_long_line, stopped_line, inside_call_line}
use Rattle.semantics.specs.Run.{run, open_thread}
use Rattle.syntax.specs.Trees.{ProgramTree}

-- the line that refuses bytes that are the text of no schedule: their first fault
pub data NoSchedule (text : List ℕ) : Ending → List ℕ → Type 0 where
  form : (place : ℕ) → HasFormFault text place → NoSchedule text ending.NoSchedule (schedule_form_line place)
  too_long : (place : ℕ) → HasLengthFault text place → NoSchedule text ending.NoSchedule (too_long_line place)

-- the line that refuses a schedule that doesn't run: its first entry that can't step, and why
pub data NoRun (P : Program) (s : List ℕ) : Ending → List ℕ → Type 0 where
  stopped : (at : Stopped) → IsStopped P (initial P) s at → NoRun P s ending.Stopped (stopped_line at)

-- the line that refuses a schedule that can't be rewritten: why it doesn't run, else the least thread that stands inside an
-- atomic call at its end
pub data NoOrder (P : Program) (s : List ℕ) : Ending → List ℕ → Type 0 where
  no_run : {ending : Ending} {line : List ℕ} → NoRun P s ending line → NoOrder P s ending line
  open_call : (q : State) (t : ℕ) → run P s ≡ Some q → open_thread P q ≡ Some t → NoOrder P s ending.Open (inside_call_line t)

-- the files are a well-formed source with this tree and this core program, and the text of this schedule
pub record IsInput (file text : List ℕ) (tree : ProgramTree) (P : Program) (s : List ℕ) : Type 0 where
  pub source : IsWellFormedSource file tree P
  pub schedule : IsSchedule text s

-- the files are a well-formed source and the text of a schedule, for which this holds
abbrev pub HasInput : List ℕ → List ℕ → (Program → List ℕ → Type 0) → Type 0
HasInput file text holds = (tree : ProgramTree) × (P : Program) × (s : List ℕ) × IsInput file text tree P s × holds P s

-- the bytes are a well-formed source
abbrev pub IsWellFormedText : List ℕ → Type 0
IsWellFormedText file = (tree : ProgramTree) × (P : Program) × IsWellFormedSource file tree P

-- the bytes are the text of no schedule
abbrev pub IsNoSchedule : List ℕ → Type 0
IsNoSchedule text = (s : List ℕ) → IsSchedule text s → ⊥

-- the schedule runs to a state in which some thread stands inside an atomic call
abbrev pub LeavesCallOpen : Program → List ℕ → Type 0
LeavesCallOpen P s = (q : State) × (run P s ≡ Some q) × IsSome (open_thread P q)

-- the schedule runs to a state in which no thread stands inside an atomic call
abbrev pub EndsOutside : Program → List ℕ → Type 0
EndsOutside P s = (q : State) × (run P s ≡ Some q) × (open_thread P q ≡ None)
