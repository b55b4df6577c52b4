-- What the machine stands for, and what comes of a turn and of a schedule.
use Rattle.std.specs.Prelude.{◌≡◌, ◌≢◌, ℕ, ◌+◌, List, Some, Result, Err, MatchResult, take, slice_get}
use Rattle.core_program.specs.Core.{Program}
use Rattle.core_program.specs.Views.{program_of}
use Rattle.state.specs.declared.value.StepKind.{StepKind}
use Rattle.state.specs.States.{State}
use Rattle.semantics.specs.Step.{Outcome, Moves, Absent, IsDone, HadFaulted, Waits, moved, outcome}
use Rattle.semantics.specs.Run.{run_from}
use Rattle.machine.specs.declared.deed.StepEnd.{StepEnd}
use Rattle.machine.specs.declared.machine.Stopped.{Stopped}
use Rattle.machine.specs.declared.deed.StepEnd.TheVariants as ends
use Rattle.machine.specs.MachineValue.{MachineValue, code_state}
use Rattle.machine.specs.Likeness.{StateStands}
use Rattle.machine.specs.Reasons.{IsReason}

-- the program that a machine runs
abbrev pub program_run : MachineValue → Program
program_run m = program_of m.program

-- the machine's state stands for a state of the definition
abbrev pub StandsFor : MachineValue → State → Type 0
StandsFor m q = StateStands (program_run m) m.code.code.items (code_state m.state) q

-- the answer of a step of a thread, and what the machine stands for then, where the definition's turn comes to this:
-- after a step it stands for the state after it, or memory was wanting; and each refusal has the definition's reason
abbrev pub IsTurn : ℕ → Result (Unit {0}) StepEnd → MachineValue → State → Outcome → Type 0
IsTurn t result m q (Moves move) = MatchResult result (λ _. StandsFor m (moved t move q)) (λ e. e ≡ ends.NoMemory)
IsTurn t result m q Absent = result ≡ Err ends.Absent
IsTurn t result m q IsDone = result ≡ Err ends.Done
IsTurn t result m q (HadFaulted kind) = result ≡ Err (ends.Faulted kind)
IsTurn t result m q (Waits a holder) = result ≡ Err (ends.Waits a holder)

-- the same of a step that tells its kind: after a step this is the definition's
abbrev pub IsKindTurn : ℕ → Result StepKind StepEnd → MachineValue → State → Outcome → Type 0
IsKindTurn t result m q (Moves move) = MatchResult result (λ kind. (kind ≡ move.kind) × StandsFor m (moved t move q)) (λ e. e ≡ ends.NoMemory)
IsKindTurn t result m q Absent = result ≡ Err ends.Absent
IsKindTurn t result m q IsDone = result ≡ Err ends.Done
IsKindTurn t result m q (HadFaulted kind) = result ≡ Err (ends.Faulted kind)
IsKindTurn t result m q (Waits a holder) = result ≡ Err (ends.Waits a holder)

-- two machines are the same, but for the spare rooms of frames
pub record IsSame (m n : MachineValue) : Type 0 where
  pub program : m.program ≡ n.program
  pub code : m.code ≡ n.code
  pub state : code_state m.state ≡ code_state n.state
  pub made : m.made ≡ n.made

-- A schedule from a state stops at its entry of this number, counted from 1, in this state: the entries before it run to the
-- state, in which the entry's thread has no step for the reason that is told, or memory was wanting.
pub record IsStop (P : Program) (q : State) (schedule : List ℕ) (stopped : Stopped) (before : State) : Type 0 where
  pub place : ℕ
  pub entry : stopped.entry ≡ place + 1
  pub thread : slice_get schedule place ≡ Some stopped.thread
  pub ran : run_from P q (take place schedule) ≡ Some before
  pub why : IsReason stopped.why (outcome P before stopped.thread)

-- The schedule stops so, whatever memory there is: its first entry that has no step is this one.
pub record IsStopped (P : Program) (q : State) (schedule : List ℕ) (stopped : Stopped) : Type 0 where
  pub before : State
  pub stop : IsStop P q schedule stopped before
  pub refused : stopped.why ≢ ends.NoMemory

-- the machine stands for the state that a schedule runs to from this one
abbrev pub HasRun : MachineValue → Program → State → List ℕ → Type 0
HasRun m P q schedule = (r : State) × (run_from P q schedule ≡ Some r) × StandsFor m r

-- the machine stands for the state in which a schedule from this one stops
abbrev pub HasStopped : MachineValue → Program → State → List ℕ → Stopped → Type 0
HasStopped m P q schedule stopped = (before : State) × IsStop P q schedule stopped before × StandsFor m before
