-- A machine whose steps are watched.
use Rattle.std.specs.Prelude.{◌≡◌, ◌≢◌, ℕ, List, length, Some, Result, Err, MatchResult}
use Rattle.core_program.specs.Core.{Program}
use Rattle.core_program.specs.Typed.{IsTyped}
use Rattle.rules.specs.Rules.{IsAccepted}
use Rattle.state.specs.declared.value.StepKind.{StepKind}
use Rattle.state.specs.declared.value.StepKind.TheVariants.{Bare}
use Rattle.state.specs.States.{State}
use Rattle.semantics.specs.Step.{Outcome, Moves, Absent, IsDone, HadFaulted, Waits, moved, kind_of}
use Rattle.semantics.specs.Run.{run}
use Rattle.semantics.specs.Units.{entries, units}
use Rattle.semantics.specs.Words.{HasWords}
use Rattle.machine.specs.declared.deed.StepEnd.{StepEnd}
use Rattle.machine.specs.declared.deed.StepEnd.TheVariants as ends
use Rattle.machine.specs.MachineValue.{MachineValue}
use Rattle.machine.specs.Standing.{program_run, StandsFor}

-- the machine, and the threads whose steps it made, in order
abbrev pub WatchedValue : Type 0
WatchedValue = MachineValue × List ℕ

-- the steps are a schedule that runs, from the start, to a state that the machine stands for; their number is what the machine counts
pub record HasMade (m : MachineValue) (steps : List ℕ) : Type 0 where
  pub state : State
  pub ran : run (program_run m) steps ≡ Some state
  pub stands : StandsFor m state
  pub counted : m.made ≡ length steps

-- of a machine that runs a typed and accepted program
pub record IsWatched (m : MachineValue) (steps : List ℕ) : Type 0 where
  pub typed : IsTyped (program_run m)
  pub accepted : IsAccepted (program_run m)
  pub made : HasMade m steps

-- guards are held: in the state that the steps run to, no thread's next step is Bare
abbrev pub HoldsGuards : Program → List ℕ → Type 0
HoldsGuards P steps = (q : State) → run P steps ≡ Some q → (t : ℕ) → kind_of P q t ≢ Some Bare

-- what is known of the steps: they run to a state that the machine stands for; guards are held there; and the kinds of each atomic
-- call's steps are a reducible word, so far as it was made
pub record IsGuarded (m : MachineValue) (steps : List ℕ) : Type 0 where
  pub made : HasMade m steps
  pub guards : HoldsGuards (program_run m) steps
  pub words : HasWords (units (entries (program_run m) steps))

-- the answer of a step of a thread, and what the machine stands for then, where the definition's turn comes to this: the step's
-- kind, or that memory was wanting; and each refusal has the definition's reason
abbrev pub IsWatchedTurn : ℕ → Result StepKind StepEnd → MachineValue → State → Outcome → Type 0
IsWatchedTurn t result m q (Moves move) = MatchResult result (λ kind. (kind ≡ move.kind) × StandsFor m (moved t move q)) (λ e. e ≡ ends.NoMemory)
IsWatchedTurn t result m q Absent = result ≡ Err ends.Absent
IsWatchedTurn t result m q IsDone = result ≡ Err ends.Done
IsWatchedTurn t result m q (HadFaulted kind) = result ≡ Err (ends.Faulted kind)
IsWatchedTurn t result m q (Waits a holder) = result ≡ Err (ends.Waits a holder)
