-- Steps that a machine made.
use Rattle.std.specs.Prelude.{◌≡◌, ◌⊎◌, ℕ, List, Some, Ok}
use Rattle.core_program.specs.Core.{Program}
use Rattle.state.specs.States.{State}
use Rattle.semantics.specs.Run.{run, inside}
use Rattle.semantics.specs.Step.{Outcome, Moves, moved, outcome}
use Rattle.semantics.specs.Units.{entries}
use Rattle.machine.specs.declared.deed.StepEnd.{StepEnd}
use Rattle.machine.specs.declared.deed.StepEnd.TheVariants as ends
use Rattle.machine.specs.MachineValue.{MachineValue}
use Rattle.machine.specs.Standing.{program_run, StandsFor, IsTurn, IsSame}
use Rattle.serialise.specs.declared.step.Step.{Step}
use Rattle.serialise.specs.Calls.{AreCalls}
use Rattle.serialise.specs.Entries.{entries_of}

-- what a step of a thread is told as, where the definition's turn comes to this; for which state the machine stands then, and
-- the numbers of atomic calls in it
abbrev pub IsMadeStep : Program → ℕ → State → MachineValue → Step → (ℕ → ℕ) → Outcome → Type 0
IsMadeStep P t q m step calls (Moves move) =
    (step ≡ record { thread = t; kind = move.kind; inside = inside P (moved t move q) t }) × StandsFor m (moved t move q) × AreCalls P (moved t move q) calls
IsMadeStep P t q m step calls _ = ⊥

-- the machine after a thread's step that isn't told, for this reason: it is as it was, or memory was wanting for the note of a
-- step that it made
abbrev pub IsAfterUntoldStep : ℕ → MachineValue → MachineValue → StepEnd → Type 0
IsAfterUntoldStep t old new ends.NoMemory = IsSame new old ⊎ ((q : State) → StandsFor old q → IsTurn t (Ok tt) new q (outcome (program_run old) q t))
IsAfterUntoldStep t old new _ = IsSame new old

-- these steps are those of the schedule from the start, the machine stands for the state that it runs to, and these are the
-- numbers of atomic calls in it
pub record HaveRun (m : MachineValue) (s : List ℕ) (steps : List Step) (calls : ℕ → ℕ) : Type 0 where
  pub end : State
  pub ran : run (program_run m) s ≡ Some end
  pub stands : StandsFor m end
  pub called : AreCalls (program_run m) end calls
  pub noted : entries_of 0 steps ≡ entries (program_run m) s
