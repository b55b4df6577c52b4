-- Refused steps, as why a schedule doesn't run.
use Rattle.std.specs.Prelude.{ℕ, List}
use Rattle.core_program.specs.Core.{Program}
use Rattle.state.specs.States.{initial}
use Rattle.machine.specs.declared.deed.StepEnd.{StepEnd}
use Rattle.machine.specs.declared.deed.StepEnd.TheVariants as step
use Rattle.machine.specs.Standing.{IsStopped}
use Rattle.serialise.specs.declared.run_end.RunEnd.{RunEnd}
use Rattle.serialise.specs.declared.run_end.RunEnd.TheVariants as ends

-- want of memory is no stop
abbrev pub refusal : (entry thread : ℕ) → StepEnd → RunEnd
refusal entry thread step.NoMemory = ends.NoMemory
refusal entry thread step.Absent = ends.Stopped (record { entry = entry; thread = thread; why = step.Absent })
refusal entry thread step.Done = ends.Stopped (record { entry = entry; thread = thread; why = step.Done })
refusal entry thread (step.Faulted kind) = ends.Stopped (record { entry = entry; thread = thread; why = step.Faulted kind })
refusal entry thread (step.Waits address holder) = ends.Stopped (record { entry = entry; thread = thread; why = step.Waits address holder })

-- when each refusal comes; of want of memory nothing is said
abbrev pub IsNoRun : Program → List ℕ → RunEnd → Type 0
IsNoRun P s (ends.Stopped stopped) = IsStopped P (initial P) s stopped
IsNoRun P s ends.NoMemory = Unit {0}
