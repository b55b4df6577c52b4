-- Why a turn was no step.
use Rattle.std.specs.Prelude.{◌≡◌}
use Rattle.semantics.specs.Step.{OutcomeOf, Moves, Absent, IsDone, HadFaulted, Waits}
use Rattle.machine.specs.declared.deed.StepEnd.{StepEnd}
use Rattle.machine.specs.declared.deed.StepEnd.TheVariants as ends

-- the reason why a turn that comes to this outcome was no step: the definition's, or want of memory where it is a step
abbrev pub IsReason : {F : Type 0} → StepEnd → OutcomeOf F → Type 0
IsReason why (Moves move) = why ≡ ends.NoMemory
IsReason why Absent = why ≡ ends.Absent
IsReason why IsDone = why ≡ ends.Done
IsReason why (HadFaulted kind) = why ≡ ends.Faulted kind
IsReason why (Waits a holder) = why ≡ ends.Waits a holder
