use Rattle.std.proofs.Common.{◌≡◌, length}
use Rattle.std.specs.Prelude.{take}
use Rattle.serialise.specs.Made.{HaveRun}
use Rattle.serialise.specs.Tables.{value_or}
use Rattle.serialise.proofs.run.run_noted.Given as goal

abbrev pub invariant-loop-place : goal.invariant-loop-place
invariant-loop-place l = (l.machine.program ≡ l.fn.machine.program) × (l.machine.made ≡ l.place) × (length l.steps.items ≡ l.place) × HaveRun l.machine (take l.place l.schedule) l.steps.items (value_or 0 l.calls.items)
