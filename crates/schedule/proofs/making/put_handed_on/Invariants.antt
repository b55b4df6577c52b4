use Rattle.std.proofs.Common.{◌≡◌, ◌+◌, ◌-◌, ◌++◌}
use Rattle.schedule.specs.Made.{handed_on}
use Rattle.schedule.proofs.making.put_handed_on.Given as goal

abbrev pub invariant-loop-worker : goal.invariant-loop-worker
invariant-loop-worker l = l.schedule.items ++ handed_on l.both l.alone l.worker (l.n - l.worker) ≡ l.fn.schedule.items ++ handed_on l.both l.alone 1 (l.n - 1)
