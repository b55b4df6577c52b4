use Rattle.std.proofs.Common.{◌≡◌, ◌+◌, ◌-◌, ◌++◌}
use Rattle.schedule.specs.Made.{each_once}
use Rattle.schedule.proofs.making.put_each.Given as goal

abbrev pub invariant-loop-worker : goal.invariant-loop-worker
invariant-loop-worker l = l.schedule.items ++ each_once l.worker ((l.n + 1) - l.worker) ≡ l.fn.schedule.items ++ each_once 1 l.n
