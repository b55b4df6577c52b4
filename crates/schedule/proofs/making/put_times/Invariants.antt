use Rattle.std.proofs.Common.{◌≡◌, ◌+◌, ◌-◌, ◌++◌, replicate}
use Rattle.schedule.proofs.making.put_times.Given as goal

abbrev pub invariant-loop-entry : goal.invariant-loop-entry
invariant-loop-entry l = l.schedule.items ++ replicate (l.count - l._entry) l.thread ≡ l.fn.schedule.items ++ replicate l.count l.thread
