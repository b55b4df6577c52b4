use Rattle.std.proofs.Common.{◌≡◌, ◌+◌, ◌-◌, ◌++◌}
use Rattle.schedule.specs.Made.{called}
use Rattle.schedule.proofs.making.put_calls.Given as goal

abbrev pub invariant-loop-call : goal.invariant-loop-call
invariant-loop-call l = l.schedule.items ++ called (7 - l._call) l.n ≡ l.fn.schedule.items ++ called 7 l.n
