use Rattle.std.proofs.Common.{◌≡◌, ◌+◌, ◌-◌, ◌++◌}
use Rattle.schedule.specs.Made.{each_times}
use Rattle.schedule.proofs.making.put_several.Given as goal

abbrev pub invariant-loop-round : goal.invariant-loop-round
invariant-loop-round l = l.schedule.items ++ each_times (5 - l._round) l.n ≡ l.fn.schedule.items ++ each_times 5 l.n
