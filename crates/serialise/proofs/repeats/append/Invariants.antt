use Rattle.std.proofs.Common.{◌≡◌, ◌++◌, replicate}
use Rattle.serialise.proofs.repeats.append.Given as goal

abbrev pub invariant-loop-step : goal.invariant-loop-step
invariant-loop-step l = l.order.items ≡ l.initial.order.items ++ replicate l._step l.thread
