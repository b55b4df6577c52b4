use Rattle.std.proofs.Common.{◌≡◌, ◌++◌, replicate}
use Rattle.schedule.proofs.reader.push_steps.Given as goal

abbrev pub invariant-loop-step : goal.invariant-loop-step
invariant-loop-step l = l.schedule.items ≡ l.initial.schedule.items ++ replicate l._step l.thread
