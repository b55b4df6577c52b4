use Rattle.std.proofs.Common.{◌≡◌}
use Rattle.machine.proofs.Schedules.{HasCome}
use Rattle.machine.proofs.machine.Machine.run.Given as goal

abbrev pub invariant-loop-thread : goal.invariant-loop-thread
invariant-loop-thread l = (l.entry ≡ l.thread-index) × HasCome l.initial.self l.self l.schedule l.thread-index
