use Rattle.std.specs.FinMap.{entries}
use Rattle.machine.proofs.EqualMaps.{SameBelow}
use Rattle.machine.proofs.equal.same_locks.Given as goal

abbrev pub invariant-loop-place : goal.invariant-loop-place
invariant-loop-place l = SameBelow (entries l.one) (entries l.other) l.place
