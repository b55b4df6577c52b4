use Rattle.std.proofs.Common.{◌+◌, ◌≤◌, drop}
use Rattle.refutation.specs.Works.{rising}
use Rattle.refutation.proofs.work.overriding_cost.Given as goal

-- those that are counted, and at most those that are left, are at most all
abbrev pub invariant-loop-method : goal.invariant-loop-method
invariant-loop-method l = l.count + rising l.least (drop l.method-index l.methods) ≤ rising 0 l.methods
