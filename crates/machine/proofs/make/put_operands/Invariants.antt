use Rattle.std.proofs.Common.{◌≡◌, ◌++◌, reverse}
use Rattle.machine.specs.Listed.{listed}
use Rattle.machine.proofs.make.put_operands.Given as goal

abbrev pub invariant-loop-left : goal.invariant-loop-left
invariant-loop-left l = l.into.items ++ listed l.left (reverse l.operands) ≡ l.initial.into.items ++ listed l.count (reverse l.operands)

abbrev pub decreases-loop-left : goal.decreases-loop-left
decreases-loop-left l = l.left
