use Rattle.std.proofs.Common.{◌-◌, reverse, arith}
use Rattle.machine.proofs.Lists.{one_operand}
use Rattle.machine.proofs.make.put_operands.Goals as goal

pub loop-left-preserved : goal.loop-left-preserved
loop-left-preserved c =
    one_operand c.loop-left.into.items c.push.new.self.items _ (c.loop-left.left - 1) c.loop-left.left (reverse c.args.operands.now) c.operand.result (omega arith) c.operand.ensures c.in_ok-push.ensures.items c.loop-left.invariant
