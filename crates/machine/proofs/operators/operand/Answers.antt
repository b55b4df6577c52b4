use Rattle.std.proofs.Common.{◌-◌, length, reverse, refl, sym, arith}
use Rattle.std.proofs.lemmas.List.{length-reverse}
use Rattle.machine.proofs.Operands.{operand_is, past_top}
use Rattle.machine.proofs.operators.operand.Goals as goal

pub returns-then-n-operands : goal.returns-then-n-operands
returns-then-n-operands c = operand_is c.args.operands.now c.args.n (length c.args.operands.now - 1 - c.args.n) _ c.if-n-operands.true refl

pub returns-else-n-operands : goal.returns-else-n-operands
returns-else-n-operands c = sym (past_top c.args.n (reverse c.args.operands.now) (omega (arith, length-reverse c.args.operands.now, c.if-n-operands.false)))
