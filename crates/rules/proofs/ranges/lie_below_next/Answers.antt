-- One method more, and all.
use Rattle.std.proofs.Common.{arith}
use Rattle.rules.proofs.RangeLemmas.{more_tested, all_tested}
use Rattle.rules.proofs.ranges.lie_below_next.Goals as goal

pub loop-over-preserved : goal.loop-over-preserved
loop-over-preserved c over m low is =
    more_tested c.args.nexts.now c.args.order.now c.args.ranges.now c.loop-over.over over m
    (c.lies_below_next.ensures c.if-not-lies_below_next.false) c.loop-over.invariant low is

pub returns : goal.returns
returns c holds = all_tested c.args.nexts.now c.args.order.now c.args.ranges.now c.loop-over.over (omega (arith, c.loop-over-test.false, c.loop-over.auto.over-end)) c.loop-over.invariant
