-- All classes are there.
use Rattle.std.proofs.Common.{◌∙◌, length, ap, arith}
use Rattle.rules.proofs.AboveLemmas.{lines_all}
use Rattle.rules.proofs.above.lines.Goals as goal

pub returns : goal.returns
returns c =
    c.loop-class.invariant
    ∙ lines_all c.args.program.now.classes.items c.loop-class.class-index (omega (arith, c.loop-class-test.false, ap length c.as_slice-class-items.ensures.value))
