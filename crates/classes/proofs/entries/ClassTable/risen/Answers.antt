use Rattle.std.proofs.Common.{◌∙◌, arith}
use Rattle.classes.specs.Views.{table_data}
use Rattle.classes.proofs.Jumping.{kind_risen}
use Rattle.classes.proofs.entries.ClassTable.risen.Goals as goal

pub loop-preserved : goal.loop-preserved
loop-preserved c other same =
    kind_risen (table_data c.args.self.now) c.args.jumps.now c.requires c.loop.at other c.args.depth c.jump_at-to.result c.jump_at.result c.jump_at-to.ensures c.jump_at.ensures same
    (omega (arith, c.if-jump_at-depth.false))
    ∙ c.loop.invariant other same
