use Rattle.std.proofs.Common.{sym, ◌∙◌}
use Rattle.classes.specs.Views.{table_data}
use Rattle.classes.proofs.Jumping.{found_passed}
use Rattle.classes.proofs.entries.ClassTable.passed.Goals as goal

pub loop-preserved : goal.loop-preserved
loop-preserved c own of =
    found_passed (table_data c.args.self.now) c.args.jumps.now c.requires.jumps own c.args.bucket c.requires.low of c.loop.at c.jump_at-jump.result c.jump_at-jump.ensures
    (sym c.has_bucket.ensures ∙ c.if-has_bucket.false)
    ∙ c.loop.invariant own of
