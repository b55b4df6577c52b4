use Rattle.classes.specs.Views.{table_data}
use Rattle.level_check.proofs.Keeping.{more_read}
use Rattle.level_check.proofs.lines.lines.Goals as goal

pub lines-preserved : goal.lines-preserved
lines-preserved c =
    more_read (table_data c.args.table.now) c.args.bytes.now c.lines.rest.now c.lines.levels.items c.in-Ok.behind.now c.line.new.levels.items c.lines.invariant
    (c.in-Ok.ensures c.lines.invariant.lines c.lines.invariant.keeps)
