use Rattle.std.proofs.Common.{arith}
use Rattle.classes.specs.Families.{tree_of, rows_data}
use Rattle.classes.proofs.Rows.{rows_end}
use Rattle.classes.proofs.overriding.all_headings.Goals as goal

pub returns : goal.returns
returns c =
    rows_end (tree_of c.args.family.now) c.args.family.now.classes.now c.loop-number.number (rows_data c.loop-number.rows.items)
    (omega (arith, c.loop-number-test.false)) c.loop-number.invariant
