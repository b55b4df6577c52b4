use Rattle.std.proofs.Common.{◌≡◌, ◌-◌, ◌+◌, ◌==◌, false, Some, length, sym, ◌∙◌, arith}
use Rattle.classes.specs.Table.{above_in_table}
use Rattle.classes.specs.Views.{table_data}
use Rattle.classes.proofs.Going.{reached_above}
use Rattle.classes.proofs.entries.ClassTable.is_kind_by_steps.Goals as goal

pub loop-preserved : goal.loop-preserved
loop-preserved c =
    let t = table_data c.args.self.now in
    let count = length c.args.self.now.classes.items in
    let other : (c.loop.at == c.args.other) ≡ false = sym c.eq.ensures ∙ c.if-eq.false in
    sym (reached_above (above_in_table t) (count - c.loop.counter) (count - (c.loop.counter + 1)) c.loop.at c.args.other (Some c.in-Some.above)
    (omega (arith, c.loop-test.true, c.len-end.ensures)) other (sym c.above.ensures ∙ c.in-Some.is))
    ∙ c.loop.invariant
