-- A test whose parts are changed.
use Rattle.conditions.proofs.Steps.{each_combined}
use Rattle.conditions.proofs.table.NodeTable.+each.Goals as goal

pub combine-requires : goal.combine-requires
combine-requires t c =
    let x = c.in_ok-held-in-Test.ensures in
    let y = c.in_ok-free-in-Test.ensures in
    each_combined c.args.self.now c.each.new.self c.each-in-Test.new.self c.args.f c.in-Test.p c.args.n c.in-Test.a c.in-Test.b c.in_ok-held-in-Test.held c.in_ok-free-in-Test.free
    c.in-Test.ensures.table c.requires c.in-Test.ensures.tree c.in-Test.ensures.before x.grows x.stands y.grows y.stands
