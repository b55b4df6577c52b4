-- The test on the lock before the others, at the root, or in the parts.
use Rattle.conditions.proofs.Steps.{sync_less, sync_equal, sync_canonical, sync_combined}
use Rattle.conditions.specs.Nodes.{tree_at}
use Rattle.conditions.proofs.table.NodeTable.+sync_at.Goals as goal

pub lifted-requires-in-Less-clause-canonical : goal.lifted-requires-in-Less-clause-canonical
lifted-requires-in-Less-clause-canonical t c =
    let at = tree_at c.args.self.now in
    sync_canonical c.args.self.now c.args.p.now c.args.n _ c.in-Test.ensures.table c.requires
    (sync_less c.args.p.now c.in-Test.q (at c.args.n) (at c.in-Test.a) (at c.in-Test.b) c.in-Test.ensures.tree c.in-Less.ensures)

pub lifted-requires-in-Equal-clause-canonical : goal.lifted-requires-in-Equal-clause-canonical
lifted-requires-in-Equal-clause-canonical t c =
    let at = tree_at c.args.self.now in
    sync_canonical c.args.self.now c.args.p.now c.args.n _ c.in-Test.ensures.table c.requires
    (sync_equal c.args.p.now c.in-Test.q (at c.args.n) (at c.in-Test.a) (at c.in-Test.b) c.in-Test.ensures.tree c.in-Equal.ensures)

pub combine-requires : goal.combine-requires
combine-requires t c =
    let x = c.in_ok-held-in-Greater.ensures in
    let y = c.in_ok-free-in-Greater.ensures in
    sync_combined c.args.self.now c.sync_at.new.self c.sync_at-in-Greater.new.self c.args.p.now c.copy.result c.in-Test.q c.args.n c.in-Test.a c.in-Test.b c.in_ok-held-in-Greater.held c.in_ok-free-in-Greater.free
    c.copy.ensures c.in-Test.ensures.table c.requires c.in-Test.ensures.tree c.in-Test.ensures.before c.in-Greater.ensures x.grows x.stands y.grows y.stands
