-- The test before both, at the root of one, or in the halves.
use Rattle.conditions.proofs.Steps.{hold_less, hold_equal, hold_canonical, hold_combined, stands_as}
use Rattle.conditions.proofs.table.NodeTable.+hold.Goals as goal

pub node-requires-in-Less-clause-canonical : goal.node-requires-in-Less-clause-canonical
node-requires-in-Less-clause-canonical t c =
    hold_canonical c.args.self.now c.args.p.now c.args.m c.args.n _ c.in-Tests.ensures.table c.requires.m_there c.requires.n_there
    (hold_less c.args.self.now c.args.p.now c.in-Tests.q c.args.m c.args.n c.in-Tests.a c.in-Tests.b c.in-Tests.c c.in-Tests.d c.in-Tests.ensures.split c.in-Less.ensures)

pub node-requires-in-Equal-clause-canonical : goal.node-requires-in-Equal-clause-canonical
node-requires-in-Equal-clause-canonical t c =
    hold_canonical c.args.self.now c.args.p.now c.args.m c.args.n _ c.in-Tests.ensures.table c.requires.m_there c.requires.n_there
    (hold_equal c.args.self.now c.args.p.now c.in-Tests.q c.args.m c.args.n c.in-Tests.a c.in-Tests.b c.in-Tests.c c.in-Tests.d c.in-Tests.ensures.split c.in-Equal.ensures)

pub returns-in-Less-clause-stands : goal.returns-in-Less-clause-stands
returns-in-Less-clause-stands t c =
    stands_as c.node-in-Less.new.self c.node-in-Less.result _ _
    (hold_less c.args.self.now c.args.p.now c.in-Tests.q c.args.m c.args.n c.in-Tests.a c.in-Tests.b c.in-Tests.c c.in-Tests.d c.in-Tests.ensures.split c.in-Less.ensures)
    c.node-in-Less.ensures.stands

pub returns-in-Equal-clause-stands : goal.returns-in-Equal-clause-stands
returns-in-Equal-clause-stands t c =
    stands_as c.node-in-Equal.new.self c.node-in-Equal.result _ _
    (hold_equal c.args.self.now c.args.p.now c.in-Tests.q c.args.m c.args.n c.in-Tests.a c.in-Tests.b c.in-Tests.c c.in-Tests.d c.in-Tests.ensures.split c.in-Equal.ensures)
    c.node-in-Equal.ensures.stands

pub combine-requires : goal.combine-requires
combine-requires t c =
    let x = c.in_ok-held-in-Greater.ensures in
    let y = c.in_ok-free-in-Greater.ensures in
    hold_combined c.args.self.now c.hold.new.self c.hold-in-Greater.new.self c.args.p.now c.copy.result c.in-Tests.q c.args.m c.args.n c.in-Tests.a c.in-Tests.b c.in-Tests.c c.in-Tests.d c.in_ok-held-in-Greater.held c.in_ok-free-in-Greater.free
    c.copy.ensures c.in-Tests.ensures.table c.requires.m_there c.requires.n_there c.in-Tests.ensures.split c.in-Greater.ensures x.grows x.stands y.grows y.stands
