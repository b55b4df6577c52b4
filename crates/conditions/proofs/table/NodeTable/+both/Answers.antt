-- Const changes nothing; else the call of the halves.
use Rattle.conditions.proofs.Steps.{both_combined, unit_before, unit_behind}
use Rattle.conditions.proofs.table.NodeTable.+both.Goals as goal

pub returns-then-m-unit-clause-stands : goal.returns-then-m-unit-clause-stands
returns-then-m-unit-clause-stands t c =
    let unit = c.number-unit.ensures in
    unit_before c.args.self.now c.args.f c.args.m c.args.n c.number-unit.result unit.table c.requires.n_there c.if-m-unit.true unit.stands.tree

pub returns-then-n-unit-clause-stands : goal.returns-then-n-unit-clause-stands
returns-then-n-unit-clause-stands t c =
    let unit = c.number-unit.ensures in
    unit_behind c.args.self.now c.args.f c.args.m c.args.n c.number-unit.result unit.table c.requires.m_there c.if-n-unit.true unit.stands.tree

pub combine-requires : goal.combine-requires
combine-requires t c =
    let x = c.in_ok-held-in-Tests.ensures in
    let y = c.in_ok-free-in-Tests.ensures in
    both_combined c.args.self.now c.both.new.self c.both-in-Tests.new.self c.args.f c.in-Tests.p c.args.m c.args.n c.in-Tests.a c.in-Tests.b c.in-Tests.c c.in-Tests.d c.in_ok-held-in-Tests.held c.in_ok-free-in-Tests.free
    c.in-Tests.ensures.table c.requires.m_there c.requires.n_there c.in-Tests.ensures.split x.grows x.stands y.grows y.stands
