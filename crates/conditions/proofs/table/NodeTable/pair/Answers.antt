-- Const changes nothing.
use Rattle.conditions.proofs.Steps.{unit_before, unit_behind}
use Rattle.conditions.proofs.table.NodeTable.pair.Goals as goal

pub returns-then-m-unit-clause-stands : goal.returns-then-m-unit-clause-stands
returns-then-m-unit-clause-stands c =
    let unit = c.number-unit.ensures in
    unit_before c.args.self.now c.args.f c.args.m c.args.n c.number-unit.result unit.table c.requires.n_there c.if-m-unit.true unit.stands.tree

pub returns-then-n-unit-clause-stands : goal.returns-then-n-unit-clause-stands
returns-then-n-unit-clause-stands c =
    let unit = c.number-unit.ensures in
    unit_behind c.args.self.now c.args.f c.args.m c.args.n c.number-unit.result unit.table c.requires.m_there c.if-n-unit.true unit.stands.tree
