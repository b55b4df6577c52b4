-- A test of two numbers that differ is a decision.
use Rattle.std.proofs.Common.{sym, subst}
use Rattle.conditions.specs.Nodes.{IsTable, StandsForTree}
use Rattle.conditions.proofs.Tables.{grows_itself}
use Rattle.conditions.proofs.Apart.{node_apart, apart_canonical, apart_stands}
use Rattle.conditions.proofs.rows.Rows.node.Goals as goal

pub returns-then-held-free-clause-grows : goal.returns-then-held-free-clause-grows
returns-then-held-free-clause-grows c = grows_itself c.args.self.now (subst IsTable c.self.view_is c.self.invariant)

pub returns-in-Some-clause-stands : goal.returns-in-Some-clause-stands
returns-in-Some-clause-stands c =
    subst (StandsForTree c.args.self.now c.in-Some.known)
    (sym (node_apart c.args.self.now c.args.p.now c.args.held c.args.free c.in-Some.ensures.table c.requires.held_there c.requires.free_there c.if-held-free.false))
    c.in-Some.ensures.stands

pub add-requires-clause-canonical : goal.add-requires-clause-canonical
add-requires-clause-canonical c =
    apart_canonical c.args.self.now c.args.p.now c.copy.result c.args.held c.args.free (subst IsTable c.self.view_is c.self.invariant)
    c.requires.held_there c.requires.free_there c.if-held-free.false c.copy.ensures c.requires.canonical

pub returns-clause-stands : goal.returns-clause-stands
returns-clause-stands c =
    apart_stands c.args.self.now _ c.args.p.now c.copy.result c.args.held c.args.free c.add.result (subst IsTable c.self.view_is c.self.invariant)
    c.requires.held_there c.requires.free_there c.if-held-free.false c.copy.ensures c.add.ensures.stands
