-- Numbers are equal exactly where values are.
use Rattle.std.proofs.Common.{subst}
use Rattle.conditions.specs.Nodes.{IsTable}
use Rattle.conditions.proofs.Values.{same_number, same_node}
use Rattle.conditions.proofs.table.NodeTable.same_value.Goals as goal

pub returns-clause-value : goal.returns-clause-value
returns-clause-value c =
    same_number c.args.self.now c.args.a.now.0 c.args.b.now.0 c.eq.result (subst IsTable c.self.view_is c.count-count.ensures.table) c.requires.a_known c.requires.b_known c.eq.ensures

pub returns-clause-number : goal.returns-clause-number
returns-clause-number c = same_node c.args.a.now c.args.b.now c.eq.result c.eq.ensures
