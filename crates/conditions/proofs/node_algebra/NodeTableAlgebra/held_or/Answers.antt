use Rattle.conditions.proofs.HoldLemmas.{hold-is}
use Rattle.conditions.specs.Nodes.{tree_at}
use Rattle.conditions.proofs.Values.{value_by}
use Rattle.conditions.proofs.node_algebra.NodeTableAlgebra.held_or.Goals as goal

pub returns-clause-value : goal.returns-clause-value
returns-clause-value c =
    let f = c.in_ok-choice.ensures in
    let old = c.args.self.now in
    value_by c.choice.new.self c.in_ok-choice.field-0 _ _ f.stands
    (hold-is c.args.p.now (tree_at old c.args.a.now.0) (tree_at old c.args.b.now.0) (f.grows.was.canonical c.args.a.now.0 c.requires.a_known) (f.grows.was.canonical c.args.b.now.0 c.requires.b_known))
