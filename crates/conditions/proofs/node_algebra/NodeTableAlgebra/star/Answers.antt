use Rattle.algebra.specs.Basics.{star_of}
use Rattle.conditions.proofs.LeafLemmas.{each-is}
use Rattle.conditions.specs.Nodes.{tree_at}
use Rattle.conditions.proofs.Values.{value_by}
use Rattle.conditions.proofs.node_algebra.NodeTableAlgebra.star.Goals as goal

pub returns-clause-value : goal.returns-clause-value
returns-clause-value c =
    let f = c.in_ok-each.ensures in
    let old = c.args.self.now in
    value_by c.each.new.self c.in_ok-each.field-0 _ _ f.stands
    (each-is star_of (tree_at old c.args.a.now.0) (f.grows.was.canonical c.args.a.now.0 c.requires))
