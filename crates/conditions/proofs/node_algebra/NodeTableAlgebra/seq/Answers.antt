use Rattle.algebra.specs.Basics.{seq_of}
use Rattle.conditions.proofs.LeafLemmas.{both-is}
use Rattle.conditions.specs.Nodes.{tree_at}
use Rattle.conditions.proofs.Values.{value_by}
use Rattle.conditions.proofs.node_algebra.NodeTableAlgebra.seq.Goals as goal

pub returns-clause-value : goal.returns-clause-value
returns-clause-value c =
    let f = c.in_ok-pair.ensures in
    let old = c.args.self.now in
    value_by c.pair.new.self c.in_ok-pair.field-0 _ _ f.stands
    (both-is seq_of (tree_at old c.args.a.now.0) (tree_at old c.args.b.now.0) (f.grows.was.canonical c.args.a.now.0 c.requires.a_known) (f.grows.was.canonical c.args.b.now.0 c.requires.b_known))
