use Rattle.algebra.specs.Basics.{join_of}
use Rattle.conditions.specs.Conditions.{cond_of}
use Rattle.conditions.proofs.LeafLemmas.{both-is}
use Rattle.conditions.proofs.AlgebraLemmas.{known_from, value_from}
use Rattle.conditions.proofs.trees.TreesAlgebra.join.Goals as goal

pub returns-clause-known : goal.returns-clause-known
returns-clause-known c = known_from _ _ _ (both-is join_of (cond_of c.args.a.now) (cond_of c.args.b.now) c.requires.a_known c.requires.b_known) c.both.ensures

pub returns-clause-value : goal.returns-clause-value
returns-clause-value c = value_from _ _ _ (both-is join_of (cond_of c.args.a.now) (cond_of c.args.b.now) c.requires.a_known c.requires.b_known) c.both.ensures
