use Rattle.algebra.specs.Basics.{star_of}
use Rattle.conditions.specs.Conditions.{cond_of}
use Rattle.conditions.proofs.LeafLemmas.{each-is}
use Rattle.conditions.proofs.AlgebraLemmas.{known_from, value_from}
use Rattle.conditions.proofs.trees.TreesAlgebra.star.Goals as goal

pub returns-clause-known : goal.returns-clause-known
returns-clause-known c = known_from _ _ _ (each-is star_of (cond_of c.args.a.now) c.requires) c.each_tree.ensures

pub returns-clause-value : goal.returns-clause-value
returns-clause-value c = value_from _ _ _ (each-is star_of (cond_of c.args.a.now) c.requires) c.each_tree.ensures
