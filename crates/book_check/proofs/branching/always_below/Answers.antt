-- A leaf has one value at every set.
use Rattle.conditions.specs.Conditions.{cond_of}
use Rattle.book_check.proofs.BranchLemmas.{always_below}
use Rattle.book_check.proofs.branching.always_below.Goals as goal

pub returns : goal.returns
returns c = always_below c.args.basic c.in_ok-most.most (cond_of c.args.d.now) c.below.result c.in_ok-most.ensures c.below.ensures
