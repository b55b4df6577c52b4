-- Two leaves, where the path is held and where it isn't.
use Rattle.conditions.specs.Conditions.{cond_of}
use Rattle.book_check.proofs.BranchLemmas.{branches_below}
use Rattle.book_check.proofs.branching.where_below.Goals as goal

pub returns : goal.returns
returns c =
    branches_below c.args.path.now c.args.held c.args.free c.in_ok-high.high c.in_ok-low.low (cond_of c.args.d.now) (cond_of c.branches.result.0.now) (cond_of c.branches.result.1.now)
    c.below.result c.below-2.result c.both.result c.branches.ensures.held c.branches.ensures.free c.in_ok-high.ensures c.in_ok-low.ensures c.below.ensures c.below-2.ensures c.both.ensures
