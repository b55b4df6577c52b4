-- Leaves have one value at every set.
use Rattle.conditions.specs.Conditions.{cond_of}
use Rattle.book_check.proofs.PairLemmas.{leaves_decide}
use Rattle.book_check.proofs.pairs.at_leaves.Goals as goal

pub returns : goal.returns
returns c =
    leaves_decide (cond_of c.args.t.now) (cond_of c.args.u.now) (cond_of c.args.d.now) c.in_ok-first.first c.in_ok-second.second c.in_ok-most.most c.seq-both.result c.below.result
    c.in_ok-first.ensures c.in_ok-second.ensures c.in_ok-most.ensures c.seq-both.ensures c.below.ensures
