use Rattle.book_check.proofs.pairs.+pair_below.Given as goal

abbrev pub decreases-pair_below : goal.decreases-pair_below
decreases-pair_below l = l.depth
