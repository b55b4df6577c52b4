use Rattle.book_check.proofs.values.+visited.Given as goal

abbrev pub decreases-visited : goal.decreases-visited
decreases-visited l = l.depth
