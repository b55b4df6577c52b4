use Rattle.conditions.proofs.rows.Rows.+tree.Given as goal

abbrev pub decreases-tree : goal.decreases-tree
decreases-tree l = l.n
