use Rattle.conditions.proofs.table.NodeTable.+renamed_at.Given as goal

abbrev pub decreases-renamed_at : goal.decreases-renamed_at
decreases-renamed_at l = l.n
