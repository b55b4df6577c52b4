use Rattle.conditions.proofs.table.NodeTable.+sync_at.Given as goal

abbrev pub decreases-sync_at : goal.decreases-sync_at
decreases-sync_at l = l.n
