use Rattle.conditions.proofs.table.NodeTable.+each.Given as goal

abbrev pub decreases-each : goal.decreases-each
decreases-each l = l.n
