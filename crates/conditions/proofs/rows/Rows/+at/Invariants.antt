use Rattle.conditions.proofs.rows.Rows.+at.Given as goal

abbrev pub decreases-at : goal.decreases-at
decreases-at l = l.n
