use Rattle.std.proofs.Common.{◌+◌}
use Rattle.conditions.proofs.rows.Rows.+below.Given as goal

abbrev pub decreases-below : goal.decreases-below
decreases-below l = l.m + l.n
