use Rattle.std.proofs.Common.{◌+◌}
use Rattle.conditions.proofs.table.NodeTable.+hold.Given as goal

abbrev pub decreases-hold : goal.decreases-hold
decreases-hold l = l.m + l.n
