use Rattle.std.proofs.Common.{◌+◌}
use Rattle.conditions.proofs.table.NodeTable.+both.Given as goal

abbrev pub decreases-both : goal.decreases-both
decreases-both l = l.m + l.n
