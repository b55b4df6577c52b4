use Rattle.std.proofs.Common.{length}
use Rattle.conditions.proofs.table.NodeTable.+hold_partners.Given as goal

abbrev pub decreases-hold_partners : goal.decreases-hold_partners
decreases-hold_partners l = length l.pairs.now
