use Rattle.std.proofs.Common.{length}
use Rattle.conditions.proofs.tree_operations.+hold_partners_in.Given as goal

abbrev pub decreases-hold_partners_in : goal.decreases-hold_partners_in
decreases-hold_partners_in l = length l.pairs.now
