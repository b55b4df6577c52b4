use Rattle.std.proofs.Common.{length}
use Rattle.infer.proofs.table.+pick.Given as goal

abbrev pub decreases-pick : goal.decreases-pick
decreases-pick G l = length l.pairs.now
