use Rattle.std.proofs.Common.{length}
use Rattle.refutation.proofs.floors.+mark.Given as goal

abbrev pub decreases-mark : goal.decreases-mark
decreases-mark l = length l.rel.now
