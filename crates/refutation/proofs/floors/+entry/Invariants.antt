use Rattle.std.proofs.Common.{length}
use Rattle.refutation.proofs.floors.+entry.Given as goal

abbrev pub decreases-entry : goal.decreases-entry
decreases-entry l = length l.rel.now
