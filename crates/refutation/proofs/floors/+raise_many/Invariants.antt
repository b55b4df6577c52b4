use Rattle.std.proofs.Common.{length}
use Rattle.refutation.proofs.floors.+raise_many.Given as goal

abbrev pub decreases-raise_many : goal.decreases-raise_many
decreases-raise_many l = length l.rel.now
