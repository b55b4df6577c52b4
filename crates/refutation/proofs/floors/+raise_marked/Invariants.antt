use Rattle.std.proofs.Common.{length}
use Rattle.refutation.proofs.floors.+raise_marked.Given as goal

abbrev pub decreases-raise_marked : goal.decreases-raise_marked
decreases-raise_marked l = length l.marks.now
