use Rattle.std.proofs.Common.{length}
use Rattle.refutation.proofs.floors.+consts.Given as goal

abbrev pub decreases-consts : goal.decreases-consts
decreases-consts l = length l.rel.now
