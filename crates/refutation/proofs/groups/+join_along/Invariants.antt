use Rattle.std.proofs.Common.{length}
use Rattle.refutation.proofs.groups.+join_along.Given as goal

-- fewer steps are left
abbrev pub decreases-join_along : goal.decreases-join_along
decreases-join_along l = length l.steps.now
