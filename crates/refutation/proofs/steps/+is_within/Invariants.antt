use Rattle.std.proofs.Common.{length}
use Rattle.refutation.proofs.steps.+is_within.Given as goal

-- fewer steps are left
abbrev pub decreases-is_within : goal.decreases-is_within
decreases-is_within l = length l.steps.now
