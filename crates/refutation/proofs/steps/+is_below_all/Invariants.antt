use Rattle.std.proofs.Common.{length}
use Rattle.refutation.proofs.steps.+is_below_all.Given as goal

-- fewer paths are left
abbrev pub decreases-is_below_all : goal.decreases-is_below_all
decreases-is_below_all l = length l.rel.now
