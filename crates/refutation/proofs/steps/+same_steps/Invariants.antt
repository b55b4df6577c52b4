use Rattle.std.proofs.Common.{length}
use Rattle.refutation.proofs.steps.+same_steps.Given as goal

-- the list gets shorter
abbrev pub decreases-same_steps : goal.decreases-same_steps
decreases-same_steps l = length l.steps.now
