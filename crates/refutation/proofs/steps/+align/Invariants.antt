use Rattle.std.proofs.Common.{◌+◌, length}
use Rattle.refutation.proofs.steps.+align.Given as goal

-- one of both lists gets shorter
abbrev pub decreases-align : goal.decreases-align
decreases-align l = length l.rel.now + length l.its.now
