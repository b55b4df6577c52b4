use Rattle.std.proofs.Common.{length}
use Rattle.refutation.proofs.bodies.+tell_between.Given as goal

-- fewer paths are left
abbrev pub decreases-tell_between : goal.decreases-tell_between
decreases-tell_between l = length l.others.now
