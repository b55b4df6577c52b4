use Rattle.std.proofs.Common.{length}
use Rattle.refutation.proofs.groups.+join_groups.Given as goal

-- the list gets shorter
abbrev pub decreases-join_groups : goal.decreases-join_groups
decreases-join_groups l = length l.groups.now
