use Rattle.std.proofs.Common.{length}
use Rattle.refutation.proofs.overs.+are_below.Given as goal

-- the table gets shorter
abbrev pub decreases-are_below : goal.decreases-are_below
decreases-are_below l = length l.table.now
