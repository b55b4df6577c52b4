use Rattle.std.proofs.Common.{◌≡◌}
use Rattle.refutation.proofs.GroupTables.{joined_first}
use Rattle.refutation.proofs.groups.join_each.Given as goal

-- so many basics are joined
abbrev pub invariant-loop-at : goal.invariant-loop-at
invariant-loop-at l = l.table ≡ joined_first l.at l.fn.table l.other
