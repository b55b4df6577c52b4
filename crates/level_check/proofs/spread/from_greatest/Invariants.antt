-- A place for each level so far.
use Rattle.std.proofs.Common.{◌≡◌, length}
use Rattle.level_check.proofs.spread.from_greatest.Given as goal

abbrev pub invariant-loop-at : goal.invariant-loop-at
invariant-loop-at l = length l.order.items ≡ l.at
