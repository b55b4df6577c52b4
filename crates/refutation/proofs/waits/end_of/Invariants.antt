use Rattle.std.proofs.Common.{◌≡◌, ◌<◌, ◌≤◌, ℕ, false, Some, slice_get}
use Rattle.refutation.proofs.waits.end_of.Given as goal

-- those that were passed over don't wait
abbrev pub invariant-loop-end : goal.invariant-loop-end
invariant-loop-end l = record {
  within : l.end ≤ l.from;
  asleep : (m : ℕ) → l.end ≤ m → m < l.from → slice_get l.flags m ≡ Some false;
}

abbrev pub decreases-loop-end : goal.decreases-loop-end
decreases-loop-end l = l.end
