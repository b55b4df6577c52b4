use Rattle.std.proofs.Common.{◌≡◌, ◌-◌, ◌<◌, ◌≤◌, ℕ, false, Some, slice_get}
use Rattle.refutation.proofs.waits.Waits.next.Given as goal

-- those from the place on that were passed over don't wait
abbrev pub invariant-loop-at : goal.invariant-loop-at
invariant-loop-at l = record {
  after : l.from ≤ l.at;
  asleep : (m : ℕ) → l.from ≤ m → m < l.at → slice_get l.self-inside.flags.items m ≡ Some false;
}

abbrev pub decreases-loop-at : goal.decreases-loop-at
decreases-loop-at l = l.self-inside.end - l.at
