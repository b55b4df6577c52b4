use Rattle.std.proofs.Common.{◌≡◌, ℕ, false, Some, length, slice_get}
use Rattle.refutation.proofs.waits.Waits.all.Given as goal

-- as many as counted so far, and all of them wait
abbrev pub invariant-loop : goal.invariant-loop
invariant-loop l = record {
  size : length l.flags.items ≡ l.counter;
  wait : (m : ℕ) → slice_get l.flags.items m ≡ Some false → ⊥;
}
