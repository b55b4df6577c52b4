use Rattle.std.proofs.Common.{◌≡◌, ◌<◌, ℕ, length}
use Rattle.rules.specs.Near.{rel_of}
use Rattle.rules.specs.Search.{row_at}
use Rattle.refutation.specs.Tables.{consts}
use Rattle.refutation.proofs.floors.const_tables.Given as goal

-- as many tables as counted so far, and nothing is said in them
abbrev pub invariant-loop-place : goal.invariant-loop-place
invariant-loop-place l = record {
  size : length l.tables.items ≡ l.place;
  none : (m : ℕ) → m < length l.tables.items → row_at l.tables.items m ≡ consts (rel_of l.sets m);
}
