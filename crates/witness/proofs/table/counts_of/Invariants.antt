use Rattle.std.proofs.Common.{◌≡◌, ℕ, take}
use Rattle.witness.specs.Walks.{entry_counts}
use Rattle.witness.specs.Tables.{count_at}
use Rattle.witness.proofs.table.counts_of.Given as goal

abbrev pub invariant-loop-thread : goal.invariant-loop-thread
invariant-loop-thread l = (t : ℕ) → count_at l.table.items t ≡ entry_counts (take l.thread-index l.schedule) t
