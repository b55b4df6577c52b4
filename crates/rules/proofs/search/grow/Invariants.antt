use Rattle.std.proofs.Common.{◌≡◌, ◌-◌, ℕ, vec_len}
use Rattle.rules.specs.Search.{row_at, rows_of}
use Rattle.rules.proofs.search.grow.Given as goal

-- the lists of the methods are the same
abbrev pub invariant-loop-alloc : goal.invariant-loop-alloc
invariant-loop-alloc g l = (m : ℕ) → row_at (rows_of l.rows.items) m ≡ row_at (rows_of l.fn.rows.items) m

abbrev pub decreases-loop-alloc : goal.decreases-loop-alloc
decreases-loop-alloc g l = l.count - vec_len l.rows
