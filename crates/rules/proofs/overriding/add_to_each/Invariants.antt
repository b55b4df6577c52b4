use Rattle.std.proofs.Common.{◌≡◌, ◌++◌, ℕ, drop}
use Rattle.rules.specs.Overriding.{told_each}
use Rattle.rules.specs.Search.{row_at, rows_of}
use Rattle.rules.proofs.overriding.add_to_each.Given as goal

-- the rows so far and what the rest get are those of all
abbrev pub invariant-loop-method : goal.invariant-loop-method
invariant-loop-method l = (m : ℕ) →
    row_at (rows_of l.rows.items) m ++ told_each l.over (drop l.method-index l.all) m ≡ row_at (rows_of l.fn.rows.items) m ++ told_each l.over l.all m
