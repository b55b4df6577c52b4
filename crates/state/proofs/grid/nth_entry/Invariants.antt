use Rattle.std.proofs.Common.{◌≡◌, drop}
use Rattle.std.specs.Prelude.{slice_get}
use Rattle.state.specs.Slots.{rows_entries}
use Rattle.state.proofs.grid.nth_entry.Given as goal

-- the entry is that of the rows from this thread on
abbrev pub invariant-loop-thread : goal.invariant-loop-thread
invariant-loop-thread g l = slice_get (rows_entries l.thread (drop l.thread l.rows)) l.left ≡ slice_get (rows_entries 0 l.rows) l.place
