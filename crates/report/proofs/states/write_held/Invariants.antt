use Rattle.std.proofs.Common.{◌≡◌, ◌++◌, ◌^◌, ◌-◌, length, string_bytes}
use Rattle.std.specs.List.{flat_map}
use Rattle.std.specs.FinMap as finite
use Rattle.report.specs.States.{lock_line}
use Rattle.report.specs.Entries.{of_thread}
use Rattle.report.proofs.Rows.{row_from}
use Rattle.report.proofs.states.write_held.Given as goal

-- so many held locks of the thread are left, and the lines so far and theirs are those of all
abbrev pub invariant-counts : goal.invariant-counts
invariant-counts l =
    (l.left ≡ length (row_from l.thread l.count (finite.entries l.locks)))
    × (string_bytes l.text ++ flat_map lock_line (row_from l.thread l.count (finite.entries l.locks)) ≡ string_bytes l.fn.text ++ flat_map lock_line (of_thread l.thread (finite.entries l.locks)))

abbrev pub decreases-counts : goal.decreases-counts
decreases-counts l = 2 ^ 32 - l.count
