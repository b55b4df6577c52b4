use Rattle.std.proofs.Common.{◌≡◌, ◌++◌, ◌^◌, ◌-◌, length, string_bytes}
use Rattle.std.specs.List.{flat_map}
use Rattle.std.specs.FinMap as finite
use Rattle.report.specs.States.{lock_line}
use Rattle.report.proofs.Rows.{rows_from}
use Rattle.report.proofs.states.write_locks.Given as goal

-- so many held locks are left, and the lines so far and theirs are those of all
abbrev pub invariant-threads : goal.invariant-threads
invariant-threads l =
    (l.left ≡ length (rows_from l.thread (finite.entries l.locks)))
    × (string_bytes l.text ++ flat_map lock_line (rows_from l.thread (finite.entries l.locks)) ≡ string_bytes l.fn.text ++ flat_map lock_line (finite.entries l.locks))

abbrev pub decreases-threads : goal.decreases-threads
decreases-threads l = 2 ^ 32 - l.thread
