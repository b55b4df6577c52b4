use Rattle.std.proofs.Common.{◌≡◌, ◌++◌, ◌^◌, ◌-◌, length, string_bytes}
use Rattle.std.specs.List.{flat_map}
use Rattle.std.specs.FinMap as finite
use Rattle.classes.specs.Views.{table_data}
use Rattle.core_program.specs.Views.{program_of}
use Rattle.report.specs.States.{object_line}
use Rattle.report.specs.Entries.{of_thread}
use Rattle.report.proofs.Rows.{row_from}
use Rattle.report.proofs.states.write_made.Given as goal

-- so many objects of the thread are left, and the lines so far and theirs are those of all
abbrev pub invariant-counts : goal.invariant-counts
invariant-counts l =
    (l.left ≡ length (row_from l.thread l.count (finite.entries l.heap)))
    × (string_bytes l.text ++ flat_map (object_line (program_of l.program) (table_data l.table)) (row_from l.thread l.count (finite.entries l.heap)) ≡ string_bytes l.fn.text ++ flat_map (object_line (program_of l.program) (table_data l.table)) (of_thread l.thread (finite.entries l.heap)))

abbrev pub decreases-counts : goal.decreases-counts
decreases-counts l = 2 ^ 32 - l.count
