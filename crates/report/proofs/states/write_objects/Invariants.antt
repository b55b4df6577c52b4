use Rattle.std.proofs.Common.{◌≡◌, ◌++◌, ◌^◌, ◌-◌, length, string_bytes}
use Rattle.std.specs.List.{flat_map}
use Rattle.std.specs.FinMap as finite
use Rattle.classes.specs.Views.{table_data}
use Rattle.core_program.specs.Views.{program_of}
use Rattle.report.specs.States.{object_line}
use Rattle.report.proofs.Rows.{rows_from}
use Rattle.report.proofs.states.write_objects.Given as goal

-- so many objects are left, and the lines so far and theirs are those of all
abbrev pub invariant-threads : goal.invariant-threads
invariant-threads l =
    (l.left ≡ length (rows_from l.thread (finite.entries l.heap)))
    × (string_bytes l.text ++ flat_map (object_line (program_of l.program) (table_data l.table)) (rows_from l.thread (finite.entries l.heap)) ≡ string_bytes l.fn.text ++ flat_map (object_line (program_of l.program) (table_data l.table)) (finite.entries l.heap))

abbrev pub decreases-threads : goal.decreases-threads
decreases-threads l = 2 ^ 32 - l.thread
