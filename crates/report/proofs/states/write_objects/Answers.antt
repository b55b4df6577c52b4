-- The entries of a thread come first of those that are left.
use Rattle.std.proofs.Common.{◌≡◌, ◌++◌, ◌+◌, length, string_bytes, sym, ap, ◌∙◌}
use Rattle.std.specs.List.{flat_map}
use Rattle.std.specs.FinMap as finite
use Rattle.std.specs.FinMap.{len-entries, entries_sorted}
use Rattle.classes.specs.Views.{table_data}
use Rattle.core_program.specs.Views.{program_of}
use Rattle.report.specs.States.{object_line}
use Rattle.report.specs.Entries.{of_thread}
use Rattle.report.proofs.Rows.{rows_from, rows_first, rows_step, left_more, lines_more}
use Rattle.report.proofs.states.write_objects.Goals as goal

pub threads-init : goal.threads-init
threads-init c =
    let all = rows_first (finite.entries c.args.heap.now) in
    (c.len-left.ensures ∙ len-entries c.args.heap.now ∙ ap length (sym all), ap (λ l. string_bytes c.args.text.now ++ flat_map (object_line (program_of c.args.program.now) (table_data c.args.table.now)) l) all)

pub overflow_sub-left : goal.overflow_sub-left
overflow_sub-left c =
    let es = finite.entries c.args.heap.now in
    (left_more (rows_from c.threads.thread es) (of_thread c.threads.thread es) (rows_from (c.threads.thread + 1) es) c.threads.left c.in_ok-left.field-0
    (rows_step c.threads.thread es (entries_sorted c.args.heap.now)) c.threads.invariant.0 c.in_ok-left.ensures.made).0

pub threads-preserved : goal.threads-preserved
threads-preserved c =
    let es = finite.entries c.args.heap.now in
    let found = of_thread c.threads.thread es in
    let later = rows_from c.in_ok-thread.thread es in
    let is : rows_from c.threads.thread es ≡ found ++ later =
    rows_step c.threads.thread es (entries_sorted c.args.heap.now) ∙ ap (λ t. found ++ rows_from t es) (sym c.in_ok-thread.ensures) in (
      (left_more (rows_from c.threads.thread es) found later c.threads.left c.in_ok-left.field-0 is c.threads.invariant.0 c.in_ok-left.ensures.made).1,
      lines_more (object_line (program_of c.args.program.now) (table_data c.args.table.now)) (rows_from c.threads.thread es) found later (string_bytes c.threads.text) (string_bytes c.write_made.new.text)
          (string_bytes c.args.text.now ++ flat_map (object_line (program_of c.args.program.now) (table_data c.args.table.now)) es) is c.in_ok-left.ensures.text c.threads.invariant.1,
    )
