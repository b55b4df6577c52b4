-- The entries of a thread come first of those that are left.
use Rattle.std.proofs.Common.{◌≡◌, ◌++◌, ◌+◌, length, string_bytes, sym, ap, ◌∙◌}
use Rattle.std.specs.List.{flat_map}
use Rattle.std.specs.FinMap as finite
use Rattle.std.specs.FinMap.{len-entries, entries_sorted}
use Rattle.report.specs.States.{lock_line}
use Rattle.report.specs.Entries.{of_thread}
use Rattle.report.proofs.Rows.{rows_from, rows_first, rows_step, left_more, lines_more}
use Rattle.report.proofs.states.write_locks.Goals as goal

pub threads-init : goal.threads-init
threads-init c =
    let all = rows_first (finite.entries c.args.locks.now) in
    (c.len-left.ensures ∙ len-entries c.args.locks.now ∙ ap length (sym all), ap (λ l. string_bytes c.args.text.now ++ flat_map lock_line l) all)

pub overflow_sub-left : goal.overflow_sub-left
overflow_sub-left c =
    let es = finite.entries c.args.locks.now in
    (left_more (rows_from c.threads.thread es) (of_thread c.threads.thread es) (rows_from (c.threads.thread + 1) es) c.threads.left c.in_ok-left.field-0
    (rows_step c.threads.thread es (entries_sorted c.args.locks.now)) c.threads.invariant.0 c.in_ok-left.ensures.held).0

pub threads-preserved : goal.threads-preserved
threads-preserved c =
    let es = finite.entries c.args.locks.now in
    let found = of_thread c.threads.thread es in
    let later = rows_from c.in_ok-thread.thread es in
    let is : rows_from c.threads.thread es ≡ found ++ later =
    rows_step c.threads.thread es (entries_sorted c.args.locks.now) ∙ ap (λ t. found ++ rows_from t es) (sym c.in_ok-thread.ensures) in (
      (left_more (rows_from c.threads.thread es) found later c.threads.left c.in_ok-left.field-0 is c.threads.invariant.0 c.in_ok-left.ensures.held).1,
      lines_more lock_line (rows_from c.threads.thread es) found later (string_bytes c.threads.text) (string_bytes c.write_held.new.text)
          (string_bytes c.args.text.now ++ flat_map lock_line es) is c.in_ok-left.ensures.text c.threads.invariant.1,
    )
