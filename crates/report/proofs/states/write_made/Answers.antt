-- The entry at an address comes first of those that are left of its thread.
use Rattle.std.proofs.Common.{◌≡◌, ◌++◌, length, string_bytes, sym, ap, ◌∙◌}
use Rattle.std.specs.List.{flat_map}
use Rattle.std.specs.FinMap as finite
use Rattle.std.specs.FinMap.{get-entries, entries_sorted}
use Rattle.state.specs.declared.value.Address.{Address}
use Rattle.classes.specs.Views.{table_data}
use Rattle.core_program.specs.Views.{program_of}
use Rattle.report.specs.States.{object_line}
use Rattle.report.specs.Entries.{of_thread, entry_if_there}
use Rattle.report.proofs.Rows.{row_from, row_first, row_length, row_step, left_more, lines_more}
use Rattle.report.proofs.states.write_made.Goals as goal

pub counts-init : goal.counts-init
counts-init c =
    let es = finite.entries c.args.heap.now in
    let all = row_first c.args.thread es in
    (c.made-made.ensures ∙ sym (row_length c.args.thread es) ∙ ap length (sym all), ap (λ l. string_bytes c.args.text.now ++ flat_map (object_line (program_of c.args.program.now) (table_data c.args.table.now)) l) all)

pub counts-preserved : goal.counts-preserved
counts-preserved c =
    let es = finite.entries c.args.heap.now in
    let a : Address = record { thread = c.args.thread; count = c.counts.count } in
    let found = entry_if_there a (finite.get c.args.heap.now a) in
    let later = row_from c.args.thread c.in_ok-count.count es in
    let is : row_from c.args.thread c.counts.count es ≡ found ++ later =
    row_step a es (entries_sorted c.args.heap.now)
    ∙ (λ i. entry_if_there a (sym (get-entries c.args.heap.now a) i) ++ row_from c.args.thread (sym c.in_ok-count.ensures i) es) in (
      (left_more (row_from c.args.thread c.counts.count es) found later c.counts.left c.in_ok-left.field-0 is c.counts.invariant.0 c.in_ok-left.ensures.count).1,
      lines_more (object_line (program_of c.args.program.now) (table_data c.args.table.now)) (row_from c.args.thread c.counts.count es) found later (string_bytes c.counts.text) (string_bytes c.write_object_at.new.text)
          (string_bytes c.args.text.now ++ flat_map (object_line (program_of c.args.program.now) (table_data c.args.table.now)) (of_thread c.args.thread es)) is c.in_ok-left.ensures.text c.counts.invariant.1,
    )

pub returns-clause-made : goal.returns-clause-made
returns-clause-made c = c.made-made.ensures ∙ sym (row_length c.args.thread (finite.entries c.args.heap.now))
