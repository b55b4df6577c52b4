-- The lines of the calls as plain data.
use Rattle.std.proofs.Common.{◌++◌, flat_map, sym, ap, ◌∙◌}
use Rattle.std.proofs.lemmas.List.Folds.{flat_map-map}
use Rattle.classes.specs.Views.{table_data}
use Rattle.replay.specs.Views.{record_told}
use Rattle.schedule_commands.specs.Lines.{call_line}
use Rattle.schedule_commands.proofs.lines.calls_text.Goals as goal

pub returns : goal.returns
returns c =
    let line = call_line (table_data c.args.table.now) in
    let calls = c.args.calls.now in
    c.in_ok-write_calls.ensures ∙ ap (λ said. said ++ flat_map (λ x. line (record_told x)) calls) c.new-text.ensures.bytes ∙ sym (flat_map-map line record_told calls)
