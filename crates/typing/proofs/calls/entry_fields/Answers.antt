use Rattle.std.proofs.Common.{◌∙◌, ap, take, drop, length}
use Rattle.classes.specs.Views.{table_data, class_data}
use Rattle.typing.proofs.calls.entry_fields.Goals as goal

pub returns : goal.returns
returns c =
    c.window.ensures
    ∙ ap (λ z. take c.field_count.result (drop c.start.inside.0 z)) c.fields.ensures
    ∙ ap (λ n. take n (drop c.start.inside.0 (table_data c.args.table.now).fields)) c.field_count.ensures
    ∙ ap (λ n. take (length (class_data c.args.entry.now).field_names) (drop n (table_data c.args.table.now).fields)) (c.start.view_is ∙ c.first_field.ensures)
