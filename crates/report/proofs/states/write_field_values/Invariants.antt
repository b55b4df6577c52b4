use Rattle.std.proofs.Common.{◌≡◌, ◌++◌, drop, string_bytes}
use Rattle.classes.specs.Views.{table_data}
use Rattle.report.specs.States.{field_values_text}
use Rattle.report.proofs.states.write_field_values.Given as goal

-- what is written so far, and what the rest of the fields and values give, are all
abbrev pub invariant-loop-field : goal.invariant-loop-field
invariant-loop-field l =
    string_bytes l.text ++ field_values_text (table_data l.table) (drop l.field-index l.fields) l.rest
    ≡ string_bytes l.fn.text ++ field_values_text (table_data l.table) l.fields l.values
