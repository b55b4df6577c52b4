use Rattle.std.proofs.Common.{◌≡◌, ◌++◌, string_bytes, drop}
use Rattle.base.specs.Texts.{KeepsText}
use Rattle.classes.specs.Views.{table_data}
use Rattle.report.specs.Verdicts.{fields_text}
use Rattle.report.proofs.verdict.write_fields.Given as goal

abbrev pub invariant-loop-field : goal.invariant-loop-field
invariant-loop-field l =
    (string_bytes l.line ++ fields_text (table_data l.table) (drop l.field-index l.fields) ≡ string_bytes l.fn.line ++ fields_text (table_data l.table) l.fields)
    × KeepsText (string_bytes l.fn.line) (string_bytes l.line)
