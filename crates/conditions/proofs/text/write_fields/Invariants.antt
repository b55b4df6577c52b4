use Rattle.std.proofs.Common.{◌≡◌, ◌++◌, string_bytes, drop}
use Rattle.conditions.specs.Texts.{dotted}
use Rattle.conditions.proofs.text.write_fields.Given as goal

abbrev pub invariant-loop-field : goal.invariant-loop-field
invariant-loop-field l = string_bytes l.text ++ dotted (drop l.field-index l.fields) ≡ string_bytes l.fn.text ++ dotted l.fields
