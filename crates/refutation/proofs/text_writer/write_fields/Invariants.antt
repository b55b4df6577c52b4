use Rattle.std.proofs.Common.{◌≡◌, ◌++◌, drop, string_bytes}
use Rattle.conditions.specs.Texts.{dotted}
use Rattle.refutation.proofs.text_writer.write_fields.Given as goal

-- what is written, and then the text of the rest, is all
abbrev pub invariant-loop-field : goal.invariant-loop-field
invariant-loop-field l = string_bytes l.text ++ dotted (drop l.field-index l.fields) ≡ string_bytes l.fn.text ++ dotted l.fields
