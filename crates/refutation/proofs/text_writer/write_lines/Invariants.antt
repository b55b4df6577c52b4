use Rattle.std.proofs.Common.{◌≡◌, ◌++◌, drop, string_bytes}
use Rattle.refutation.specs.Texts.{certificate_text}
use Rattle.refutation.proofs.text_writer.write_lines.Given as goal

-- what is written, and then the text of the rest, is all
abbrev pub invariant-loop-line : goal.invariant-loop-line
invariant-loop-line l = string_bytes l.text ++ certificate_text (drop l.line-index l.lines) ≡ string_bytes l.fn.text ++ certificate_text l.lines
