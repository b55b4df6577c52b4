use Rattle.std.proofs.Common.{◌≡◌, ◌++◌, drop, string_bytes}
use Rattle.refutation.specs.Texts.{held_text}
use Rattle.refutation.proofs.text_writer.write_held.Given as goal

-- what is written, and then the text of the rest, is all
abbrev pub invariant-loop-path : goal.invariant-loop-path
invariant-loop-path l = string_bytes l.text ++ held_text (drop l.path-index l.held) ≡ string_bytes l.fn.text ++ held_text l.held
