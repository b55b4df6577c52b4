use Rattle.std.proofs.Common.{◌≡◌, ◌-◌, ◌++◌, ◌≤◌, string_bytes, string_len}
use Rattle.base.specs.Texts.{KeepsText}
use Rattle.printer.specs.Layout.{indent}
use Rattle.printer.proofs.page.write_indent.Given as goal

abbrev pub invariant-loop-level : goal.invariant-loop-level
invariant-loop-level l = (string_bytes l.text ++ indent (l.depth - l._level) ≡ string_bytes l.fn.text ++ indent l.depth) × (string_len l.fn.text ≤ string_len l.text) × KeepsText (string_bytes l.fn.text) (string_bytes l.text)
