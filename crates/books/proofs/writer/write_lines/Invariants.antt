use Rattle.std.proofs.Common.{◌≡◌, ◌++◌, drop, map, string_bytes}
use Rattle.books.specs.Memory.{method_line_of}
use Rattle.books.specs.Texts.{method_lines_text}
use Rattle.books.proofs.writer.write_lines.Given as goal

-- what is written, and then the text of the rest, is all
abbrev pub invariant-loop-line : goal.invariant-loop-line
invariant-loop-line l = string_bytes l.text ++ method_lines_text (map method_line_of (drop l.line-index l.lines)) ≡ string_bytes l.fn.text ++ method_lines_text (map method_line_of l.lines)
