use Rattle.std.proofs.Common.{◌≡◌, ◌++◌, drop, map, string_bytes}
use Rattle.conditions.specs.Conditions.{cond_of}
use Rattle.books.specs.Texts.{table_text}
use Rattle.books.proofs.writer.write_table.Given as goal

-- what is written, and then the text of the rest, is all
abbrev pub invariant-loop-tree : goal.invariant-loop-tree
invariant-loop-tree l = string_bytes l.text ++ table_text (map cond_of (drop l.tree-index l.table)) ≡ string_bytes l.fn.text ++ table_text (map cond_of l.table)
