use Rattle.std.proofs.Common.{◌≡◌}
use Rattle.books.specs.Passing.{pass_table}
use Rattle.books.proofs.book_reader.table_lines.Given as goal

abbrev pub invariant-loop-left : goal.invariant-loop-left
invariant-loop-left l = pass_table l.count l.text ≡ pass_table l.left l.rest

abbrev pub decreases-loop-left : goal.decreases-loop-left
decreases-loop-left l = l.left
