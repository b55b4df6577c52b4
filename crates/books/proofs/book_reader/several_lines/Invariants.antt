use Rattle.std.proofs.Common.{◌≡◌, length}
use Rattle.books.specs.Passing.{pass_several, pass_line}
use Rattle.books.proofs.book_reader.several_lines.Given as goal

abbrev pub invariant-loop-rest : goal.invariant-loop-rest
invariant-loop-rest l = pass_several 109 (pass_line l.count) l.text ≡ pass_several 109 (pass_line l.count) l.rest

abbrev pub decreases-loop-rest : goal.decreases-loop-rest
decreases-loop-rest l = length l.rest
