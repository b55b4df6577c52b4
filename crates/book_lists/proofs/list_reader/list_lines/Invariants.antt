use Rattle.std.proofs.Common.{length, map}
use Rattle.books.specs.Combine.{several}
use Rattle.book_lists.specs.Listed.{line_head, listed_lines, AreListedSoFar}
use Rattle.books.specs.Reading.{line_at}
use Rattle.book_lists.proofs.list_reader.list_lines.Given as goal

-- what stands behind the others, and then the rest, is all
abbrev pub invariant-lines : goal.invariant-lines
invariant-lines l =
    AreListedSoFar (map line_head) l.fn.lines.items l.lines.items (several 109 (line_at l.end) l.text) (several 109 (line_at l.end) l.rest)
    × AreListedSoFar listed_lines l.fn.nodes.items l.nodes.items (several 109 (line_at l.end) l.text) (several 109 (line_at l.end) l.rest)

abbrev pub decreases-lines : goal.decreases-lines
decreases-lines l = length l.rest
