use Rattle.std.proofs.Common.{◌≡◌, length, map}
use Rattle.books.specs.Combine.{several}
use Rattle.books.specs.Memory.{method_line_of}
use Rattle.books.specs.Reading.{line_at}
use Rattle.books.specs.Views.{after_those}
use Rattle.books.proofs.reader.method_lines.Given as goal

-- what is built, and then the rest, is all
abbrev pub invariant-loop-alloc : goal.invariant-loop-alloc
invariant-loop-alloc l = several 109 (line_at l.end) l.text ≡ after_those (map method_line_of l.built.items) (several 109 (line_at l.end) l.rest)

abbrev pub decreases-loop-alloc : goal.decreases-loop-alloc
decreases-loop-alloc l = length l.rest
