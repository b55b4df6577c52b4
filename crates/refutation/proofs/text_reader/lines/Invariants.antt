use Rattle.std.proofs.Common.{◌≡◌}
use Rattle.books.specs.Combine.{exactly}
use Rattle.books.specs.Views.{after_those}
use Rattle.refutation.specs.Reading.{line_at}
use Rattle.refutation.proofs.text_reader.lines.Given as goal

-- what is built, and then the rest, is all
abbrev pub invariant-loop-left : goal.invariant-loop-left
invariant-loop-left l = exactly l.count line_at l.text ≡ after_those l.built.items (exactly l.left line_at l.rest)

abbrev pub decreases-loop-left : goal.decreases-loop-left
decreases-loop-left l = l.left
