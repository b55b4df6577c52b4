use Rattle.std.proofs.Common.{◌≡◌, None, length}
use Rattle.books.specs.Views.{after_those}
use Rattle.refutation.specs.Reading.{held_at}
use Rattle.refutation.proofs.text_reader.held.Given as goal

-- what is built, and then the rest, is all
abbrev pub invariant-loop-before : goal.invariant-loop-before
invariant-loop-before l = held_at None l.text ≡ after_those l.built.items (held_at l.before l.rest)

abbrev pub decreases-loop-before : goal.decreases-loop-before
decreases-loop-before l = length l.rest
