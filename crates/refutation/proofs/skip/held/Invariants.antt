use Rattle.std.proofs.Common.{◌≡◌, None, length}
use Rattle.books.specs.Combine.{unread}
use Rattle.refutation.specs.Reading.{held_at}
use Rattle.refutation.proofs.skip.held.Given as goal

abbrev pub invariant-loop-before : goal.invariant-loop-before
invariant-loop-before l = unread (held_at None l.text) ≡ unread (held_at l.before l.rest)

abbrev pub decreases-loop-before : goal.decreases-loop-before
decreases-loop-before l = length l.rest
