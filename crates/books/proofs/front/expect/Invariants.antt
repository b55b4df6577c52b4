use Rattle.std.proofs.Common.{◌≡◌, length}
use Rattle.books.specs.Combine.{expect}
use Rattle.books.proofs.front.expect.Given as goal

abbrev pub invariant-loop-want : goal.invariant-loop-want
invariant-loop-want l = expect l.wanted l.text ≡ expect l.left l.rest

abbrev pub decreases-loop-want : goal.decreases-loop-want
decreases-loop-want l = length l.left
