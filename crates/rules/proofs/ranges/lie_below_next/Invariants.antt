-- The methods so far lie in the ranges of those that they override next.
use Rattle.std.proofs.Common.{◌≡◌, ◌<◌, ℕ, Some}
use Rattle.forest.specs.Walks.{above_in}
use Rattle.rules.specs.Ranges.{LiesIn}
use Rattle.rules.proofs.ranges.lie_below_next.Given as goal

abbrev pub invariant-loop-over : goal.invariant-loop-over
invariant-loop-over l = (over m : ℕ) → over < l.over → above_in l.nexts over ≡ Some m → LiesIn l.order l.ranges over m
