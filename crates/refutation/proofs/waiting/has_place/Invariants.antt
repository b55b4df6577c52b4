use Rattle.std.proofs.Common.{◌≡◌, drop}
use Rattle.rules.specs.Called.{has_method}
use Rattle.refutation.proofs.waiting.has_place.Given as goal

-- the answer for the rest is that for all
abbrev pub invariant-loop-other : goal.invariant-loop-other
invariant-loop-other l = has_method (drop l.other-index l.places) l.place ≡ has_method l.places l.place
