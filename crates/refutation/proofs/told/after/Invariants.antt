use Rattle.std.proofs.Common.{◌≡◌, ◌++◌, take}
use Rattle.refutation.proofs.told.after.Given as goal

-- the list begins with those so far
abbrev pub invariant-loop-method : goal.invariant-loop-method
invariant-loop-method l = l.methods ≡ take l.method-index l.front ++ l.left
