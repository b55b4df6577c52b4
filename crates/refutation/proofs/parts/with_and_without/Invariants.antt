use Rattle.std.proofs.Common.{◌≡◌, ◌++◌}
use Rattle.std.specs.Vec.Iter.{into_iter_items}
use Rattle.refutation.specs.Passes.{with_and_without}
use Rattle.refutation.proofs.parts.with_and_without.Given as goal

-- the sets so far and those of the rest are those of all
abbrev pub invariant-loop-set : goal.invariant-loop-set
invariant-loop-set l = l.doubled.items ++ with_and_without l.path (into_iter_items l.set-iterator) ≡ with_and_without l.path l.fn.sets.items
