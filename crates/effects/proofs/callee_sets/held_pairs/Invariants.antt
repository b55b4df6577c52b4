use Rattle.std.proofs.Common.{◌≡◌, ◌++◌, drop}
use Rattle.effects.specs.HeldLists.{held_pairs}
use Rattle.effects.proofs.callee_sets.held_pairs.Given as goal

-- the paths so far and those of the rest are those of all
abbrev pub invariant-pairs : goal.invariant-pairs
invariant-pairs l = l.known.items ++ held_pairs (drop l.path-index l.path-items) l.held ≡ held_pairs l.path-items l.held
