use Rattle.std.proofs.Common.{◌≡◌, ◌∷◌, take}
use Rattle.effects.proofs.lists.with_path.Given as goal

-- the path, and copies of the paths so far
abbrev pub invariant-loop-other : goal.invariant-loop-other
invariant-loop-other l = l.more.items ≡ l.path ∷ take l.other-index l.held
