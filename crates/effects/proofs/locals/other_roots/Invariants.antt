use Rattle.std.proofs.Common.{◌≡◌, ◌++◌, drop}
use Rattle.effects.specs.HeldLists.{other_roots}
use Rattle.effects.proofs.locals.other_roots.Given as goal

-- the paths so far and those of the rest are those of all
abbrev pub invariant-loop-path : goal.invariant-loop-path
invariant-loop-path l = l.left.items ++ other_roots l.slot (drop l.path-index l.held) ≡ other_roots l.slot l.held
