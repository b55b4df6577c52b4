use Rattle.std.proofs.Common.{◌≡◌, ◌++◌, drop}
use Rattle.effects.specs.HeldLists.{other_roots, local_names}
use Rattle.effects.proofs.locals.with_names.Given as goal

-- the paths so far and those of the rest are those of all
abbrev pub invariant-loop-path : goal.invariant-loop-path
invariant-loop-path l = l.left.items ++ local_names l.slot l.start (drop l.path-index l.held) ≡ other_roots l.slot l.held ++ local_names l.slot l.start l.held
