use Rattle.std.proofs.Common.{◌≡◌, ◌++◌, take}
use Rattle.refutation.proofs.bodies.both.Given as goal

-- the first paths, and the others so far
abbrev pub invariant-loop-path : goal.invariant-loop-path
invariant-loop-path l = l.all.items ≡ l.paths ++ take l.path-index l.others
