use Rattle.std.proofs.Common.{◌≡◌, take}
use Rattle.infer.proofs.cells.copied.Given as goal

-- the paths so far
abbrev pub invariant-loop-path : goal.invariant-loop-path
invariant-loop-path l = l.copies.items ≡ take l.path-index l.paths
