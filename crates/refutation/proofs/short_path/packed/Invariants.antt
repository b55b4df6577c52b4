use Rattle.std.proofs.Common.{◌≡◌, take}
use Rattle.refutation.proofs.short_path.packed.Given as goal

-- those so far are there
abbrev pub invariant-loop-path : goal.invariant-loop-path
invariant-loop-path l = l.short.items ≡ take l.path-index l.paths
