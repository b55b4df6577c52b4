use Rattle.std.proofs.Common.{◌≡◌, take}
use Rattle.refutation.proofs.short_path.unpacked.Given as goal

-- those so far are there
abbrev pub invariant-loop-path : goal.invariant-loop-path
invariant-loop-path l = l.paths.items ≡ take l.path-index l.short
