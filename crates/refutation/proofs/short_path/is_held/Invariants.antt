use Rattle.std.proofs.Common.{◌≡◌, drop}
use Rattle.algebra.specs.HeldPaths.{has_path}
use Rattle.refutation.proofs.short_path.is_held.Given as goal

-- the answer for the rest is that for all
abbrev pub invariant-loop-short : goal.invariant-loop-short
invariant-loop-short l = has_path (drop l.short-index l.held) l.path ≡ has_path l.held l.path
