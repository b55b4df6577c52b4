use Rattle.std.proofs.Common.{◌≡◌, drop}
use Rattle.std.specs.List.{list_all}
use Rattle.algebra.specs.HeldPaths.{has_path}
use Rattle.refutation.proofs.short_path.are_held.Given as goal

-- the answer for the rest is that for all
abbrev pub invariant-loop-path : goal.invariant-loop-path
invariant-loop-path l = list_all (has_path l.held) (drop l.path-index l.paths) ≡ list_all (has_path l.held) l.paths
