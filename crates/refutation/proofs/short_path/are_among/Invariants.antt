use Rattle.std.proofs.Common.{◌≡◌, drop}
use Rattle.std.specs.List.{list_all}
use Rattle.algebra.specs.HeldPaths.{has_path}
use Rattle.refutation.proofs.short_path.are_among.Given as goal

-- the answer for the rest is that for all
abbrev pub invariant-loop-short : goal.invariant-loop-short
invariant-loop-short l = list_all (has_path l.paths) (drop l.short-index l.held) ≡ list_all (has_path l.paths) l.held
