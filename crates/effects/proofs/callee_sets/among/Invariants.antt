use Rattle.std.proofs.Common.{◌≡◌, ◌++◌, drop}
use Rattle.std.specs.Prelude.{filter}
use Rattle.algebra.specs.HeldPaths.{has_path}
use Rattle.effects.proofs.callee_sets.among.Given as goal

-- the held paths so far and those of the rest are those of all
abbrev pub invariant-loop-path : goal.invariant-loop-path
invariant-loop-path l = l.known.items ++ filter (has_path l.held) (drop l.path-index l.rel) ≡ filter (has_path l.held) l.rel
