use Rattle.std.proofs.Common.{◌≡◌, ◌++◌, drop}
use Rattle.std.specs.Prelude.{filter}
use Rattle.algebra.specs.HeldPaths.{has_path}
use Rattle.rules.specs.Near.{rel_of}
use Rattle.level_check.specs.Told.{origin_in, known_to}
use Rattle.level_check.proofs.callees.known_among.Given as goal

-- the known paths so far and those of the rest are those of all
abbrev pub invariant-loop-path : goal.invariant-loop-path
invariant-loop-path l =
    l.known.items ++ filter (known_to l.method (origin_in l.walk.origins.now.entries) (λ k. has_path (rel_of l.walk.sets.now k))) (drop l.path-index l.paths)
    ≡ filter (known_to l.method (origin_in l.walk.origins.now.entries) (λ k. has_path (rel_of l.walk.sets.now k))) l.paths
