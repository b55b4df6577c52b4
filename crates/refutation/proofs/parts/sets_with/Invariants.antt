use Rattle.std.proofs.Common.{◌≡◌, ◌++◌, drop}
use Rattle.std.specs.Prelude.{filter}
use Rattle.std.specs.List.{list_all}
use Rattle.algebra.specs.HeldPaths.{has_path}
use Rattle.refutation.proofs.parts.sets_with.Given as goal

-- the sets so far and those of the rest are those of all
abbrev pub invariant-loop-set : goal.invariant-loop-set
invariant-loop-set l = l.kept.items ++ filter (λ held. list_all (has_path held) l.required) (drop l.set-index l.sets) ≡ filter (λ held. list_all (has_path held) l.required) l.sets
