use Rattle.std.proofs.Common.{◌≡◌, take, filter}
use Rattle.std.specs.Prelude.{nat_le}
use Rattle.rules.proofs.relevance.outer_paths.Given as goal

-- those of the paths so far
abbrev pub invariant-loop-path : goal.invariant-loop-path
invariant-loop-path l = l.paths.items ≡ filter (λ p. nat_le p.root l.params) (take l.path-index l.near)
