use Rattle.std.proofs.Common.{◌≡◌, take, filter}
use Rattle.std.specs.Prelude.{nat_lt}
use Rattle.rules.proofs.relevance.inner_paths.Given as goal

-- those of the paths so far
abbrev pub invariant-loop-path : goal.invariant-loop-path
invariant-loop-path l = l.paths.items ≡ filter (λ p. nat_lt l.params p.root) (take l.path-index l.near)
