use Rattle.std.proofs.Common.{◌≡◌, ◌++◌, take, map}
use Rattle.rules.specs.Clauses.{fact}
use Rattle.rules.proofs.body_clauses.add_method.Given as goal

-- the required paths so far
abbrev pub invariant-loop-path : goal.invariant-loop-path
invariant-loop-path l = l.clauses.items ≡ l.fn.clauses.items ++ map (λ p. fact l.id p) (take l.path-index l.path-items)
