use Rattle.std.proofs.Common.{◌≡◌, not, drop}
use Rattle.std.specs.Prelude.{find}
use Rattle.algebra.specs.HeldPaths.{has_path}
use Rattle.explain.proofs.causes.first_lacking.Given as goal

-- the first of those that are left is the first of all
abbrev pub invariant-loop-path : goal.invariant-loop-path
invariant-loop-path l = find (λ q. not (has_path l.known q)) (drop l.path-index l.required) ≡ find (λ q. not (has_path l.known q)) l.required
