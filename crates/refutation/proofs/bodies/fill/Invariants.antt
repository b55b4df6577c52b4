use Rattle.std.proofs.Common.{◌≡◌, ◌++◌, map, take, drop}
use Rattle.refutation.proofs.bodies.fill.Given as goal

-- so many basics are written
abbrev pub invariant-loop-place : goal.invariant-loop-place
invariant-loop-place l = l.table ≡ map (λ _. l.basic) (take l.place-index l.fn.table) ++ drop l.place-index l.fn.table
