use Rattle.std.proofs.Common.{◌≡◌, ◌++◌, map, take, drop}
use Rattle.algebra.specs.Basics.{join_of}
use Rattle.refutation.proofs.groups.join_all.Given as goal

-- so many basics are joined
abbrev pub invariant-loop-basic : goal.invariant-loop-basic
invariant-loop-basic l = l.table ≡ map (λ b. join_of b l.found) (take l.basic-index l.fn.table) ++ drop l.basic-index l.fn.table
