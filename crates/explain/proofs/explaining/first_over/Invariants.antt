use Rattle.std.proofs.Common.{◌≡◌, drop}
use Rattle.algebra.specs.HeldPaths.{has_path}
use Rattle.rules.specs.Near.{rel_of}
use Rattle.explain.specs.Explaining.{over_of}
use Rattle.explain.proofs.explaining.first_over.Given as goal

-- the methods that are left tell it
abbrev pub invariant-loop-over : goal.invariant-loop-over
invariant-loop-over g l =
    let rel = rel_of l.walk.sets.now in let A = g.A.Assigned.assigned l.walk.assigned.now in
    over_of rel A l.limit (drop l.over-index l.overs) (has_path l.held) ≡ over_of rel A l.limit l.overs (has_path l.held)
