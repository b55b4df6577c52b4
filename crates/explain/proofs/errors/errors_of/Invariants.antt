use Rattle.std.proofs.Common.{◌≡◌, ◌++◌}
use Rattle.std.specs.Vec.Iter.{into_iter_items}
use Rattle.core_program.specs.Views.{program_of}
use Rattle.rules.specs.Near.{rel_of}
use Rattle.explain.specs.Views.{errors_in, visits_of}
use Rattle.explain.proofs.errors.errors_of.Given as goal

-- those so far, and those of the parts that are left, are those of all
abbrev pub invariant-loop-part : goal.invariant-loop-part
invariant-loop-part g l =
    let P = program_of l.walk.program.now in let rel = rel_of l.walk.sets.now in let A = g.A.Assigned.assigned l.walk.assigned.now in
    visits_of l.errors.items ++ errors_in P rel A (visits_of (into_iter_items l.part-iterator)) ≡ errors_in P rel A (visits_of l.fn.parts.items)
