use Rattle.std.proofs.Common.{◌≡◌, ◌++◌, filter, not}
use Rattle.std.specs.Vec.Iter.{into_iter_items}
use Rattle.core_program.specs.Views.{program_of}
use Rattle.rules.specs.Near.{rel_of}
use Rattle.explain.specs.StepReadings.{is_cmpd, own_at}
use Rattle.explain.specs.Views.{visits_of}
use Rattle.explain.proofs.explaining.parted.Given as goal

-- those so far, and those of the steps that are left, are those of all
abbrev pub invariant-loop-step : goal.invariant-loop-step
invariant-loop-step g l =
    let P = program_of l.walk.program.now in let rel = rel_of l.walk.sets.now in let A = g.A.Assigned.assigned l.walk.assigned.now in
    (visits_of l.own.items ++ filter (λ v. not (is_cmpd (own_at P rel A v))) (visits_of (into_iter_items l.step-iterator)) ≡ filter (λ v. not (is_cmpd (own_at P rel A v))) (visits_of l.fn.steps.items))
    × (visits_of l.compounds.items ++ filter (λ v. is_cmpd (own_at P rel A v)) (visits_of (into_iter_items l.step-iterator)) ≡ filter (λ v. is_cmpd (own_at P rel A v)) (visits_of l.fn.steps.items))
