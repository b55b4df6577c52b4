-- A step that is alone.
use Rattle.std.proofs.Common.{◌≡◌, ◌∙◌}
use Rattle.std.proofs.lemmas.Result.{IfOk-weaker}
use Rattle.core_program.specs.Views.{program_of}
use Rattle.rules.specs.Near.{rel_of}
use Rattle.explain.specs.Explaining.{only_step_why, steps_of}
use Rattle.explain.specs.Views.{visit_of, visits_of, why_data}
use Rattle.explain.proofs.Reasons.{only_steps}
use Rattle.explain.proofs.explaining.compound_body.Goals as goal

pub returns-in-Some : goal.returns-in-Some
returns-in-Some g c =
    let P = program_of c.args.walk.now.program.now in let rel = rel_of c.args.walk.now.sets.now in let A = g.A.Assigned.assigned c.args.walk.now.assigned.now in
    IfOk-weaker c.only_step_why.result (λ why. why_data why ≡ only_step_why P rel A (visit_of c.in-Some.step)) (λ why. why_data why ≡ steps_of P rel A c.args.id (visits_of c.args.steps.items))
    (λ why is. is ∙ only_steps P rel A c.args.id c.args.steps.items c.in-Some.step c.in-Some.ensures.some) c.only_step_why.ensures
