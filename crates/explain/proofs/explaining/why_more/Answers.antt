-- A body that is more than the limit.
use Rattle.std.proofs.Common.{◌≡◌, sym, ◌∙◌}
use Rattle.std.proofs.lemmas.Result.{IfOk-weaker}
use Rattle.core_program.specs.Views.{method_of, program_of}
use Rattle.rules.specs.Near.{rel_of}
use Rattle.explain.specs.Explaining.{body_why, why_of}
use Rattle.explain.specs.Views.{errors_in, visits_of, why_data}
use Rattle.explain.proofs.Reasons.{more_why}
use Rattle.explain.proofs.explaining.why_more.Goals as goal

pub returns : goal.returns
returns g c =
    let P = program_of c.args.walk.now.program.now in let rel = rel_of c.args.walk.now.sets.now in let A = g.A.Assigned.assigned c.args.walk.now.assigned.now in
    let m = method_of c.args.method.now in
    let effect = c.in_ok-effect.effect in
    let heavy = visits_of c.in_ok-effect.found.heavy.items in
    let steps = visits_of c.in_ok-effect.found.steps.items in
    IfOk-weaker c.body_why.result
    (λ why. why_data why ≡ body_why P rel A c.args.id effect (errors_in P rel A heavy) steps) (λ why. why_data why ≡ why_of P rel A c.args.overs.now c.args.id m c.args.limit)
    (λ why is. is
    ∙ more_why P rel A c.args.overs.now c.args.id m c.args.limit effect heavy steps c.in_ok-effect.ensures.effect c.in_ok-effect.ensures.heavy c.in_ok-effect.ensures.steps (sym c.below.ensures ∙ c.if-below.false))
    c.body_why.ensures
