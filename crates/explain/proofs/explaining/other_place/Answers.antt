-- The first step that doesn't call the method.
use Rattle.std.proofs.Common.{not, ap, sym, ◌∙◌}
use Rattle.explain.specs.Explaining.{is_call_of_method}
use Rattle.explain.proofs.Reasons.{place_here}
use Rattle.explain.proofs.explaining.other_place.Goals as goal

pub returns-then-not-calls : goal.returns-then-not-calls
returns-then-not-calls c =
    place_here (λ v. not (is_call_of_method c.args.method v.part)) c.args.steps.now c.loop-place.place c.index-steps-place.result c.loop-place-test.true c.index-steps-place.is c.loop-place.invariant
    (ap not (sym c.calls.ensures ∙ c.if-not-calls.true))
