-- One step more, and all.
use Rattle.std.proofs.Common.{get_or}
use Rattle.std.proofs.lemmas.Option.{slice_get-get_or}
use Rattle.forest.specs.declared.steps.Step.TheVariants.{Down}
use Rattle.rules.proofs.RangeLemmas.{walking_on}
use Rattle.rules.proofs.laying.lay_all.Goals as goal

pub loop-step-preserved : goal.loop-step-preserved
loop-step-preserved c nexts leads none =
    let steps = c.args.steps.now in
    let i = c.loop-step.step-index in
    walking_on nexts steps i (get_or steps i (Down 0)) c.loop-step.order.items c.lay.new.order.items c.loop-step.begun c.lay.new.begun c.loop-step.ranges c.lay.new.ranges
    (slice_get-get_or steps i (Down 0) c.loop-step-test.true) (c.loop-step.invariant nexts leads none) (λ here. c.in_ok-lay.ensures nexts here)

pub returns : goal.returns
returns c nexts leads none = let w = c.loop-step.invariant nexts leads none in w.here.ended
