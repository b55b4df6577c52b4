-- No step yet, one more, and all.
use Rattle.forest.proofs.WalkLemmas.{lead_none, lead_on, lead_all}
use Rattle.forest.proofs.steps.walk.Goals as goal

pub loop-init : goal.loop-init
loop-init c = lead_none c.args.above.now c.new-steps.result.items c.new-steps.ensures.items

pub loop-preserved : goal.loop-preserved
loop-preserved c = lead_on c.args.above.now c.loop.steps.items c.push.new.self.items c.loop.at c.after-at.result c.in-Some.step c.in_ok-push.ensures.items c.after-at.ensures c.loop.invariant c.in-Some.ensures

pub returns-in_default : goal.returns-in_default
returns-in_default c = lead_all c.args.above.now c.loop.steps.items c.loop.at c.loop.invariant

pub returns : goal.returns
returns c = lead_all c.args.above.now c.loop.steps.items c.loop.at c.loop.invariant
