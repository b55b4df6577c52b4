use Rattle.witness.proofs.NodeLemmas.{has_not_stepped, has_stepped}
use Rattle.witness.proofs.node.stepped.Goals as goal

pub returns-clause-step : goal.returns-clause-step
returns-clause-step c =
    has_not_stepped c.args.machine.now c.in_ok-next.next c.step.new.self c.args.thread c.in_ok-next.ensures c.in-Err.why c.in-Err.ensures.turn c.in_ok-is_told-in-Err.ensures

pub returns-in-Ok-clause-step : goal.returns-in-Ok-clause-step
returns-in-Ok-clause-step c = has_stepped c.args.machine.now c.in_ok-next.next c.step.new.self c.args.thread c.in_ok-next.ensures c.in-Ok.ensures.turn
