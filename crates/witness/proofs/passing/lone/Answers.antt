-- Where nobody has to go on.
use Rattle.witness.proofs.PassedLemmas.{lone_unseen}
use Rattle.witness.proofs.passing.lone.Goals as goal

pub returns-in-None : goal.returns-in-None
returns-in-None c = lone_unseen c.args.search.now c.args.node.now c.first_unseen.result c.in-None.is (c.can_step.ensures c.if-not-can_step.false) c.first_unseen.ensures
