use Rattle.rules.proofs.AcceptedExample.{counter_accepted}
use Rattle.rules.proofs.examples.counter_is_accepted.Goals as goal

pub returns : goal.returns
returns c = counter_accepted
