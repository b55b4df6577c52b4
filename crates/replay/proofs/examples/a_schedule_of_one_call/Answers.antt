use Rattle.replay.proofs.Instance.{one_call}
use Rattle.replay.proofs.examples.a_schedule_of_one_call.Goals as goal

pub returns : goal.returns
returns c = one_call
