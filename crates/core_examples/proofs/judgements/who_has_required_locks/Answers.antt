use Rattle.core_examples.proofs.Judging.{required_accepted, unrequired_refused}
use Rattle.core_examples.proofs.judgements.who_has_required_locks.Goals as goal

pub returns-clause-with_lock : goal.returns-clause-with_lock
returns-clause-with_lock c = required_accepted

pub returns-clause-without_lock : goal.returns-clause-without_lock
returns-clause-without_lock c = unrequired_refused
