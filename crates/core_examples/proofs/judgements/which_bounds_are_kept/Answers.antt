use Rattle.core_examples.proofs.Judging.{two_writes_accepted, two_writes_refused, no_lock_refused}
use Rattle.core_examples.proofs.judgements.which_bounds_are_kept.Goals as goal

pub returns-clause-compound : goal.returns-clause-compound
returns-clause-compound c = two_writes_accepted

pub returns-clause-not_atomic : goal.returns-clause-not_atomic
returns-clause-not_atomic c = two_writes_refused

pub returns-clause-without_lock : goal.returns-clause-without_lock
returns-clause-without_lock c = no_lock_refused
