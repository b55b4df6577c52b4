use Rattle.core_examples.specs.Seen.{here, there}
use Rattle.core_examples.specs.Small.{three_entries, lock_at}
use Rattle.core_examples.proofs.Maps.{get_is, made_is}
use Rattle.core_examples.proofs.turns.what_a_thread_sees.Goals as goal

pub returns-clause-object : goal.returns-clause-object
returns-clause-object c = get_is three_entries tt there

pub returns-clause-no_object : goal.returns-clause-no_object
returns-clause-no_object c = get_is three_entries tt (record { thread = 0; count = 2 })

pub returns-clause-lock : goal.returns-clause-lock
returns-clause-lock c = get_is (lock_at there) tt there

pub returns-clause-free : goal.returns-clause-free
returns-clause-free c = get_is (lock_at there) tt here

pub returns-clause-made : goal.returns-clause-made
returns-clause-made c = made_is three_entries tt 0

pub returns-clause-made_by_another : goal.returns-clause-made_by_another
returns-clause-made_by_another c = made_is three_entries tt 1
