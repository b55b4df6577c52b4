use Rattle.std.proofs.Common.{refl}
use Rattle.std.specs.Fmt.{digits}
use Rattle.text_examples.proofs.schedules.where_entries_go_wrong.Goals as goal

pub returns-clause-right : goal.returns-clause-right
unfolding digits
returns-clause-right c = refl

pub returns-clause-thread : goal.returns-clause-thread
unfolding digits
returns-clause-thread c = refl

pub returns-clause-behind_the_thread : goal.returns-clause-behind_the_thread
unfolding digits
returns-clause-behind_the_thread c = refl

pub returns-clause-count : goal.returns-clause-count
unfolding digits
returns-clause-count c = refl

pub returns-clause-behind_the_count : goal.returns-clause-behind_the_count
unfolding digits
returns-clause-behind_the_count c = refl
