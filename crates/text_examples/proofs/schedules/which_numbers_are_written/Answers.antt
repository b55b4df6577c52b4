use Rattle.std.proofs.Common.{refl}
use Rattle.std.specs.Fmt.{digits}
use Rattle.text_examples.proofs.schedules.which_numbers_are_written.Goals as goal

pub returns-clause-threads : goal.returns-clause-threads
unfolding digits
returns-clause-threads c = refl

pub returns-clause-counts : goal.returns-clause-counts
unfolding digits
returns-clause-counts c = refl

pub returns-clause-low : goal.returns-clause-low
unfolding digits
returns-clause-low c = refl

pub returns-clause-counts_may_stand : goal.returns-clause-counts_may_stand
unfolding digits
returns-clause-counts_may_stand c = refl

pub returns-clause-may_stand : goal.returns-clause-may_stand
unfolding digits
returns-clause-may_stand c = refl
