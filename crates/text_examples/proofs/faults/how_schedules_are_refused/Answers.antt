use Rattle.std.proofs.Common.{refl}
use Rattle.std.specs.Fmt.{digits}
use Rattle.text_examples.proofs.faults.how_schedules_are_refused.Goals as goal

pub returns-clause-texts : goal.returns-clause-texts
unfolding digits
returns-clause-texts c = refl

pub returns-clause-stopped : goal.returns-clause-stopped
unfolding digits
returns-clause-stopped c = refl

pub returns-clause-open : goal.returns-clause-open
unfolding digits
returns-clause-open c = refl
