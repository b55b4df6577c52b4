use Rattle.std.proofs.Common.{refl}
use Rattle.std.specs.Fmt.{digits}
use Rattle.text_examples.proofs.schedules.how_schedules_are_written.Goals as goal

pub returns-clause-group : goal.returns-clause-group
unfolding digits
returns-clause-group c = refl

pub returns-clause-text : goal.returns-clause-text
unfolding digits
returns-clause-text c = refl
