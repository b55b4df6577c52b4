use Rattle.std.proofs.Common.{refl}
use Rattle.std.specs.Fmt.{digits}
use Rattle.text_examples.proofs.states.how_values_are_written.Goals as goal

pub returns-clause-address : goal.returns-clause-address
unfolding digits
returns-clause-address c = refl

pub returns-clause-values : goal.returns-clause-values
unfolding digits
returns-clause-values c = refl
