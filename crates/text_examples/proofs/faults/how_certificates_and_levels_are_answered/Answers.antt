use Rattle.std.proofs.Common.{refl}
use Rattle.std.specs.Fmt.{digits}
use Rattle.text_examples.proofs.faults.how_certificates_and_levels_are_answered.Goals as goal

pub returns-clause-blame : goal.returns-clause-blame
unfolding digits
returns-clause-blame c = refl

pub returns-clause-wrong : goal.returns-clause-wrong
unfolding digits
returns-clause-wrong c = refl

pub returns-clause-levels : goal.returns-clause-levels
unfolding digits
returns-clause-levels c = refl

pub returns-clause-takes : goal.returns-clause-takes
unfolding digits
returns-clause-takes c = refl
