use Rattle.std.proofs.Common.{refl}
use Rattle.std.specs.Fmt.{digits}
use Rattle.text_examples.proofs.calls.how_calls_are_told.Goals as goal

pub returns-clause-results : goal.returns-clause-results
unfolding digits
returns-clause-results c = refl

pub returns-clause-prints : goal.returns-clause-prints
unfolding digits
returns-clause-prints c = refl

pub returns-clause-line : goal.returns-clause-line
unfolding digits
returns-clause-line c = refl

pub returns-clause-lines : goal.returns-clause-lines
unfolding digits
returns-clause-lines c = refl

pub returns-clause-too_deep : goal.returns-clause-too_deep
unfolding digits
returns-clause-too_deep c = refl
