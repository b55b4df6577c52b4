use Rattle.std.proofs.Common.{refl}
use Rattle.std.specs.Fmt.{digits}
use Rattle.text_examples.proofs.certificates.how_certificates_are_written.Goals as goal

pub returns-clause-paths : goal.returns-clause-paths
unfolding digits
returns-clause-paths c = refl

pub returns-clause-line : goal.returns-clause-line
unfolding digits
returns-clause-line c = refl

pub returns-clause-all : goal.returns-clause-all
unfolding digits
returns-clause-all c = refl

pub returns-clause-nothing : goal.returns-clause-nothing
unfolding digits
returns-clause-nothing c = refl
