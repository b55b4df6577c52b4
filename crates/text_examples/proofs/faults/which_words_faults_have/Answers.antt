use Rattle.std.proofs.Common.{refl}
use Rattle.std.specs.Fmt.{digits}
use Rattle.text_examples.proofs.faults.which_words_faults_have.Goals as goal

pub returns-clause-line : goal.returns-clause-line
unfolding digits
returns-clause-line c = refl

pub returns-clause-fault_line : goal.returns-clause-fault_line
unfolding digits
returns-clause-fault_line c = refl
