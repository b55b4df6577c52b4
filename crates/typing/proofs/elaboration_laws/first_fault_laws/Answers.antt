use Rattle.typing.proofs.FirstFaults.{some_first, one_first, no_first}
use Rattle.typing.proofs.elaboration_laws.first_fault_laws.Goals as goal

pub returns-clause-some : goal.returns-clause-some
returns-clause-some c = some_first

pub returns-clause-one : goal.returns-clause-one
returns-clause-one c = one_first

pub returns-clause-apart : goal.returns-clause-apart
returns-clause-apart c = λ tree f P first core. no_first tree f core.faultless first
