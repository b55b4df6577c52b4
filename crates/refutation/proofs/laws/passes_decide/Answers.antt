-- How the passes end.
use Rattle.refutation.proofs.PassLaws.{some_end, one_end, broken_certificate, decides, accepts, certificate_exists}
use Rattle.refutation.proofs.laws.passes_decide.Goals as goal

pub returns-clause-some : goal.returns-clause-some
returns-clause-some c = some_end

pub returns-clause-one : goal.returns-clause-one
returns-clause-one c = one_end

pub returns-clause-certificate : goal.returns-clause-certificate
returns-clause-certificate c = broken_certificate

pub returns-clause-decides : goal.returns-clause-decides
returns-clause-decides c = decides

pub returns-clause-accepts : goal.returns-clause-accepts
returns-clause-accepts c = accepts

pub returns-clause-exists : goal.returns-clause-exists
returns-clause-exists c = certificate_exists
