use Rattle.reduction.proofs.Admissible.{accepted, main_free}
use Rattle.reduction.proofs.accepting.accepted_laws.Goals as goal

pub returns-clause-accepted : goal.returns-clause-accepted
returns-clause-accepted c = accepted

pub returns-clause-main : goal.returns-clause-main
returns-clause-main c = main_free
