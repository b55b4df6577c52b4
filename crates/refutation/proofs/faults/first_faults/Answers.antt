-- The first fault is where a rule is broken, else where no text goes on.
use Rattle.refutation.proofs.FaultLaws.{broken, found, only}
use Rattle.refutation.proofs.faults.first_faults.Goals as goal

pub returns-clause-broken : goal.returns-clause-broken
returns-clause-broken c = broken

pub returns-clause-exact : goal.returns-clause-exact
returns-clause-exact c = λ bytes place. (found bytes place, only bytes place)
