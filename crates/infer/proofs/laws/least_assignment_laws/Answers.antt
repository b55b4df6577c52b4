use Rattle.rules.specs.Near.{rel_of}
use Rattle.infer.proofs.LeastLemmas.{least_unique, least_decides, least_accepts}
use Rattle.rules.proofs.Required.{required_in_rel}
use Rattle.infer.proofs.laws.least_assignment_laws.Goals as goal

pub returns-clause-unique : goal.returns-clause-unique
returns-clause-unique c = least_unique

pub returns-clause-decides : goal.returns-clause-decides
returns-clause-decides c P sets A typed relevant least = least_decides P (rel_of sets) (λ m method is. required_in_rel P sets relevant typed m method is) A least

pub returns-clause-accepts : goal.returns-clause-accepts
returns-clause-accepts c = least_accepts
