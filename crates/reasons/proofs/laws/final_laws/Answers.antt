use Rattle.reasons.proofs.Fitted.{none_fits, told_first, told_fits}
use Rattle.reasons.proofs.laws.final_laws.Goals as goal

pub returns : goal.returns
returns c = record { first = told_first; fits = told_fits; none = none_fits }
