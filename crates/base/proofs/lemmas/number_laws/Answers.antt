use Rattle.base.proofs.NumberLemmas.{one_and, eqb_turned, other_below, other_above}
use Rattle.base.proofs.lemmas.number_laws.Goals as goal

pub returns : goal.returns
returns c = record { more = one_and; turned = eqb_turned; below = other_below; above = other_above }
