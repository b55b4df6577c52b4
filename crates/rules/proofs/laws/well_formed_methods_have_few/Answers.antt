use Rattle.rules.proofs.LimitLemmas.{well_formed_first}
use Rattle.rules.proofs.laws.well_formed_methods_have_few.Goals as goal

pub returns : goal.returns
returns c = well_formed_first
