use Rattle.rules.proofs.Falling.{closed_above}
use Rattle.rules.proofs.laws.closed_above_larger_sets.Goals as goal

pub returns : goal.returns
returns c = closed_above
