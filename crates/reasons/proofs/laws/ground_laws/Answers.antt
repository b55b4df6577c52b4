use Rattle.reasons.proofs.Founding.{all_grounded}
use Rattle.reasons.proofs.laws.ground_laws.Goals as goal

pub returns : goal.returns
returns c = all_grounded
