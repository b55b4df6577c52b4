use Rattle.reasons.proofs.Causing.{part_meant}
use Rattle.reasons.proofs.laws.error_laws.Goals as goal

pub returns : goal.returns
returns c = part_meant
