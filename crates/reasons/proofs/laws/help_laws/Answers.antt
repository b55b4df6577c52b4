use Rattle.reasons.proofs.Helpless.{help_meant}
use Rattle.reasons.proofs.laws.help_laws.Goals as goal

pub returns : goal.returns
returns c = help_meant
