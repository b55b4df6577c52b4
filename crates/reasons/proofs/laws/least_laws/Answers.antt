use Rattle.reasons.proofs.LeastRuns.{within}
use Rattle.reasons.proofs.laws.least_laws.Goals as goal

pub returns : goal.returns
returns c = within
