use Rattle.base.proofs.Going.{circle_exact, going_ends}
use Rattle.base.proofs.ancestors.circle_laws.Goals as goal

pub returns-clause-exact : goal.returns-clause-exact
returns-clause-exact c above count k below low = circle_exact above count below k low

pub returns-clause-ends : goal.returns-clause-ends
returns-clause-ends c above count below none k low = going_ends above count below none k low
