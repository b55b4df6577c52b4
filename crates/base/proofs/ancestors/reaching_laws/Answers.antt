use Rattle.base.proofs.Going.{reaching_exact}
use Rattle.base.proofs.ancestors.reaching_laws.Goals as goal

pub returns : goal.returns
returns c above count k d below low = reaching_exact above count below k d low
