-- The test of overriding is exact.
use Rattle.refutation.proofs.Over.{overrides_is, is_overrides}
use Rattle.refutation.proofs.laws.overriding_is_exact.Goals as goal

pub returns : goal.returns
returns c = λ P over m. (overrides_is P over m, is_overrides P over m)
