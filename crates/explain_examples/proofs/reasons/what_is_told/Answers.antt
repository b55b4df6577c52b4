use Rattle.std.proofs.Common.{refl}
use Rattle.explain_examples.proofs.reasons.what_is_told.Goals as goal

pub returns : goal.returns
returns c = refl
