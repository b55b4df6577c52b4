use Rattle.std.proofs.Common.{refl}
use Rattle.std.specs.Fmt.{digits}
use Rattle.explain_examples.proofs.lines.how_basics_are_listed.Goals as goal

pub returns-clause-movers : goal.returns-clause-movers
unfolding digits
returns-clause-movers c = refl

pub returns-clause-others : goal.returns-clause-others
unfolding digits
returns-clause-others c = refl
