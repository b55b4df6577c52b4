use Rattle.std.proofs.Common.{refl}
use Rattle.std.specs.Fmt.{digits}
use Rattle.front_examples.proofs.core_programs.what_core_methods_are.Goals as goal

pub returns-clause-many_locals : goal.returns-clause-many_locals
unfolding digits
returns-clause-many_locals c = refl

pub returns-clause-too_many_locals : goal.returns-clause-too_many_locals
unfolding digits
returns-clause-too_many_locals c = refl
