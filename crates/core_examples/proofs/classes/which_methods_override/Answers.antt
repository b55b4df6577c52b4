use Rattle.std.proofs.Common.{refl, arith}
use Rattle.core_examples.proofs.classes.which_methods_override.Goals as goal

pub returns-clause-overrides : goal.returns-clause-overrides
returns-clause-overrides c = record { differs = λ e. omega (arith, e); method = _; is = refl; runs = refl }
