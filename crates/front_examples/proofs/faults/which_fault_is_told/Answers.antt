use Rattle.std.proofs.Common.{refl, arith}
use Rattle.classes.specs.declared.fault.ClassFault.TheVariants.{BadConstructor, NoRun}
use Rattle.classes.specs.Faults.{all_class_faults, class_fault_place}
use Rattle.front_examples.specs.Lined.{lined}
use Rattle.front_examples.proofs.Told.{first_is, not_first}
use Rattle.front_examples.proofs.faults.which_fault_is_told.Goals as goal

pub returns-clause-told : goal.returns-clause-told
returns-clause-told c = first_is class_fault_place (all_class_faults lined) (BadConstructor 10) (1, omega arith, refl) refl

pub returns-clause-not_told : goal.returns-clause-not_told
returns-clause-not_told c = not_first class_fault_place (all_class_faults lined) (NoRun 10) (BadConstructor 10) (1, omega arith, refl) refl
