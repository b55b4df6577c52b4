use Rattle.std.proofs.Common.{refl, arith}
use Rattle.typing.specs.declared.fault.TypeFault.TheVariants.{NotALock, NoRule}
use Rattle.typing.specs.Faults.{type_fault_place}
use Rattle.typing.specs.Programs.{program_type_faults}
use Rattle.front_examples.specs.Whole.{two_faults}
use Rattle.front_examples.proofs.Told.{first_is, not_first}
use Rattle.front_examples.proofs.core_programs.what_core_programs_are.Goals as goal

pub returns-clause-is_core : goal.returns-clause-is_core
returns-clause-is_core c = record { faultless = refl; core = refl }

pub returns-clause-told : goal.returns-clause-told
returns-clause-told c = first_is type_fault_place (program_type_faults two_faults) (NotALock 4) (0, omega arith, refl) refl

pub returns-clause-not_told : goal.returns-clause-not_told
returns-clause-not_told c = not_first type_fault_place (program_type_faults two_faults) (NoRule 11) (NotALock 4) (0, omega arith, refl) refl
