use Rattle.core_program.specs.Views as core
use Rattle.syntax.specs.Views.{program_tree}
use Rattle.typing.specs.declared.fault.TypeFault.TheVariants.{NoMemory as OutOfMemory}
use Rattle.std.proofs.Common.{◌≡◌, ◌⊎◌}
use Rattle.typing.specs.Programs.{IsFirstTypeFault}
use Rattle.typing.proofs.Answering.{core_told, fault_told}
use Rattle.typing.proofs.TypedPrograms.{result_typed}
use Rattle.typing.proofs.make.elaborate.Goals as goal

pub returns-clause-core_given : goal.returns-clause-core_given
returns-clause-core_given c = core_told core.program_of c.core_or_fault.result (program_tree c.args.program.now) c.core_or_fault.ensures

pub returns-clause-fault_given : goal.returns-clause-fault_given
returns-clause-fault_given c = fault_told core.program_of c.core_or_fault.result (program_tree c.args.program.now) c.core_or_fault.ensures

pub returns-clause-typed : goal.returns-clause-typed
returns-clause-typed c =
    result_typed core.program_of (λ e. (e ≡ OutOfMemory) ⊎ IsFirstTypeFault (program_tree c.args.program.now) e) c.core_or_fault.result (program_tree c.args.program.now) c.requires.no_class_faults c.core_or_fault.ensures
