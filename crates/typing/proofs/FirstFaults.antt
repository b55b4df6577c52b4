-- The first of a program's type faults, by the laws of first faults.
use Rattle.std.proofs.Common.{◌≡◌, [], Some, None, refl, ◌==◌, if◌then◌else◌}
use Rattle.classes.specs.declared.first.FaultPlace.{FaultPlace}
use Rattle.classes.proofs.FirstFaults as first
use Rattle.syntax.specs.Trees.{ProgramTree}
use Rattle.typing.specs.declared.fault.TypeFault.{TypeFault}
use Rattle.typing.specs.declared.fault.TypeFault.TheVariants as kind
use Rattle.typing.specs.Faults.{type_fault_place}
use Rattle.typing.specs.Programs.{program_type_faults, IsFirstTypeFault}
use Rattle.typing.specs.Noted.{type_noted}

-- the fault that stands at a place
abbrev fault_at : FaultPlace → TypeFault
fault_at p =
    if p.rank == 1 then kind.UnknownName p.offset else if p.rank == 2 then kind.NoRule p.offset else if p.rank == 3 then kind.FinalAssigned p.offset
    else if p.rank == 4 then kind.NotALock p.offset else if p.rank == 5 then kind.MissingReturn p.offset else if p.rank == 6 then kind.Unreachable p.offset
    else if p.rank == 7 then kind.TooManyLocals p.offset else if p.rank == 8 then kind.Redeclared p.offset else kind.NoMemory

fault_again : (f : TypeFault) → fault_at (type_fault_place f) ≡ f
fault_again (kind.UnknownName at) = refl
fault_again (kind.NoRule at) = refl
fault_again (kind.FinalAssigned at) = refl
fault_again (kind.NotALock at) = refl
fault_again (kind.MissingReturn at) = refl
fault_again (kind.Unreachable at) = refl
fault_again (kind.TooManyLocals at) = refl
fault_again (kind.Redeclared at) = refl
fault_again kind.NoMemory = refl

pub first_is : (tree : ProgramTree) (f : TypeFault) → type_noted None (program_type_faults tree) ≡ Some f → IsFirstTypeFault tree f
first_is tree f is = first.first_is type_fault_place (program_type_faults tree) f is

pub none_is : (tree : ProgramTree) → type_noted None (program_type_faults tree) ≡ None → program_type_faults tree ≡ []
none_is tree is = first.none_is type_fault_place (program_type_faults tree) is

pub one_first : (tree : ProgramTree) (f g : TypeFault) → IsFirstTypeFault tree f → IsFirstTypeFault tree g → f ≡ g
one_first tree f g h k = first.one_first type_fault_place fault_at fault_again (program_type_faults tree) f g h k

pub no_first : (tree : ProgramTree) (f : TypeFault) → program_type_faults tree ≡ [] → IsFirstTypeFault tree f → ⊥
no_first tree f none h = first.no_first type_fault_place (program_type_faults tree) f none h

-- a program with faults has a first one
pub some_first : (tree : ProgramTree) → (program_type_faults tree ≡ [] → ⊥) → (f : TypeFault) × IsFirstTypeFault tree f
some_first tree some = first.some_first type_fault_place (program_type_faults tree) some
