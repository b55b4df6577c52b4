-- The first of the faults that are found one after the other.
use Rattle.std.specs.Prelude.{List, Option}
use Rattle.classes.specs.First as faults
use Rattle.typing.specs.declared.fault.TypeFault.{TypeFault}
use Rattle.typing.specs.Faults.{type_fault_place}

-- the first of these, and of one that was found before
abbrev pub type_noted : Option TypeFault → List TypeFault → Option TypeFault
type_noted = faults.first_noted type_fault_place
