-- How the first fault is found, part by part.
use Rattle.std.proofs.Common.{◌≡◌, List, ◌++◌, Option}
use Rattle.classes.proofs.FirstFaults as faults
use Rattle.typing.specs.declared.fault.TypeFault.{TypeFault}
use Rattle.typing.specs.Faults.{type_fault_place}
use Rattle.typing.specs.Noted.{type_noted}

pub noted_append : (first : Option TypeFault) (xs ys : List TypeFault) → type_noted first (xs ++ ys) ≡ type_noted (type_noted first xs) ys
noted_append first xs ys = faults.noted_append type_fault_place first xs ys
