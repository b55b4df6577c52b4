-- The first of the faults that are found one after the other.
use Rattle.std.specs.Prelude.{List, Option}
use Rattle.classes.specs.First as faults
use Rattle.classes.specs.declared.fault.ClassFault.{ClassFault}
use Rattle.classes.specs.Faults.{class_fault_place}

-- the first of these, and of one that was found before
abbrev pub noted : Option ClassFault → List ClassFault → Option ClassFault
noted = faults.first_noted class_fault_place
