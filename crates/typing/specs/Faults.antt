-- The order of type faults.
use Rattle.std.specs.Prelude.{ℕ, ◌^◌}
use Rattle.classes.specs.declared.first.FaultPlace.{FaultPlace}
use Rattle.typing.specs.declared.fault.TypeFault.{TypeFault}
use Rattle.typing.specs.declared.fault.TypeFault.TheVariants.{UnknownName, NoRule, FinalAssigned, NotALock, MissingReturn, Unreachable, TooManyLocals, Redeclared, NoMemory}

-- the offset at which a fault stands; want of memory stands behind every offset
abbrev pub type_fault_offset : TypeFault → ℕ
type_fault_offset (UnknownName at) = at
type_fault_offset (NoRule at) = at
type_fault_offset (FinalAssigned at) = at
type_fault_offset (NotALock at) = at
type_fault_offset (MissingReturn at) = at
type_fault_offset (Unreachable at) = at
type_fault_offset (TooManyLocals at) = at
type_fault_offset (Redeclared at) = at
type_fault_offset NoMemory = 2 ^ 32

-- the order of faults at one offset
abbrev pub type_fault_rank : TypeFault → ℕ
type_fault_rank (UnknownName at) = 1
type_fault_rank (NoRule at) = 2
type_fault_rank (FinalAssigned at) = 3
type_fault_rank (NotALock at) = 4
type_fault_rank (MissingReturn at) = 5
type_fault_rank (Unreachable at) = 6
type_fault_rank (TooManyLocals at) = 7
type_fault_rank (Redeclared at) = 8
type_fault_rank NoMemory = 9

-- where a fault stands
abbrev pub type_fault_place : TypeFault → FaultPlace
type_fault_place f = record { offset = type_fault_offset f; rank = type_fault_rank f }
