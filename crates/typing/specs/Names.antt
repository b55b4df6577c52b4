-- What a variable of the code is as plain data.
use Rattle.core_program.specs.Types.{Variable}
use Rattle.typing.specs.declared.scope.Slot.{Slot}

-- the slot, the type and whether it is final, without the name that the code keeps with them
abbrev pub variable_of : Slot → Variable
variable_of v = record { slot = v.slot; is_final = v.is_final; ty = v.ty }
