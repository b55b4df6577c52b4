-- What a change does to each object and each lock.
use Rattle.std.specs.Prelude.{Option, Some, None, if◌then◌else◌, ℕ}
use Rattle.state.specs.declared.value.Address.{Address}
use Rattle.state.specs.declared.value.Value.{Value}
use Rattle.state.specs.Values.{address_eq}
use Rattle.state.specs.Memory.{Object, Hold, with_value}
use Rattle.semantics.specs.Step.{Change, FieldIs, ObjectIs, LockIs}

-- the object with another value of the field at this index, where there is one
abbrev pub object_with : ℕ → Value → Option Object → Option Object
object_with index v None = None
object_with index v (Some o) = Some (with_value index v o)

-- objects and locks after a change
abbrev pub objects_after : Change → (Address → Option Object) → Address → Option Object
objects_after (FieldIs a index v) get = λ b. if address_eq a b then object_with index v (get a) else get b
objects_after (ObjectIs a o) get = λ b. if address_eq a b then Some o else get b
objects_after _ get = get

-- each lock after a change, where each was so before it
abbrev pub locks_after : Change → (Address → Option Hold) → Address → Option Hold
locks_after (LockIs a hold) get = λ b. if address_eq b a then hold else get b
locks_after _ get = get
