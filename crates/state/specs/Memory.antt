-- What all threads share: the heap of objects and the table of held locks.
use Rattle.std.specs.Prelude.{◌≡◌, ℕ, Bool, false, nat_lt, is_some, ◌==◌, List, [], ◌∷◌, Option, Some, None, slice_get, slice_set, count_by, if◌then◌else◌}
use Rattle.std.specs.declared.cmp.Ordering.{Ordering}
use Rattle.std.specs.Ordering.{nat_cmp, ordering_then}
use Rattle.std.specs.FinMap as map
use Rattle.core_program.specs.Core.{Program, Class, Field}
use Rattle.state.specs.declared.value.Address.{Address}
use Rattle.state.specs.declared.value.Value.{Value}
use Rattle.state.specs.declared.value.Value.TheVariants.{Null}
use Rattle.state.specs.Values.{default_value, top, under}

-- the order of addresses: by thread, then by count
abbrev pub address_cmp : Address → Address → Ordering
address_cmp a b = ordering_then (nat_cmp a.thread b.thread) (nat_cmp a.count b.count)

-- an object: its class, and the values of the class's fields in order
pub record Object : Type 0 where
  pub class : ℕ
  pub values : List Value

-- a held lock: the thread that holds it, and how often
pub record Hold : Type 0 where
  pub holder : ℕ
  pub count : ℕ

-- the objects by their addresses
abbrev pub Heap : Type 0
Heap = map.FinMap address_cmp Object

-- the held locks by the addresses of their objects
abbrev pub Locks : Type 0
Locks = map.FinMap address_cmp Hold

-- how many objects a thread made
abbrev pub made_by : ℕ → Heap → ℕ
made_by t heap = count_by (λ a. a.thread == t) (map.keys heap)

-- the address of a thread's next object
abbrev pub next_address : ℕ → Heap → Address
next_address t heap = record { thread = t; count = made_by t heap }

-- each thread's objects have the counts from 0 up to how many it made
abbrev pub IsNumbered : Heap → Type 0
IsNumbered heap = (t n : ℕ) → is_some (map.get heap (record { thread = t; count = n })) ≡ nat_lt n (made_by t heap)

-- whether it is this field
abbrev pub is_field : ℕ → Option ℕ → Bool
is_field f None = false
is_field f (Some g) = g == f

-- whether a class lists this field at this index
abbrev pub lists : Option Class → (index f : ℕ) → Bool
lists None index f = false
lists (Some c) index f = is_field f (slice_get c.fields index)

-- the value of a field of an object; none where there is no such object or field, or the object's class doesn't list the field at its index
abbrev pub field_value : Program → ℕ → Option Object → Option Field → Option Value
field_value P f None field = None
field_value P f (Some o) None = None
field_value P f (Some o) (Some field) = if lists (slice_get P.classes o.class) field.index f then slice_get o.values field.index else None

-- the value of a field of the object at an address; none where there is no such object or field, or its class doesn't list the field at its index
abbrev pub value_in : Program → Heap → Address → ℕ → Option Value
value_in P heap a f = field_value P f (map.get heap a) (slice_get P.fields f)

-- the object with another value of the field at this index
abbrev pub with_value : ℕ → Value → Object → Object
with_value index v o = record o { values = slice_set o.values index v }

-- the heap with the object at an address changed, where there is one
abbrev pub with_object : Address → Option Object → (Object → Object) → Heap → Heap
with_object a None change heap = heap
with_object a (Some o) change heap = map.insert heap a (change o)

-- the heap with another value of the field at this index of the object at an address
abbrev pub with_field : Address → ℕ → Value → Heap → Heap
with_field a index v heap = with_object a (map.get heap a) (with_value index v) heap

-- the locks with the one of an address held so, or free
abbrev pub with_lock : Address → Option Hold → Locks → Locks
with_lock a None locks = map.remove locks a
with_lock a (Some hold) locks = map.insert locks a hold

-- the value of a field of a new object: the next argument for a final one, else 0, false or null
abbrev pub new_value : Option Field → Value → Value
new_value None argument = Null
new_value (Some f) argument = if f.is_final then argument else default_value f.ty

-- the arguments that are left for the fields after this one
abbrev pub left_after : Option Field → List Value → List Value
left_after None arguments = arguments
left_after (Some f) arguments = if f.is_final then under arguments else arguments

-- the values of the fields of a new object, in order
abbrev pub new_values : Program → List ℕ → List Value → List Value
new_values P [] arguments = []
new_values P (f ∷ fs) arguments =
    new_value (slice_get P.fields f) (top arguments) ∷ new_values P fs (left_after (slice_get P.fields f) arguments)
