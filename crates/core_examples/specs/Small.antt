-- Small expressions and states.
use Rattle.std.specs.Prelude.{pos, List, [], ◌∷◌, Option, Some, None, if◌then◌else◌}
use Rattle.std.specs.FinMap as map
use Rattle.core_program.specs.Core.{Expr, IntE}
use Rattle.state.specs.declared.value.Address.{Address}
use Rattle.state.specs.declared.value.Value.{Value}
use Rattle.state.specs.declared.value.Value.TheVariants.{Int, Null, Ref}
use Rattle.state.specs.Values.{address_eq}
use Rattle.state.specs.Memory.{Object, Hold, Heap}
use Rattle.state.specs.States.{Ready, Done, State}
use Rattle.semantics.specs.Step.{Shared}
use Rattle.core_examples.specs.Seen.{here, there, object_of}

-- the literal `1`
abbrev pub one : Expr
one = IntE (pos 1)

-- the literal `2`
abbrev pub two : Expr
two = IntE (pos 2)

-- the literal `3`
abbrev pub three : Expr
three = IntE (pos 3)

-- the address of the thread 0's second object
abbrev pub second_object : Address
second_object = record { thread = 0; count = 1 }

-- two objects of the thread 0 and one of the thread 1
abbrev pub three_entries : List (Address × Object)
three_entries = (here, object_of 0) ∷ (second_object, object_of 0) ∷ (there, object_of 1) ∷ []

-- these three objects as a heap
abbrev pub three_objects : Heap
three_objects = map.from_sorted three_entries

-- the thread 1 holds the lock of an address twice
abbrev pub lock_at : Address → List (Address × Hold)
lock_at a = (a, record { holder = 1; count = 2 }) ∷ []

-- these objects, a lock, three threads, and one printed number
abbrev pub small : State
small = record {
  heap = three_objects;
  locks = map.from_sorted (lock_at there);
  threads = Done ∷ Ready here 0 ∷ Done ∷ [];
  output = pos 1 ∷ [];
}

-- an object of the class with fields of every kind, with these values of `left` and `right`
abbrev pub node_with : (left right : Value) → Object
node_with left right = record { class = 0; values = left ∷ Null ∷ Int (pos 0) ∷ right ∷ Int (pos 1) ∷ Int (pos 2) ∷ Int (pos 3) ∷ Int (pos 4) ∷ [] }

-- two such objects, where `left` of the first is the second, and `right` of the second the first; the lock of one address is held so
abbrev pub sees_two : Address → Option Hold → Shared
sees_two a hold = record {
  object_at = λ b. if address_eq b here then Some (node_with (Ref there) Null) else (if address_eq b there then Some (node_with Null (Ref here)) else None);
  lock_at = λ b. if address_eq b a then hold else None;
  made = 1;
}

-- no object anywhere, and no held lock
abbrev pub sees_nothing : Shared
sees_nothing = record { object_at = λ a. None; lock_at = λ a. None; made = 0 }
