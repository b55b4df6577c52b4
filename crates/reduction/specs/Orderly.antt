-- States in which steps exchange: what is asked is there, and nothing dangles.
use Rattle.std.specs.Prelude.{◌≡◌, ℕ, true, Some, is_some, slice_get}
use Rattle.std.specs.FinMap as map
use Rattle.core_program.specs.Core.{Program}
use Rattle.state.specs.declared.value.Address.{Address}
use Rattle.state.specs.declared.value.Value.{Value}
use Rattle.state.specs.declared.value.Value.TheVariants as value
use Rattle.state.specs.Memory.{Object, Heap, Locks, made_by, IsNumbered}
use Rattle.state.specs.States.{State}
use Rattle.semantics.specs.Step.{Shared}
use Rattle.semantics.specs.Asks.{Ask, Reads, Writes, Runs, asks}

-- what a thread may see of a heap and of held locks
abbrev pub see_in : ℕ → Heap → Locks → Shared
see_in t heap locks = record { object_at = map.get heap; lock_at = map.get locks; made = made_by t heap }

-- there is an object at the address
abbrev pub IsObjectAt : Heap → Address → Type 0
IsObjectAt heap a = is_some (map.get heap a) ≡ true

-- a value that refers to an object refers to one that is there
abbrev pub Refers : Heap → Value → Type 0
Refers heap (value.Ref a) = IsObjectAt heap a
Refers heap (value.Int n) = Unit {0}
Refers heap (value.Truth b) = Unit {0}
Refers heap value.Null = Unit {0}

-- no value of an object dangles
abbrev pub HasNoDanglingValue : Heap → Type 0
HasNoDanglingValue heap = (a : Address) (o : Object) → map.get heap a ≡ Some o → (i : ℕ) (v : Value) → slice_get o.values i ≡ Some v → Refers heap v

-- what is asked about an object is asked about one that is there
abbrev pub IsFit : Heap → Ask → Type 0
IsFit heap (Reads a x) = IsObjectAt heap a
IsFit heap (Writes a x) = IsObjectAt heap a
IsFit heap (Runs a) = IsObjectAt heap a
IsFit heap _ = Unit {0}

-- whatever a thread's turn asks about an object, of this program, is asked about one that is there; no address dangles
pub record IsOrderly (P : Program) (q : State) : Type 0 where
  pub numbered : IsNumbered q.heap
  pub closed : HasNoDanglingValue q.heap
  pub fit : (t : ℕ) → IsFit q.heap (asks P (slice_get q.threads t))
