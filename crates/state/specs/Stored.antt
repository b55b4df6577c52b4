-- What the calls of the heap and of the held locks find, and when a lock may be taken.
use Rattle.std.specs.Prelude.{◌≡◌, ℕ, ◌+◌, ◌-◌, ◌<◌, ◌^◌, nat_lt, List, Option, Some, None, IsSome, option_and_then, slice_get, if◌then◌else◌}
use Rattle.std.specs.Borrow.{Bor}
use Rattle.std.specs.FinMap as map
use Rattle.state.specs.declared.value.Address.{Address}
use Rattle.state.specs.declared.value.Value.{Value}
use Rattle.state.specs.Memory.{Object, Hold, Heap}

-- the object that was found, if any
abbrev pub found_object : Option (ℕ × Bor (List Value)) → Option Object
found_object None = None
found_object (Some e) = Some (record { class = e.0; values = e.1.now })

-- the lock that was found, if any
abbrev pub found_lock : Option (ℕ × ℕ) → Option Hold
found_lock None = None
found_lock (Some e) = Some (record { holder = e.0; count = e.1 })

-- there is an object at the address, and it has a field at this index
abbrev pub HasField : Heap → Address → ℕ → Type 0
HasField heap a index = IsSome (option_and_then (λ o. slice_get o.values index) (map.get heap a))

-- no other thread holds the lock, and its count can rise
abbrev pub MayTake : ℕ → Option Hold → Type 0
MayTake thread None = Unit {0}
MayTake thread (Some hold) = (hold.holder ≡ thread) × (hold.count < 2 ^ 32 - 1)

-- the lock after the thread took it once more
abbrev pub taken_by : ℕ → Option Hold → Hold
taken_by thread None = record { holder = thread; count = 1 }
taken_by thread (Some hold) = record hold { count = hold.count + 1 }

-- the lock after it was given back once: none where it is free then
abbrev pub stored_given_back : Option Hold → Option Hold
stored_given_back None = None
stored_given_back (Some hold) = if nat_lt 1 hold.count then Some (record hold { count = hold.count - 1 }) else None
