-- What is done to a thread's top frame.
use Rattle.std.specs.Prelude.{◌≡◌, ℕ, ℤ, ◌+◌, ◌<◌, List, [], ◌∷◌, ◌++◌, length, Option, Some, None, IsSome, option_and_then, slice_get, slice_set}
use Rattle.std.specs.FinMap as map
use Rattle.core_program.specs.Core.{Program, Method}
use Rattle.state.specs.declared.value.Value.TheVariants as value
use Rattle.state.specs.Memory.{Heap, Hold, Locks, made_by, with_field, with_lock, new_values}
use Rattle.state.specs.Stored.{taken_by, stored_given_back}
use Rattle.state.specs.States.{ThreadOf, Running, Faulted, fields_of}
use Rattle.semantics.specs.Step.{Shared}
use Rattle.machine.specs.declared.deed.Deed.{Deed}
use Rattle.machine.specs.declared.deed.Deed.TheVariants as deed
use Rattle.machine.specs.CodeMachine.{code_frame_at, next_object}
use Rattle.machine.specs.Listed.{listed}
use Rattle.state.specs.declared.value.Address.{Address}
use Rattle.state.specs.declared.value.Value.{Value}
use Rattle.state.specs.Values.{under, dropped}
use Rattle.state.specs.Frames.{CodeFrame, frame_given, rest_of, frames_in, on_first, on_top, popped}

-- it drops operands, is given one or none, and goes on
abbrev pub advanced : ℕ → Option Value → ℕ → CodeFrame → CodeFrame
advanced drops gives place f = record f { operands = frame_given gives (dropped drops f.operands); place = place }

-- a slot gets a value, and the topmost operand is dropped
abbrev pub stores_on : ℕ → Value → ℕ → CodeFrame → CodeFrame
stores_on slot v place f = record f { slots = slice_set f.slots slot v; operands = under f.operands; place = place }

-- a lock is taken, and the topmost operand is dropped
abbrev pub takes_on : Address → ℕ → CodeFrame → CodeFrame
takes_on a place f = record f { operands = under f.operands; place = place; taken = a ∷ f.taken }

-- the last taken lock is given back
abbrev pub gives_on : ℕ → CodeFrame → CodeFrame
gives_on place f = record f { place = place; taken = rest_of f.taken }

-- the frame is given a result or none
abbrev pub given_on : Option Value → CodeFrame → CodeFrame
given_on gives f = record f { operands = frame_given gives f.operands }

-- the operands of a thread's top frame
abbrev pub first_operands : List CodeFrame → List Value
first_operands [] = []
first_operands (f ∷ fs) = f.operands

-- the operands of a thread's top frame; none where it has no frame
abbrev pub operands_in : ThreadOf CodeFrame → List Value
operands_in thread = first_operands (frames_in thread)

-- the thread gets a frame of a method, where it is there, and its top frame goes on
abbrev pub called_thread : ℕ → Option Method → Value → ℕ → (place at : ℕ) → ThreadOf CodeFrame → ThreadOf CodeFrame
called_thread m None this n place at thread = thread
called_thread m (Some method) this n place at thread =
    Running (code_frame_at m method this (listed n (operands_in thread)) at ∷ on_first (advanced (n + 1) None place) (frames_in thread))

-- a running thread after what is done
abbrev pub deed_thread : Program → Shared → ℕ → Deed → ThreadOf CodeFrame → ThreadOf CodeFrame
deed_thread P see t (deed.Fails kind) thread = Faulted kind (frames_in thread)
deed_thread P see t (deed.Goes drops gives place) thread = on_top (advanced drops gives place) thread
deed_thread P see t (deed.Stores x v place) thread = on_top (stores_on x v place) thread
deed_thread P see t (deed.Reads a x v place) thread = on_top (advanced 1 (Some v) place) thread
deed_thread P see t (deed.Writes a x index v place) thread = on_top (advanced 2 None place) thread
deed_thread P see t (deed.Makes c n place) thread = on_top (advanced n (Some (value.Ref (next_object see t))) place) thread
deed_thread P see t (deed.Enters m n a place at most) thread = called_thread m (slice_get P.methods m) (value.Ref a) n place at thread
deed_thread P see t (deed.Takes a again place) thread = on_top (takes_on a place) thread
deed_thread P see t (deed.Waits a holder) thread = thread
deed_thread P see t (deed.Gives a frees place) thread = on_top (gives_on place) thread
deed_thread P see t (deed.Returns gives) thread = on_top (given_on gives) (popped thread)
deed_thread P see t (deed.Prints n place) thread = on_top (advanced 1 None place) thread
deed_thread P see t (deed.Starts a m place) thread = on_top (advanced 1 None place) thread

-- the heap, the locks and the output after what is done by a thread with these operands
abbrev pub deed_heap : Program → Shared → ℕ → List Value → Deed → Heap → Heap
deed_heap P see t ops (deed.Writes a x index v place) heap = with_field a index v heap
deed_heap P see t ops (deed.Makes c n place) heap = map.insert heap (next_object see t) (record { class = c; values = new_values P (fields_of (slice_get P.classes c)) (listed n ops) })
deed_heap P see t ops _ heap = heap

-- the held locks after a deed: one that is taken, or one that is given back
abbrev pub deed_locks : Shared → ℕ → Deed → Locks → Locks
deed_locks see t (deed.Takes a again place) locks = map.insert locks a (taken_by t (see.lock_at a))
deed_locks see t (deed.Gives a frees place) locks = with_lock a (stored_given_back (see.lock_at a)) locks
deed_locks see t _ locks = locks

-- what is printed after a deed: one number more, where one is printed
abbrev pub deed_output : Deed → List ℤ → List ℤ
deed_output (deed.Prints n place) output = output ++ n ∷ []
deed_output _ output = output

-- what a thread sees of a heap and locks
abbrev pub seen_of : ℕ → Heap → Locks → Shared
seen_of t heap locks = record { object_at = map.get heap; lock_at = map.get locks; made = made_by t heap }

-- no other thread holds the lock
abbrev pub IsOwned : ℕ → Option Hold → Type 0
IsOwned t None = Unit {0}
IsOwned t (Some hold) = hold.holder ≡ t

-- What is there wherever a deed is decided, for the slots of the thread's top frame: the slot or the field that is written,
-- the method that is entered, and the lock that is given back; and no other thread holds the lock that is taken.
abbrev pub Can : Program → Shared → ℕ → List Value → Deed → Type 0
Can P see t slots (deed.Stores x v place) = x < length slots
Can P see t slots (deed.Writes a x index v place) = IsSome (option_and_then (λ o. slice_get o.values index) (see.object_at a))
Can P see t slots (deed.Enters m n a place at most) = IsSome (slice_get P.methods m)
Can P see t slots (deed.Takes a again place) = IsOwned t (see.lock_at a)
Can P see t slots (deed.Gives a frees place) = IsSome (see.lock_at a)
Can P see t slots _ = Unit {0}
