-- A change, part by part of the state.
use Rattle.std.specs.Prelude.{ℤ, cond, List, [], ◌∷◌, ◌++◌, Option, Some, option_map}
use Rattle.std.specs.FinMap as map
use Rattle.std.specs.Ordering.{eq_by_cmp}
use Rattle.state.specs.declared.value.Address.{Address}
use Rattle.state.specs.Memory.{Object, Hold, Heap, Locks, address_cmp, with_value, with_field, with_lock}
use Rattle.state.specs.States.{Thread, Ready}
use Rattle.semantics.specs.Step.{Change, FieldIs, ObjectIs, LockIs, Prints, Starts}

-- the heap after a change: a field of one object, or one object more
abbrev pub on_heap : Change → Heap → Heap
on_heap (FieldIs a i v) heap = with_field a i v heap
on_heap (ObjectIs a o) heap = map.insert heap a o
on_heap _ heap = heap

-- the held locks after a change
abbrev pub on_locks : Change → Locks → Locks
on_locks (LockIs a hold) locks = with_lock a hold locks
on_locks _ locks = locks

-- the threads after a change: one more at the end, where a thread was started
abbrev pub on_threads : Change → List Thread → List Thread
on_threads (Starts a m) threads = threads ++ Ready a m ∷ []
on_threads _ threads = threads

-- what is printed after a change: one number more, where one was printed
abbrev pub on_output : Change → List ℤ → List ℤ
on_output (Prints n) output = output ++ n ∷ []
on_output _ output = output

-- the object at an address after a change
abbrev pub on_object : Change → Address → Option Object → Option Object
on_object (FieldIs a i v) k o = cond (eq_by_cmp address_cmp k a) (option_map (with_value i v) o) o
on_object (ObjectIs a p) k o = cond (eq_by_cmp address_cmp k a) (Some p) o
on_object _ k o = o

-- the hold of a lock after a change
abbrev pub on_hold : Change → Address → Option Hold → Option Hold
on_hold (LockIs a hold) k o = cond (eq_by_cmp address_cmp k a) hold o
on_hold _ k o = o
