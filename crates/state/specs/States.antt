-- States of the machine, and the one at the start.
use Rattle.std.specs.Prelude.{ℕ, ℤ, pos, ◌-◌, List, [], ◌∷◌, ◌++◌, length, replicate, Option, Some, None, slice_get}
use Rattle.std.specs.FinMap as map
use Rattle.core_program.specs.Core.{Program, Class, Method}
use Rattle.state.specs.declared.value.Address.{Address}
use Rattle.state.specs.declared.value.Value.{Value}
use Rattle.state.specs.declared.value.Value.TheVariants as value
use Rattle.state.specs.declared.value.Fault.{Fault}
use Rattle.state.specs.Memory.{Object, Heap, Locks, new_values}
use Rattle.state.specs.Work.{Item, St, Act, Ret}

-- a frame: its method, its slots, its operands with the topmost first, and what it has still to do
pub record Frame : Type 0 where
  pub method : ℕ
  pub slots : List Value
  pub operands : List Value
  pub work : List Item

-- a thread with frames of some type, the innermost first: ready to run a method on an object, running, done, or faulted
pub data ThreadOf (F : Type 0) : Type 0 where
  Ready : Address → ℕ → ThreadOf F
  Running : List F → ThreadOf F
  Done : ThreadOf F
  Faulted : Fault → List F → ThreadOf F

-- a thread of the machine that runs work lists
abbrev pub Thread : Type 0
Thread = ThreadOf Frame

-- a state with frames of some type: the heap, the held locks, the threads by their numbers, and what was printed
pub record StateOf (F : Type 0) : Type 0 where
  pub heap : Heap
  pub locks : Locks
  pub threads : List (ThreadOf F)
  pub output : List ℤ

-- a state of the machine that runs work lists
abbrev pub State : Type 0
State = StateOf Frame

-- the slots of a new frame: `this`, the arguments, and 0 in each other slot
abbrev pub new_slots : Method → Value → List Value → List Value
new_slots method this arguments = (this ∷ arguments) ++ replicate (method.slots - length (this ∷ arguments)) (value.Int (pos 0))

-- a new frame of a method: it has to do the body, and then to return
abbrev pub new_frame : ℕ → Method → Value → List Value → Frame
new_frame m method this arguments = record {
  method = m;
  slots = new_slots method this arguments;
  operands = [];
  work = St method.body ∷ Act Ret ∷ [];
}

-- the address of the object of the class `Main` that stands at the start
abbrev pub main_address : Address
main_address = record { thread = 0; count = 0 }

-- the fields of a class, where it is there
abbrev pub fields_of : Option Class → List ℕ
fields_of None = []
fields_of (Some c) = c.fields

-- a new object of a class, from the arguments for its final fields
abbrev pub new_object : Program → ℕ → List Value → Object
new_object P c arguments = record { class = c; values = new_values P (fields_of (slice_get P.classes c)) arguments }

-- the state at the start: one object, no held lock, one thread that is ready to run `main` on the object
abbrev pub initial : Program → State
initial P = record {
  heap = map.insert map.empty main_address (new_object P P.main_class []);
  locks = map.empty;
  threads = Ready main_address P.main ∷ [];
  output = [];
}
