-- The machine that runs code, as definitions: what a thread does next, and what comes of it.
use Rattle.std.specs.Prelude.{ℕ, Bool, true, false, not, ◌==◌, nat_lt, List, [], ◌∷◌, length, Option, Some, None, slice_get, slice_set}
use Rattle.core_program.specs.Core.{Program, Class, Method}
use Rattle.state.specs.declared.value.Address.{Address}
use Rattle.state.specs.declared.value.Value.{Value}
use Rattle.state.specs.declared.value.Value.TheVariants as value
use Rattle.state.specs.declared.value.Fault.TheVariants as fault
use Rattle.state.specs.declared.value.StepKind.{StepKind}
use Rattle.state.specs.declared.value.StepKind.TheVariants.{Both, Right, Left, Other}
use Rattle.state.specs.Values.{top, under, popped, dropped, as_int, as_truth, address_of, unary_value, binary_value}
use Rattle.state.specs.Memory.{Hold}
use Rattle.state.specs.States.{ThreadOf, Ready, Running, Done, Faulted, StateOf, new_slots, new_object, initial, main_address}
use Rattle.state.specs.Frames.{CodeFrame, frame_given, rest_of, first_frame}
use Rattle.state.specs.Stored.{taken_by, stored_given_back}
use Rattle.compile.specs.declared.stack.Instr.{Instr}
use Rattle.compile.specs.declared.stack.Instr.TheVariants as i
use Rattle.compile.specs.declared.stack.Code.{Code}
use Rattle.semantics.specs.Step.{Shared, Change, Nothing, FieldIs, ObjectIs, LockIs, Prints, Starts, OutcomeOf, Moves, Absent, IsDone, HadFaulted, Waits, value_at, access_kind, unless_final, index_of, object_class, target_at, run_of, class_finals, most_frames, seen_by, state_after}
use Rattle.machine.specs.declared.deed.Deed.{Deed}
use Rattle.machine.specs.declared.deed.Deed.TheVariants as deed

-- a new frame of the machine over code
abbrev pub code_frame_at : ℕ → Method → Value → List Value → ℕ → CodeFrame
code_frame_at m method this arguments place = record {
  method = m;
  slots = new_slots method this arguments;
  operands = [];
  place = place;
  taken = [];
}

-- What an instruction does, by what it finds; `next` is the place after the line.

-- one operand more
abbrev pub pushes : (next : ℕ) → Option Value → Deed
pushes next None = deed.Fails fault.Null
pushes next (Some v) = deed.Goes 0 (Some v) next

-- the top operand becomes the value of local `x`, where the frame has a slot of this number
abbrev pub stores : (next : ℕ) → Value → ℕ → Option Value → Deed
stores next v x None = deed.Fails fault.Null
stores next v x (Some old) = deed.Stores x v next

-- a binary operator takes its two operands and gives its value; without a value, as where the divisor is 0, the thread faults
abbrev pub combines : (next : ℕ) → Option Value → Deed
combines next None = deed.Fails fault.Zero
combines next (Some v) = deed.Goes 2 (Some v) next

-- the left part of `&&` or `||` decides, or the right part is evaluated
abbrev pub branches_and : (next other : ℕ) → Bool → Deed
branches_and next other true = deed.Goes 1 None other
branches_and next other false = deed.Goes 1 (Some (value.Truth false)) next

-- `||`: where the left part is true, the right one isn't evaluated and the answer is true; else the right part follows
abbrev pub branches_or : (next other : ℕ) → Bool → Deed
branches_or next other true = deed.Goes 1 (Some (value.Truth true)) next
branches_or next other false = deed.Goes 1 None other

-- the condition of `if` or `while` decides: on with the next line where it is true, else at the other place
abbrev pub branches : (next other : ℕ) → Bool → Deed
branches next other true = deed.Goes 1 None next
branches next other false = deed.Goes 1 None other

-- the value of field `x` of this object in place of its address; a fault where the object has no such value
abbrev pub reads_value : (next : ℕ) → Address → ℕ → Option Value → Deed
reads_value next a x None = deed.Fails fault.Null
reads_value next a x (Some v) = deed.Reads a x v next

-- a field is read of the top operand's object, and a fault where that is no address, as with `null`
abbrev pub reads : Program → Shared → (t next x : ℕ) → Option Address → Deed
reads P see t next x None = deed.Fails fault.Null
reads P see t next x (Some a) = reads_value next a x (value_at P see t a x)

-- field `x`, which stands at this index in its object, becomes `v`, where the object has a value of it already; else a fault
abbrev pub writes_value : (next : ℕ) → Value → Address → (x index : ℕ) → Option Value → Deed
writes_value next v a x index None = deed.Fails fault.Null
writes_value next v a x index (Some old) = deed.Writes a x index v next

-- a field is written in the object of the operand below the top one; a fault where that is no address, and where the field is final
abbrev pub writes : Program → Shared → (t next : ℕ) → Value → ℕ → Option Address → Deed
writes P see t next v x None = deed.Fails fault.Null
writes P see t next v x (Some a) = writes_value next v a x (index_of (slice_get P.fields x)) (unless_final (slice_get P.fields x) (value_at P see t a x))

-- a new object of class `c`, whose final fields get their values from the operands, as many as there are of them
abbrev pub makes : (next c : ℕ) → Option Class → Deed
makes next c None = deed.Fails fault.Null
makes next c (Some class) = deed.Makes c (class_finals class) next

-- the method's first line and the room for its operands are looked up; with both there, a frame with `arity` arguments is entered
abbrev pub enters_at : (arity next m : ℕ) → Address → Option ℕ → Option ℕ → Deed
enters_at arity next m a None most = deed.Fails fault.Null
enters_at arity next m a (Some place) None = deed.Fails fault.Null
enters_at arity next m a (Some place) (Some most) = deed.Enters m arity a next place most

-- a method is entered only where the thread may have one more frame; else the call is too deep
abbrev pub enters : (entry room : List ℕ) → (arity next m : ℕ) → Address → Bool → Deed
enters entry room arity next m a false = deed.Fails fault.Depth
enters entry room arity next m a true = enters_at arity next m a (slice_get entry m) (slice_get room m)

-- the method is entered where there is one, for a thread that has `depth` frames
abbrev pub enters_some : (entry room : List ℕ) → (depth arity next m : ℕ) → Option Method → Address → Deed
enters_some entry room depth arity next m None a = deed.Fails fault.Null
enters_some entry room depth arity next m (Some method) a = enters entry room arity next m a (nat_lt depth most_frames)

-- the method that the receiver's class chooses is entered, and a fault where it chooses none
abbrev pub dispatches : Program → (entry room : List ℕ) → (depth arity next : ℕ) → Option ℕ → Address → Deed
dispatches P entry room depth arity next None a = deed.Fails fault.Null
dispatches P entry room depth arity next (Some m) a = enters_some entry room depth arity next m (slice_get P.methods m) a

-- method `m` is called on the receiver at this address, whose class chooses what runs; a fault where there is no address
abbrev pub calls_on : Program → Shared → (entry room : List ℕ) → (depth arity next m : ℕ) → Option Address → Deed
calls_on P see entry room depth arity next m None = deed.Fails fault.Null
calls_on P see entry room depth arity next m (Some a) = dispatches P entry room depth arity next (target_at P m (object_class (see.object_at a))) a

-- a call of method `m`: its receiver is the operand below its arguments
abbrev pub call_deed : Program → Shared → (entry room : List ℕ) → (depth next : ℕ) → List Value → ℕ → Option Method → Deed
call_deed P see entry room depth next operands m None = deed.Fails fault.Null
call_deed P see entry room depth next operands m (Some method) = calls_on P see entry room depth (length method.params) next m (address_of (top (dropped (length method.params) operands)))

-- a lock that is held is taken once more by its holder, and waited for by all others
abbrev pub takes_held : (next : ℕ) → Address → Hold → Bool → Deed
takes_held next a hold true = deed.Takes a true next
takes_held next a hold false = deed.Waits a hold.holder

-- a free lock is taken; a held one is taken once more or waited for
abbrev pub takes_lock : (t next : ℕ) → Address → Option Hold → Deed
takes_lock t next a None = deed.Takes a false next
takes_lock t next a (Some hold) = takes_held next a hold (hold.holder == t)

-- `synchronized` begins: the lock of the top operand's object is asked for, and a fault where that is no address
abbrev pub acquires : Shared → (t next : ℕ) → Option Address → Deed
acquires see t next None = deed.Fails fault.Null
acquires see t next (Some a) = takes_lock t next a (see.lock_at a)

-- a thread gives back one hold of a lock that it holds itself, which frees the lock where it was the last one
abbrev pub gives_held : (next : ℕ) → Address → Hold → Bool → Deed
gives_held next a hold false = deed.Fails fault.Null
gives_held next a hold true = deed.Gives a (not (nat_lt 1 hold.count)) next

-- a hold of this lock is given back; a fault where nobody holds it
abbrev pub gives_lock : (t next : ℕ) → Address → Option Hold → Deed
gives_lock t next a None = deed.Fails fault.Null
gives_lock t next a (Some hold) = gives_held next a hold (hold.holder == t)

-- `synchronized` ends: the lock that the frame took last is given back
abbrev pub releases : Shared → (t next : ℕ) → Option Address → Deed
releases see t next None = deed.Fails fault.Null
releases see t next (Some a) = gives_lock t next a (see.lock_at a)

-- a frame returns the top operand, or nothing where its method has no result
abbrev pub returns : Value → Bool → Deed
returns v true = deed.Returns (Some v)
returns v false = deed.Returns None

-- a thread is started that will run method `m` on this object; a fault where its class has no `run`
abbrev pub starts_run : (next : ℕ) → Address → Option ℕ → Deed
starts_run next a None = deed.Fails fault.Null
starts_run next a (Some m) = deed.Starts a m next

-- `new Thread(e).start()`: the class of the top operand's object says which `run` the new thread begins with
abbrev pub starts_thread : Program → Shared → (next : ℕ) → Option Address → Deed
starts_thread P see next None = deed.Fails fault.Null
starts_thread P see next (Some a) = starts_run next a (run_of P (object_class (see.object_at a)))

-- a program with the entries and rooms of its methods, what a thread may see, and its number
module _ (P : Program) (entry room : List ℕ) (see : Shared) (t : ℕ) where
  -- what an instruction does, for the slots, operands and taken locks of the top frame, and how many frames the thread has
  abbrev pub deed_of : (slots operands : List Value) → List Address → (depth next : ℕ) → Instr → Deed
  deed_of slots operands locks depth next (i.Push v) = deed.Goes 0 (Some v) next
  deed_of slots operands locks depth next (i.Load x) = pushes next (slice_get slots x)
  deed_of slots operands locks depth next (i.Store x) = stores next (top operands) x (slice_get slots x)
  deed_of slots operands locks depth next i.Drop = deed.Goes 1 None next
  deed_of slots operands locks depth next (i.Unary op) = deed.Goes 1 (Some (unary_value op (top operands))) next
  deed_of slots operands locks depth next (i.Binary op) = combines next (binary_value op (top (under operands)) (top operands))
  deed_of slots operands locks depth next (i.AndThen other) = branches_and next other (as_truth (top operands))
  deed_of slots operands locks depth next (i.OrElse other) = branches_or next other (as_truth (top operands))
  deed_of slots operands locks depth next (i.Branch other) = branches next other (as_truth (top operands))
  deed_of slots operands locks depth next (i.Get x) = reads P see t next x (address_of (top operands))
  deed_of slots operands locks depth next (i.Put x) = writes P see t next (top operands) x (address_of (top (under operands)))
  deed_of slots operands locks depth next (i.New c) = makes next c (slice_get P.classes c)
  deed_of slots operands locks depth next (i.Call m) = call_deed P see entry room depth next operands m (slice_get P.methods m)
  deed_of slots operands locks depth next i.Acquire = acquires see t next (address_of (top operands))
  deed_of slots operands locks depth next i.Release = releases see t next (first_frame locks)
  deed_of slots operands locks depth next (i.Ret result) = returns (top operands) result
  deed_of slots operands locks depth next i.Print = deed.Prints (as_int (top operands)) next
  deed_of slots operands locks depth next i.Start = starts_thread P see next (address_of (top operands))

  -- what a frame does next: that of its line
  abbrev pub deed_at : CodeFrame → (depth : ℕ) → Option Code → Deed
  deed_at f depth None = deed.Fails fault.Null
  deed_at f depth (Some c) = deed_of f.slots f.operands f.taken depth c.next c.instr

-- the kind of what is done
abbrev pub deed_kind : Program → Shared → ℕ → Deed → StepKind
deed_kind P see t (deed.Reads a x v place) = access_kind P see t false a (slice_get P.fields x)
deed_kind P see t (deed.Writes a x index v place) = access_kind P see t true a (slice_get P.fields x)
deed_kind P see t (deed.Takes a false place) = Right
deed_kind P see t (deed.Gives a true place) = Left
deed_kind P see t (deed.Prints n place) = Other
deed_kind P see t (deed.Starts a m place) = Other
deed_kind P see t _ = Both

-- the address of the thread's next object
abbrev pub next_object : Shared → ℕ → Address
next_object see t = record { thread = t; count = see.made }

-- the frame below gets the result, or none; without one the thread is done
abbrev pub returned_to : Option Value → List CodeFrame → ThreadOf CodeFrame
returned_to gives [] = Done
returned_to gives (g ∷ more) = Running (record g { operands = frame_given gives g.operands } ∷ more)

-- a new frame above the others, where the method is there
abbrev pub entered : ℕ → Option Method → Value → List Value → ℕ → List CodeFrame → ThreadOf CodeFrame
entered m None this arguments place frames = Running frames
entered m (Some method) this arguments place frames = Running (code_frame_at m method this arguments place ∷ frames)

-- the thread with its top frame at a place with these operands
abbrev pub on_with : CodeFrame → List CodeFrame → List Value → ℕ → ThreadOf CodeFrame
on_with f below operands place = Running (record f { operands = operands; place = place } ∷ below)

-- the thread after what is done, with this top frame and these below
abbrev pub thread_after : Program → Shared → ℕ → CodeFrame → List CodeFrame → Deed → ThreadOf CodeFrame
thread_after P see t f below (deed.Fails kind) = Faulted kind (f ∷ below)
thread_after P see t f below (deed.Goes drops gives place) = on_with f below (frame_given gives (dropped drops f.operands)) place
thread_after P see t f below (deed.Stores x v place) = Running (record f { slots = slice_set f.slots x v; operands = under f.operands; place = place } ∷ below)
thread_after P see t f below (deed.Reads a x v place) = on_with f below (v ∷ under f.operands) place
thread_after P see t f below (deed.Writes a x index v place) = on_with f below (under (under f.operands)) place
thread_after P see t f below (deed.Makes c n place) = on_with f below (value.Ref (next_object see t) ∷ dropped n f.operands) place
thread_after P see t f below (deed.Enters m n a place at most) =
    entered m (slice_get P.methods m) (value.Ref a) (popped n [] f.operands) at (record f { operands = under (dropped n f.operands); place = place } ∷ below)
thread_after P see t f below (deed.Takes a again place) = Running (record f { operands = under f.operands; place = place; taken = a ∷ f.taken } ∷ below)
thread_after P see t f below (deed.Waits a holder) = Running (f ∷ below)
thread_after P see t f below (deed.Gives a frees place) = Running (record f { place = place; taken = rest_of f.taken } ∷ below)
thread_after P see t f below (deed.Returns gives) = returned_to gives below
thread_after P see t f below (deed.Prints n place) = on_with f below (under f.operands) place
thread_after P see t f below (deed.Starts a m place) = on_with f below (under f.operands) place

-- what else is changed
abbrev pub deed_change : Program → Shared → ℕ → CodeFrame → Deed → Change
deed_change P see t f (deed.Writes a x index v place) = FieldIs a index v
deed_change P see t f (deed.Makes c n place) = ObjectIs (next_object see t) (new_object P c (popped n [] f.operands))
deed_change P see t f (deed.Takes a again place) = LockIs a (Some (taken_by t (see.lock_at a)))
deed_change P see t f (deed.Gives a frees place) = LockIs a (stored_given_back (see.lock_at a))
deed_change P see t f (deed.Prints n place) = Prints n
deed_change P see t f (deed.Starts a m place) = Starts a m
deed_change P see t f _ = Nothing

-- what comes of what is done
abbrev pub done : Program → Shared → ℕ → CodeFrame → List CodeFrame → Deed → OutcomeOf CodeFrame
done P see t f below (deed.Waits a holder) = Waits a holder
done P see t f below d = Moves (record { kind = deed_kind P see t d; thread = thread_after P see t f below d; change = deed_change P see t f d })

-- a ready thread enters its method
abbrev pub ready_thread_enters : Address → ℕ → Option Method → Option ℕ → OutcomeOf CodeFrame
ready_thread_enters a m None place = Moves (record { kind = Both; thread = Faulted fault.Null []; change = Nothing })
ready_thread_enters a m (Some method) None = Moves (record { kind = Both; thread = Faulted fault.Null []; change = Nothing })
ready_thread_enters a m (Some method) (Some place) = Moves (record { kind = Both; thread = Running (code_frame_at m method (value.Ref a) [] place ∷ []); change = Nothing })

-- a thread's turn, by its status
abbrev pub code_turn : Program → List Code → (entry room : List ℕ) → Shared → ℕ → Option (ThreadOf CodeFrame) → OutcomeOf CodeFrame
code_turn P code entry room see t None = Absent
code_turn P code entry room see t (Some Done) = IsDone
code_turn P code entry room see t (Some (Faulted kind frames)) = HadFaulted kind
code_turn P code entry room see t (Some (Ready a m)) = ready_thread_enters a m (slice_get P.methods m) (slice_get entry m)
code_turn P code entry room see t (Some (Running [])) = Moves (record { kind = Both; thread = Faulted fault.Null []; change = Nothing })
code_turn P code entry room see t (Some (Running (f ∷ below))) = done P see t f below (deed_at P entry room see t f (length (f ∷ below)) (slice_get code f.place))

-- what comes of a thread's turn in a state
abbrev pub code_outcome : Program → List Code → (entry room : List ℕ) → StateOf CodeFrame → ℕ → OutcomeOf CodeFrame
code_outcome P code entry room c t = code_turn P code entry room (seen_by t c) t (slice_get c.threads t)

-- the state after one step of a thread, or none
abbrev pub code_step : Program → List Code → (entry room : List ℕ) → StateOf CodeFrame → ℕ → Option (StateOf CodeFrame)
code_step P code entry room c t = state_after c t (code_outcome P code entry room c t)

-- the state at the start
abbrev pub code_initial : Program → StateOf CodeFrame
code_initial P = record {
  heap = (initial P).heap;
  locks = (initial P).locks;
  threads = Ready main_address P.main ∷ [];
  output = [];
}
