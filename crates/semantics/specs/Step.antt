-- One step: the action of one thread, its kind, and what it changes.
use Rattle.std.specs.Prelude.{ℕ, ◌+◌, ℤ, Bool, true, false, ◌==◌, nat_lt, List, [], ◌∷◌, ◌++◌, length, Option, Some, None, is_some, option_and_then, slice_get, slice_set, if◌then◌else◌}
use Rattle.std.specs.FinMap as map
use Rattle.paths.specs.Paths.{PathData}
use Rattle.core_program.specs.Core.{Program, Class, Field, Method, Expr, Stmt, WhileS}
use Rattle.core_program.specs.Dispatch.{target_of}
use Rattle.state.specs.declared.value.Address.{Address}
use Rattle.state.specs.declared.value.Value.{Value}
use Rattle.state.specs.declared.value.Value.TheVariants as value
use Rattle.state.specs.declared.value.Fault.{Fault}
use Rattle.state.specs.declared.value.Fault.TheVariants as fault
use Rattle.state.specs.declared.value.StepKind.{StepKind}
use Rattle.state.specs.declared.value.StepKind.TheVariants.{Both, Right, Other}
use Rattle.state.specs.Values.{top, under, popped, dropped, as_int, as_truth, address_of, unary_value, binary_value}
use Rattle.state.specs.Memory.{Object, Hold, made_by, field_value, with_field, with_lock}
use Rattle.state.specs.Work as W
use Rattle.state.specs.Work.{Action, Item, Ex, St, Act, Next, unfolded}
use Rattle.state.specs.States.{Frame, ThreadOf, Thread, Ready, Running, Done, Faulted, StateOf, State, new_frame, new_object}
use Rattle.semantics.specs.Locking.{holds, taken_again, given_back, release_kind, guarded_kind}

-- the most frames that a thread has
abbrev pub most_frames : ℕ
most_frames = 1000

-- What a step changes besides its own thread: at most one thing.
pub data Change : Type 0 where
  Nothing : Change
  -- the field at this index of this object has this value
  FieldIs : Address → ℕ → Value → Change
  -- there is this new object
  ObjectIs : Address → Object → Change
  -- the lock of this object is held so, or by nobody
  LockIs : Address → Option Hold → Change
  -- this number is printed
  Prints : ℤ → Change
  -- there is a new thread, ready to run this method on this object
  Starts : Address → ℕ → Change

-- a step, with frames of some type: its kind, its thread after it, and what else it changes
pub record MoveOf (F : Type 0) : Type 0 where
  pub kind : StepKind
  pub thread : ThreadOf F
  pub change : Change

-- what comes of a thread's turn: a step, or the reason why there is none
pub data OutcomeOf (F : Type 0) : Type 0 where
  Moves : MoveOf F → OutcomeOf F
  Absent : OutcomeOf F
  IsDone : OutcomeOf F
  HadFaulted : Fault → OutcomeOf F
  -- another thread holds the lock of this address
  Waits : Address → ℕ → OutcomeOf F

-- a step and an outcome of the machine that runs work lists
abbrev pub Move : Type 0
Move = MoveOf Frame

-- what comes of a turn in the definition's machine, whose frames keep their work as a list
abbrev pub Outcome : Type 0
Outcome = OutcomeOf Frame

-- What a step may see of what all threads share: objects, held locks, and how many objects its own thread made.
pub record Shared : Type 0 where
  pub object_at : Address → Option Object
  pub lock_at : Address → Option Hold
  pub made : ℕ

-- Faulting where something isn't there as in a typed program keeps the step total on every state.

-- how many final fields a class has
abbrev pub class_finals : Class → ℕ
class_finals c = length c.finals

-- a field's place in its objects
abbrev pub index_of : Option Field → ℕ
index_of None = 0
index_of (Some f) = f.index

-- whether a method has a result
abbrev pub has_result : Option Method → Bool
has_result None = false
has_result (Some m) = is_some m.result

-- the method `run` of an object's class
abbrev pub run_of_class : Option Class → Option ℕ
run_of_class None = None
run_of_class (Some c) = c.run

-- the class of an object, where it is there
abbrev pub object_class : Option Object → Option ℕ
object_class None = None
object_class (Some o) = Some o.class

-- the method that runs for `run` and an object's class, where both are there
abbrev pub run_of : Program → Option ℕ → Option ℕ
run_of P None = None
run_of P (Some c) = run_of_class (slice_get P.classes c)

-- the method that runs for a method and an object's class, where both are there
abbrev pub target_at : Program → ℕ → Option ℕ → Option ℕ
target_at P m None = None
target_at P m (Some c) = target_of P c m

-- a frame below gets the result, where there is one
abbrev pub with_result : Bool → Value → List Value → List Value
with_result true v operands = v ∷ operands
with_result false v operands = operands

-- the old value of a field that may be written; none of a final one
abbrev pub unless_final : Option Field → Option Value → Option Value
unless_final None old = None
unless_final (Some f) old = if f.is_final then None else old

module _ (P : Program) (see : Shared) (t : ℕ) where
  -- the value of a field of the object at an address, where both are there
  abbrev pub value_at : Address → ℕ → Option Value
  value_at a f = field_value P f (see.object_at a) (slice_get P.fields f)

  -- the value of a field of what a value refers to
  abbrev pub next_at : Value → ℕ → Option Value
  next_at (value.Ref a) f = value_at a f
  next_at _ f = None

  -- the value that fields lead to from a value; none where null or another value stands before their end
  abbrev pub followed : Value → List ℕ → Option Value
  followed v [] = Some v
  followed v (f ∷ fs) = option_and_then (λ next. followed next fs) (next_at v f)

  -- the thread holds the lock of the object that a value refers to
  abbrev pub holds_object : Option Address → Bool
  holds_object None = false
  holds_object (Some a) = holds t (see.lock_at a)

  -- the address that a value refers to, where there is a value
  abbrev pub some_address : Option Value → Option Address
  some_address None = None
  some_address (Some v) = address_of v

  -- of an access to a mutable field of the object at an address: Other without a guard, else by whether the thread holds its guard's lock
  abbrev pub mutable_kind : (writes_only writes : Bool) → Address → Option PathData → StepKind
  mutable_kind writes_only writes a None = Other
  mutable_kind writes_only writes a (Some guard) = guarded_kind writes_only writes (holds_object (some_address (followed (value.Ref a) guard.fields)))

  -- of a read or a write of a field: Both for a final one
  abbrev pub access_kind : (writes : Bool) → Address → Option Field → StepKind
  access_kind writes a None = Both
  access_kind writes a (Some f) = if f.is_final then Both else mutable_kind f.writes_only writes a f.guard

  -- a frame of the thread, the frames below it, and what is left to do after the action
  module _ (f : Frame) (below : List Frame) (rest : List Item) where
    -- the thread faults and changes nothing else
    abbrev pub faults : Fault → Outcome
    faults kind = Moves (record { kind = Both; thread = Faulted kind (f ∷ below); change = Nothing })

    -- the frame goes on with these operands and this work
    abbrev pub goes_on : StepKind → List Value → List Item → Change → Outcome
    goes_on kind operands work change = Moves (record { kind = kind; thread = Running (record f { operands = operands; work = work } ∷ below); change = change })

    -- with one more operand and nothing else
    abbrev pub gives : List Value → Value → Outcome
    gives operands v = goes_on Both (v ∷ operands) rest Nothing

    -- reads a slot
    abbrev pub load : Option Value → Outcome
    load None = faults fault.Null
    load (Some v) = gives f.operands v

    -- writes a slot
    abbrev pub store : ℕ → Option Value → Outcome
    store x None = faults fault.Null
    store x (Some old) = Moves (record { kind = Both; thread = Running (record f { slots = slice_set f.slots x (top f.operands); operands = under f.operands; work = rest } ∷ below); change = Nothing })

    -- the result of an operator; none is a zero divisor
    abbrev pub binary : Option Value → Outcome
    binary None = faults fault.Zero
    binary (Some v) = gives (under (under f.operands)) v

    -- the left part decides, and its value is given back, or the right part is evaluated
    abbrev pub and_then : Expr → Bool → Outcome
    and_then e true = goes_on Both (under f.operands) (Ex e ∷ rest) Nothing
    and_then e false = gives (under f.operands) (value.Truth false)

    -- the same for `||`
    abbrev pub or_else : Expr → Bool → Outcome
    or_else e true = gives (under f.operands) (value.Truth true)
    or_else e false = goes_on Both (under f.operands) (Ex e ∷ rest) Nothing

    -- goes on with one of two statements
    abbrev pub choose : Stmt → Stmt → Bool → Outcome
    choose s u true = goes_on Both (under f.operands) (St s ∷ rest) Nothing
    choose s u false = goes_on Both (under f.operands) (St u ∷ rest) Nothing

    -- goes on with the body and then the loop again, or leaves it
    abbrev pub loop : Expr → Stmt → Bool → Outcome
    loop c s true = goes_on Both (under f.operands) (St s ∷ St (WhileS c s) ∷ rest) Nothing
    loop c s false = goes_on Both (under f.operands) rest Nothing

    -- reads a field of the object at an address
    abbrev pub get_value : Address → Option Field → Option Value → Outcome
    get_value a field None = faults fault.Null
    get_value a field (Some v) = goes_on (access_kind false a field) (v ∷ under f.operands) rest Nothing

    -- reads a field of what the operand refers to
    abbrev pub get : ℕ → Option Address → Outcome
    get x None = faults fault.Null
    get x (Some a) = get_value a (slice_get P.fields x) (value_at a x)

    -- writes a field of the object at an address
    abbrev pub put_value : Address → Option Field → Option Value → Outcome
    put_value a field None = faults fault.Null
    put_value a field (Some old) = goes_on (access_kind true a field) (under (under f.operands)) rest (FieldIs a (index_of field) (top f.operands))

    -- writes a field of what the operand under the value refers to, unless it is final
    abbrev pub put : ℕ → Option Address → Outcome
    put x None = faults fault.Null
    put x (Some a) = put_value a (slice_get P.fields x) (unless_final (slice_get P.fields x) (value_at a x))

    -- the address of the thread's next object
    abbrev pub new_address : Address
    new_address = record { thread = t; count = see.made }

    -- makes an object of a class from the arguments for its final fields
    abbrev pub new : ℕ → Option Class → Outcome
    new c None = faults fault.Null
    new c (Some class) = goes_on Both (value.Ref new_address ∷ dropped (class_finals class) f.operands) rest
        (ObjectIs new_address (new_object P c (popped (class_finals class) [] f.operands)))

    -- enters a method with so many arguments on the object at an address, where there is room for one more frame
    abbrev pub enter : (arity m : ℕ) → Method → Address → Bool → Outcome
    enter arity m method a false = faults fault.Depth
    enter arity m method a true = Moves (record {
      kind = Both;
      thread = Running (new_frame m method (value.Ref a) (popped arity [] f.operands)
          ∷ record f { operands = under (dropped arity f.operands); work = rest } ∷ below);
      change = Nothing;
    })

    -- enters a method, where it is there
    abbrev pub enter_some : (arity m : ℕ) → Option Method → Address → Outcome
    enter_some arity m None a = faults fault.Null
    enter_some arity m (Some method) a = enter arity m method a (nat_lt (length (f ∷ below)) most_frames)

    -- enters the method that runs, where there is one
    abbrev pub dispatch : (arity : ℕ) → Option ℕ → Address → Outcome
    dispatch arity None a = faults fault.Null
    dispatch arity (Some m) a = enter_some arity m (slice_get P.methods m) a

    -- calls a method on what the receiver refers to: the receiver object's class chooses the one that runs
    abbrev pub call_on : (arity m : ℕ) → Option Address → Outcome
    call_on arity m None = faults fault.Null
    call_on arity m (Some a) = dispatch arity (target_at P m (object_class (see.object_at a))) a

    -- calls a method, where it is there
    abbrev pub call : ℕ → Option Method → Outcome
    call m None = faults fault.Null
    call m (Some method) = call_on (length method.params) m (address_of (top (dropped (length method.params) f.operands)))

    -- takes a lock, and goes on with the part and the release
    abbrev pub takes : StepKind → Stmt → Address → Hold → Outcome
    takes kind s a hold = goes_on kind (under f.operands) (St s ∷ Act (W.Release a) ∷ rest) (LockIs a (Some hold))

    -- takes a lock again that this thread holds; waits for one that another thread holds
    abbrev pub take_held : Stmt → Address → Hold → Bool → Outcome
    take_held s a hold true = takes Both s a (taken_again hold)
    take_held s a hold false = Waits a hold.holder

    -- takes a lock that is free or held
    abbrev pub take : Stmt → Address → Option Hold → Outcome
    take s a None = takes Right s a (record { holder = t; count = 1 })
    take s a (Some hold) = take_held s a hold (hold.holder == t)

    -- takes the lock of what the operand refers to
    abbrev pub acquire : Stmt → Option Address → Outcome
    acquire s None = faults fault.Null
    acquire s (Some a) = take s a (see.lock_at a)

    -- gives back a lock that this thread holds
    abbrev pub release_held : Address → Hold → Bool → Outcome
    release_held a hold false = faults fault.Null
    release_held a hold true = goes_on (release_kind (given_back hold)) f.operands rest (LockIs a (given_back hold))

    -- gives back a lock
    abbrev pub release : Address → Option Hold → Outcome
    release a None = faults fault.Null
    release a (Some hold) = release_held a hold (hold.holder == t)

    -- takes the frame away; the last frame's end is the thread's
    abbrev pub return_to : List Frame → Outcome
    return_to [] = Moves (record { kind = Both; thread = Done; change = Nothing })
    return_to (g ∷ more) = Moves (record {
      kind = Both;
      thread = Running (record g { operands = with_result (has_result (slice_get P.methods f.method)) (top f.operands) g.operands } ∷ more);
      change = Nothing;
    })

    -- starts a thread on an object
    abbrev pub start_run : Address → Option ℕ → Outcome
    start_run a None = faults fault.Null
    start_run a (Some m) = goes_on Other (under f.operands) rest (Starts a m)

    -- starts a thread on what the operand refers to
    abbrev pub start : Option Address → Outcome
    start None = faults fault.Null
    start (Some a) = start_run a (run_of P (object_class (see.object_at a)))

    -- the table of actions
    abbrev pub act : Action → Outcome
    act (W.Push v) = gives f.operands v
    act (W.Load x) = load (slice_get f.slots x)
    act (W.Store x) = store x (slice_get f.slots x)
    act W.Drop = goes_on Both (under f.operands) rest Nothing
    act (W.Unary op) = gives (under f.operands) (unary_value op (top f.operands))
    act (W.Binary op) = binary (binary_value op (top (under f.operands)) (top f.operands))
    act (W.AndThen e) = and_then e (as_truth (top f.operands))
    act (W.OrElse e) = or_else e (as_truth (top f.operands))
    act (W.Choose s u) = choose s u (as_truth (top f.operands))
    act (W.Loop c s) = loop c s (as_truth (top f.operands))
    act (W.Get x) = get x (address_of (top f.operands))
    act (W.Put x) = put x (address_of (top (under f.operands)))
    act (W.New c) = new c (slice_get P.classes c)
    act (W.Call m) = call m (slice_get P.methods m)
    act (W.Acquire s) = acquire s (address_of (top f.operands))
    act (W.Release a) = release a (see.lock_at a)
    act W.Ret = return_to below
    act W.Print = goes_on Other (under f.operands) rest (Prints (as_int (top f.operands)))
    act W.Start = start (address_of (top f.operands))

  -- a frame without anything left to do isn't that of a typed program
  abbrev pub act_next : Frame → List Frame → Option Next → Outcome
  act_next f below None = faults f below [] fault.Null
  act_next f below (Some next) = act f below next.1 next.0

  -- a ready thread enters its method
  abbrev pub enter_first : Address → ℕ → Option Method → Outcome
  enter_first a m None = Moves (record { kind = Both; thread = Faulted fault.Null []; change = Nothing })
  enter_first a m (Some method) = Moves (record { kind = Both; thread = Running (new_frame m method (value.Ref a) [] ∷ []); change = Nothing })

  -- a thread's turn, by its status
  abbrev pub turn : Option Thread → Outcome
  turn None = Absent
  turn (Some Done) = IsDone
  turn (Some (Faulted kind frames)) = HadFaulted kind
  turn (Some (Ready a m)) = enter_first a m (slice_get P.methods m)
  turn (Some (Running [])) = Moves (record { kind = Both; thread = Faulted fault.Null []; change = Nothing })
  turn (Some (Running (f ∷ below))) = act_next f below (unfolded f.work)

-- what a thread may see of a state
abbrev pub seen_by : {F : Type 0} → ℕ → StateOf F → Shared
seen_by t q = record { object_at = map.get q.heap; lock_at = map.get q.locks; made = made_by t q.heap }

-- what comes of a thread's turn in a state
abbrev pub outcome : Program → State → ℕ → Outcome
outcome P q t = turn P (seen_by t q) t (slice_get q.threads t)

-- the state with a change
abbrev pub changed : {F : Type 0} → Change → StateOf F → StateOf F
changed Nothing q = q
changed (FieldIs a index v) q = record q { heap = with_field a index v q.heap }
changed (ObjectIs a o) q = record q { heap = map.insert q.heap a o }
changed (LockIs a hold) q = record q { locks = with_lock a hold q.locks }
changed (Prints n) q = record q { output = q.output ++ n ∷ [] }
changed (Starts a m) q = record q { threads = q.threads ++ Ready a m ∷ [] }

-- the state after a step of a thread
abbrev pub moved : {F : Type 0} → ℕ → MoveOf F → StateOf F → StateOf F
moved t move q = changed move.change (record q { threads = slice_set q.threads t move.thread })

-- the state after an outcome, where it is a step
abbrev pub state_after : {F : Type 0} → StateOf F → ℕ → OutcomeOf F → Option (StateOf F)
state_after q t (Moves move) = Some (moved t move q)
state_after q t _ = None

-- the state after one step of a thread, or none
abbrev pub step : Program → State → ℕ → Option State
step P q t = state_after q t (outcome P q t)

-- the kind of an outcome, where it is a step
abbrev pub outcome_kind : {F : Type 0} → OutcomeOf F → Option StepKind
outcome_kind (Moves move) = Some move.kind
outcome_kind _ = None

-- the kind of a thread's next step, or none
abbrev pub kind_of : Program → State → ℕ → Option StepKind
kind_of P q t = outcome_kind (outcome P q t)
