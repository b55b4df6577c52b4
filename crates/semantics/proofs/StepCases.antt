-- What a thread's turn can come to, and why.
use Rattle.std.proofs.Common.{◌≡◌, ◌⊎◌, ◌==◌, length, inl, inr, ℕ, Bool, true, false, List, [], ◌∷◌, Some, None, refl, sym, ap, subst, ◌∙◌, arith}
use Rattle.std.proofs.lemmas.Bool.Decides.{nat_tests}
use Rattle.std.specs.Prelude.{Option, slice_get}
use Rattle.std.specs.FinMap as map
use Rattle.std.proofs.lemmas.Bool.{ne_eqb}
use Rattle.core_program.specs.Core.{Program, Class, Field, Method, Expr, Stmt}
use Rattle.state.specs.declared.value.Address.{Address}
use Rattle.state.specs.declared.value.Value.{Value}
use Rattle.state.specs.declared.value.Fault.{Fault}
use Rattle.state.specs.Values.{top, address_of}
use Rattle.state.specs.Memory.{Hold, next_address}
use Rattle.state.specs.Work as W
use Rattle.state.specs.Work.{Action, Item, Next, unfolded}
use Rattle.state.specs.States.{Frame, Thread, Ready, Running, Done, Faulted, State}
use Rattle.semantics.specs.Step.{Change, Nothing, FieldIs, ObjectIs, LockIs, Prints, Starts}
use Rattle.semantics.specs.Step.{Move, Outcome, Moves, Absent, IsDone, HadFaulted, Waits, load, store, binary, and_then, or_else, choose, loop, get, get_value, put, put_value, new, call, call_on, enter, enter_some, dispatch, acquire, take, take_held, release, release_held, return_to, start, start_run, act, act_next, enter_first, turn, seen_by, outcome, step, state_after, outcome_kind}
use Rattle.semantics.specs.Waiting.{WaitsFor}

-- a new object has its thread's next address
abbrev pub NewIsNext : State → ℕ → Change → Type 0
NewIsNext q t Nothing = Unit {0}
NewIsNext q t (FieldIs a index v) = Unit {0}
NewIsNext q t (ObjectIs a o) = a ≡ next_address t q.heap
NewIsNext q t (LockIs a hold) = Unit {0}
NewIsNext q t (Prints n) = Unit {0}
NewIsNext q t (Starts a m) = Unit {0}

-- an outcome with its reason in this state
pub data Case (q : State) (t : ℕ) : Outcome → Type 0 where
  moves : (m : Move) → NewIsNext q t m.change → Case q t (Moves m)
  absent : slice_get q.threads t ≡ None → Case q t Absent
  done : slice_get q.threads t ≡ Some Done → Case q t IsDone
  faulted : (kind : Fault) (frames : List Frame) → slice_get q.threads t ≡ Some (Faulted kind frames) → Case q t (HadFaulted kind)
  waits : (a : Address) (holder : ℕ) → WaitsFor q t a holder → Case q t (Waits a holder)

module _ (P : Program) (q : State) (t : ℕ) (f : Frame) (below : List Frame) (rest : List Item) where
  load_case : (o : Option Value) → Case q t (load P (seen_by t q) t f below rest o)
  load_case None = moves _ tt
  load_case (Some v) = moves _ tt

  store_case : (x : ℕ) (o : Option Value) → Case q t (store P (seen_by t q) t f below rest x o)
  store_case x None = moves _ tt
  store_case x (Some v) = moves _ tt

  binary_case : (o : Option Value) → Case q t (binary P (seen_by t q) t f below rest o)
  binary_case None = moves _ tt
  binary_case (Some v) = moves _ tt

  and_then_case : (e : Expr) (b : Bool) → Case q t (and_then P (seen_by t q) t f below rest e b)
  and_then_case e true = moves _ tt
  and_then_case e false = moves _ tt

  or_else_case : (e : Expr) (b : Bool) → Case q t (or_else P (seen_by t q) t f below rest e b)
  or_else_case e true = moves _ tt
  or_else_case e false = moves _ tt

  choose_case : (s u : Stmt) (b : Bool) → Case q t (choose P (seen_by t q) t f below rest s u b)
  choose_case s u true = moves _ tt
  choose_case s u false = moves _ tt

  loop_case : (c : Expr) (s : Stmt) (b : Bool) → Case q t (loop P (seen_by t q) t f below rest c s b)
  loop_case c s true = moves _ tt
  loop_case c s false = moves _ tt

  get_value_case : (a : Address) (field : Option Field) (o : Option Value) → Case q t (get_value P (seen_by t q) t f below rest a field o)
  get_value_case a field None = moves _ tt
  get_value_case a field (Some v) = moves _ tt

  get_case : (x : ℕ) (o : Option Address) → Case q t (get P (seen_by t q) t f below rest x o)
  get_case x None = moves _ tt
  get_case x (Some a) = get_value_case a _ _

  put_value_case : (a : Address) (field : Option Field) (o : Option Value) → Case q t (put_value P (seen_by t q) t f below rest a field o)
  put_value_case a field None = moves _ tt
  put_value_case a field (Some v) = moves _ tt

  put_case : (x : ℕ) (o : Option Address) → Case q t (put P (seen_by t q) t f below rest x o)
  put_case x None = moves _ tt
  put_case x (Some a) = put_value_case a _ _

  new_case : (c : ℕ) (o : Option Class) → Case q t (new P (seen_by t q) t f below rest c o)
  new_case c None = moves _ tt
  new_case c (Some class) = moves _ refl

  enter_case : (arity m : ℕ) (method : Method) (a : Address) (b : Bool) → Case q t (enter P (seen_by t q) t f below rest arity m method a b)
  enter_case arity m method a false = moves _ tt
  enter_case arity m method a true = moves _ tt

  enter_some_case : (arity m : ℕ) (o : Option Method) (a : Address) → Case q t (enter_some P (seen_by t q) t f below rest arity m o a)
  enter_some_case arity m None a = moves _ tt
  enter_some_case arity m (Some method) a = enter_case arity m method a _

  dispatch_case : (arity : ℕ) (o : Option ℕ) (a : Address) → Case q t (dispatch P (seen_by t q) t f below rest arity o a)
  dispatch_case arity None a = moves _ tt
  dispatch_case arity (Some m) a = enter_some_case arity m (slice_get P.methods m) a

  call_on_case : (arity m : ℕ) (o : Option Address) → Case q t (call_on P (seen_by t q) t f below rest arity m o)
  call_on_case arity m None = moves _ tt
  call_on_case arity m (Some a) = dispatch_case arity _ a

  call_case : (m : ℕ) (o : Option Method) → Case q t (call P (seen_by t q) t f below rest m o)
  call_case m None = moves _ tt
  call_case m (Some method) = call_on_case (length method.params) m _

  release_held_case : (a : Address) (hold : Hold) (b : Bool) → Case q t (release_held P (seen_by t q) t f below rest a hold b)
  release_held_case a hold false = moves _ tt
  release_held_case a hold true = moves _ tt

  release_case : (a : Address) (o : Option Hold) → Case q t (release P (seen_by t q) t f below rest a o)
  release_case a None = moves _ tt
  release_case a (Some hold) = release_held_case a hold _

  return_case : (frames : List Frame) → Case q t (return_to P (seen_by t q) t f below rest frames)
  return_case [] = moves _ tt
  return_case (g ∷ more) = moves _ tt

  start_run_case : (a : Address) (o : Option ℕ) → Case q t (start_run P (seen_by t q) t f below rest a o)
  start_run_case a None = moves _ tt
  start_run_case a (Some m) = moves _ tt

  start_case : (o : Option Address) → Case q t (start P (seen_by t q) t f below rest o)
  start_case None = moves _ tt
  start_case (Some a) = start_run_case a _

  module _ (running : slice_get q.threads t ≡ Some (Running (f ∷ below))) (s : Stmt) (acquires : unfolded f.work ≡ Some (W.Acquire s, rest)) where
    take_held_case : (a : Address) → address_of (top f.operands) ≡ Some a → (hold : Hold) → map.get q.locks a ≡ Some hold → (b : Bool) → (hold.holder == t) ≡ b → Case q t (take_held P (seen_by t q) t f below rest s a hold b)
    take_held_case a operand hold held true same = moves _ tt
    take_held_case a operand hold held false other = waits a hold.holder (record { frame = f; below = below; running = running; part = s; rest = rest; acquires = acquires; operand = operand; hold = hold; held = held; by = refl; another = grind (arith, nat_tests) })

    take_case : (a : Address) → address_of (top f.operands) ≡ Some a → (o : Option Hold) → map.get q.locks a ≡ o → Case q t (take P (seen_by t q) t f below rest s a o)
    take_case a operand None free = moves _ tt
    take_case a operand (Some hold) held = take_held_case a operand hold held _ refl

    acquire_case : (o : Option Address) → address_of (top f.operands) ≡ o → Case q t (acquire P (seen_by t q) t f below rest s o)
    acquire_case None e = moves _ tt
    acquire_case (Some a) operand = take_case a operand _ refl

  act_case : slice_get q.threads t ≡ Some (Running (f ∷ below)) → (a : Action) → unfolded f.work ≡ Some (a, rest) → Case q t (act P (seen_by t q) t f below rest a)
  act_case running (W.Push v) next = moves _ tt
  act_case running (W.Load x) next = load_case _
  act_case running (W.Store x) next = store_case x _
  act_case running W.Drop next = moves _ tt
  act_case running (W.Unary op) next = moves _ tt
  act_case running (W.Binary op) next = binary_case _
  act_case running (W.AndThen e) next = and_then_case e _
  act_case running (W.OrElse e) next = or_else_case e _
  act_case running (W.Choose s u) next = choose_case s u _
  act_case running (W.Loop c s) next = loop_case c s _
  act_case running (W.Get x) next = get_case x _
  act_case running (W.Put x) next = put_case x _
  act_case running (W.New c) next = new_case c _
  act_case running (W.Call m) next = call_case m (slice_get P.methods m)
  act_case running (W.Acquire s) next = acquire_case running s next _ refl
  act_case running (W.Release a) next = release_case a _
  act_case running W.Ret next = return_case below
  act_case running W.Print next = moves _ tt
  act_case running W.Start next = start_case _

module _ (P : Program) (q : State) (t : ℕ) where
  next_case : (f : Frame) (below : List Frame) → slice_get q.threads t ≡ Some (Running (f ∷ below)) → (o : Option Next) → unfolded f.work ≡ o → Case q t (act_next P (seen_by t q) t f below o)
  next_case f below running None e = moves _ tt
  next_case f below running (Some (a, rest)) e = act_case P q t f below rest running a e

  enter_first_case : (a : Address) (m : ℕ) (o : Option Method) → Case q t (enter_first P (seen_by t q) t a m o)
  enter_first_case a m None = moves _ tt
  enter_first_case a m (Some method) = moves _ tt

  turn_case : (o : Option Thread) → slice_get q.threads t ≡ o → Case q t (turn P (seen_by t q) t o)
  turn_case None e = absent e
  turn_case (Some Done) e = done e
  turn_case (Some (Faulted kind frames)) e = faulted kind frames e
  turn_case (Some (Ready a m)) e = enter_first_case a m _
  turn_case (Some (Running [])) e = moves _ tt
  turn_case (Some (Running (f ∷ below))) e = next_case f below e _ refl

  -- each outcome has its reason
  pub outcome_case : Case q t (outcome P q t)
  outcome_case = turn_case _ refl

-- the reason of an outcome: of each kind of outcome what stands in the state
module _ (q : State) (t : ℕ) where
  absent_case : (o : Outcome) → Case q t o → o ≡ Absent → slice_get q.threads t ≡ None
  absent_case _ (moves m next) e = absurd cc
  absent_case _ (absent is) e = is
  absent_case _ (done is) e = absurd cc
  absent_case _ (faulted kind frames is) e = absurd cc
  absent_case _ (waits a holder is) e = absurd cc

  done_case : (o : Outcome) → Case q t o → o ≡ IsDone → slice_get q.threads t ≡ Some Done
  done_case _ (moves m next) e = absurd cc
  done_case _ (absent is) e = absurd cc
  done_case _ (done is) e = is
  done_case _ (faulted kind frames is) e = absurd cc
  done_case _ (waits a holder is) e = absurd cc

  faulted_case : (kind : Fault) (o : Outcome) → Case q t o → o ≡ HadFaulted kind → (frames : List Frame) × (slice_get q.threads t ≡ Some (Faulted kind frames))
  faulted_case kind _ (moves m next) e = absurd cc
  faulted_case kind _ (absent is) e = absurd cc
  faulted_case kind _ (done is) e = absurd cc
  faulted_case kind _ (faulted k frames is) e = (frames, cc)
  faulted_case kind _ (waits a holder is) e = absurd cc

  waits_case : (a : Address) (holder : ℕ) (o : Outcome) → Case q t o → o ≡ Waits a holder → WaitsFor q t a holder
  waits_case a holder _ (moves m next) e = absurd cc
  waits_case a holder _ (absent is) e = absurd cc
  waits_case a holder _ (done is) e = absurd cc
  waits_case a holder _ (faulted k frames is) e = absurd cc
  waits_case a holder _ (waits b h is) e = let same : b ≡ a = cc in let by : h ≡ holder = cc in subst (λ x. WaitsFor q t x holder) same (subst (λ y. WaitsFor q t b y) by is)

-- and the other way round
module _ (P : Program) (q : State) (t : ℕ) where
  pub absent_is : slice_get q.threads t ≡ None → outcome P q t ≡ Absent
  absent_is e = ap (turn P (seen_by t q) t) e

  pub done_is : slice_get q.threads t ≡ Some Done → outcome P q t ≡ IsDone
  done_is e = ap (turn P (seen_by t q) t) e

  pub faulted_is : (kind : Fault) (frames : List Frame) → slice_get q.threads t ≡ Some (Faulted kind frames) → outcome P q t ≡ HadFaulted kind
  faulted_is kind frames e = ap (turn P (seen_by t q) t) e

  waiting : (f : Frame) (below : List Frame) (rest : List Item) (s : Stmt) (a : Address) (hold : Hold) → (b : Bool) → b ≡ false → take_held P (seen_by t q) t f below rest s a hold b ≡ Waits a hold.holder
  waiting f below rest s a hold true e = absurd cc
  waiting f below rest s a hold false e = refl

  pub waits_is : (a : Address) (holder : ℕ) → WaitsFor q t a holder → outcome P q t ≡ Waits a holder
  waits_is a holder w =
      ap (turn P (seen_by t q) t) w.running
      ∙ ap (act_next P (seen_by t q) t w.frame w.below) w.acquires
      ∙ ap (acquire P (seen_by t q) t w.frame w.below w.rest w.part) w.operand
      ∙ ap (take P (seen_by t q) t w.frame w.below w.rest w.part a) w.held
      ∙ waiting w.frame w.below w.rest w.part a w.hold _ (ne_eqb _ _ (λ e. w.another (sym w.by ∙ e)))
      ∙ ap (Waits a) w.by

  -- an outcome without a step
  none_case : (o : Outcome) → Case q t o → state_after q t o ≡ None → (slice_get q.threads t ≡ None) ⊎ ((slice_get q.threads t ≡ Some Done) ⊎ (((kind : Fault) × (frames : List Frame) × (slice_get q.threads t ≡ Some (Faulted kind frames))) ⊎ ((a : Address) × (holder : ℕ) × WaitsFor q t a holder)))
  none_case _ (moves m next) e = absurd cc
  none_case _ (absent is) e = inl is
  none_case _ (done is) e = inr (inl is)
  none_case _ (faulted kind frames is) e = inr (inr (inl (kind, frames, is)))
  none_case _ (waits a holder is) e = inr (inr (inr (a, holder, is)))

  pub none_has_reason : step P q t ≡ None → (slice_get q.threads t ≡ None) ⊎ ((slice_get q.threads t ≡ Some Done) ⊎ (((kind : Fault) × (frames : List Frame) × (slice_get q.threads t ≡ Some (Faulted kind frames))) ⊎ ((a : Address) × (holder : ℕ) × WaitsFor q t a holder)))
  none_has_reason e = none_case _ (outcome_case P q t) e

  pub reason_has_none : (slice_get q.threads t ≡ None) ⊎ ((slice_get q.threads t ≡ Some Done) ⊎ (((kind : Fault) × (frames : List Frame) × (slice_get q.threads t ≡ Some (Faulted kind frames))) ⊎ ((a : Address) × (holder : ℕ) × WaitsFor q t a holder))) → step P q t ≡ None
  reason_has_none (inl is) = ap (state_after q t) (absent_is is)
  reason_has_none (inr (inl is)) = ap (state_after q t) (done_is is)
  reason_has_none (inr (inr (inl is))) = ap (state_after q t) (faulted_is is.0 is.1 is.2)
  reason_has_none (inr (inr (inr is))) = ap (state_after q t) (waits_is is.0 is.1 is.2)

  pub absent_why : outcome P q t ≡ Absent → slice_get q.threads t ≡ None
  absent_why e = absent_case q t _ (outcome_case P q t) e

  pub done_why : outcome P q t ≡ IsDone → slice_get q.threads t ≡ Some Done
  done_why e = done_case q t _ (outcome_case P q t) e

  pub faulted_why : (kind : Fault) → outcome P q t ≡ HadFaulted kind → (frames : List Frame) × (slice_get q.threads t ≡ Some (Faulted kind frames))
  faulted_why kind e = faulted_case q t kind _ (outcome_case P q t) e

  pub waits_why : (a : Address) (holder : ℕ) → outcome P q t ≡ Waits a holder → WaitsFor q t a holder
  waits_why a holder e = waits_case q t a holder _ (outcome_case P q t) e

-- a kind is told exactly where there is a step
pub kind_none : (q : State) (t : ℕ) (o : Outcome) → outcome_kind o ≡ None → state_after q t o ≡ None
kind_none q t (Moves m) e = absurd cc
kind_none q t Absent e = refl
kind_none q t IsDone e = refl
kind_none q t (HadFaulted k) e = refl
kind_none q t (Waits a h) e = refl

pub none_kind : (q : State) (t : ℕ) (o : Outcome) → state_after q t o ≡ None → outcome_kind o ≡ None
none_kind q t (Moves m) e = absurd cc
none_kind q t Absent e = refl
none_kind q t IsDone e = refl
none_kind q t (HadFaulted k) e = refl
none_kind q t (Waits a h) e = refl
