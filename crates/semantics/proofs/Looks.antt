-- A thread's turn comes to the same where what it asks looks the same.
use Rattle.std.proofs.Common.{◌≡◌, ℕ, Bool, true, false, ◌==◌, List, [], ◌∷◌, Some, None, refl, sym, ap, ◌∙◌}
use Rattle.std.specs.Prelude.{Option, length, is_some, slice_get, if◌then◌else◌}
use Rattle.core_program.specs.Core.{Program, Class, Field, Method, Stmt}
use Rattle.state.specs.declared.value.Address.{Address}
use Rattle.state.specs.declared.value.Value.{Value}
use Rattle.state.specs.declared.value.Value.TheVariants as value
use Rattle.state.specs.declared.value.Fault.TheVariants as fault
use Rattle.state.specs.declared.value.StepKind.TheVariants.{Both}
use Rattle.state.specs.Values.{top, under, popped, dropped, address_of}
use Rattle.state.specs.Memory.{Hold}
use Rattle.state.specs.Work as W
use Rattle.state.specs.Work.{Action, Item, Next, unfolded}
use Rattle.state.specs.States.{Frame, Thread, Ready, Running, Done, Faulted, new_object}
use Rattle.semantics.specs.Step.{Shared, Outcome, LockIs, ObjectIs, Nothing, FieldIs, index_of, class_finals, unless_final, value_at, access_kind, faults, goes_on, get, get_value, put, put_value, new, acquire, take, release, release_held, run_of, target_at, dispatch, call_on, call, start, start_run, act, act_next, turn}
use Rattle.semantics.specs.Locking.{release_kind, given_back}
use Rattle.semantics.specs.Asks.{asks, call_asks, act_asks, next_asks, mine, LooksSame}

module _ (P : Program) (t : ℕ) (see other : Shared) (f : Frame) (below : List Frame) (rest : List Item) where
  get_same : (a : Address) (field : Option Field) (v : Option Value) → access_kind P see t false a field ≡ access_kind P other t false a field → get_value P see t f below rest a field v ≡ get_value P other t f below rest a field v
  get_same a field None kinds = refl
  get_same a field (Some v) kinds = ap (λ k. goes_on P see t f below rest k (v ∷ under f.operands) rest Nothing) kinds

  put_same : (a : Address) (field : Option Field) (v w : Option Value) → is_some v ≡ is_some w → access_kind P see t true a field ≡ access_kind P other t true a field → put_value P see t f below rest a field v ≡ put_value P other t f below rest a field w
  put_same a field None None same kinds = refl
  put_same a field None (Some w) same kinds = absurd cc
  put_same a field (Some v) None same kinds = absurd cc
  put_same a field (Some v) (Some w) same kinds = ap (λ k. goes_on P see t f below rest k (under (under f.operands)) rest (FieldIs a (index_of field) (top f.operands))) kinds

  some_unless : (field : Option Field) (v w : Option Value) → is_some v ≡ is_some w → is_some (unless_final field v) ≡ is_some (unless_final field w)
  some_unless None v w same = refl
  some_unless (Some x) v w same = by_finality x.is_final
    where
      by_finality : (b : Bool) → is_some (if b then None else v) ≡ is_some (if b then None else w)
      by_finality true = refl
      by_finality false = same

  new_same : (c : ℕ) (o : Option Class) → see.made ≡ other.made → new P see t f below rest c o ≡ new P other t f below rest c o
  new_same c None made = refl
  new_same c (Some class) made = λ i. goes_on P see t f below rest Both (value.Ref (record { thread = t; count = made i }) ∷ dropped (class_finals class) f.operands) rest
      (ObjectIs (record { thread = t; count = made i }) (new_object P c (popped (class_finals class) [] f.operands)))

  -- a release, by the thread's own hold
  abbrev gives_back : Address → Option Hold → Outcome
  gives_back a None = faults P see t f below rest fault.Null
  gives_back a (Some hold) = goes_on P see t f below rest (release_kind (given_back hold)) f.operands rest (LockIs a (given_back hold))

  held_gives : (s : Shared) (a : Address) (hold : Hold) (b : Bool) → release_held P s t f below rest a hold b ≡ gives_back a (if b then Some hold else None)
  held_gives s a hold true = refl
  held_gives s a hold false = refl

  release_gives : (s : Shared) (a : Address) (o : Option Hold) → release P s t f below rest a o ≡ gives_back a (mine t o)
  release_gives s a None = refl
  release_gives s a (Some hold) = held_gives s a hold (hold.holder == t)

  get_at : (x : ℕ) (o : Option Address) → LooksSame P t see other (Rattle.semantics.specs.Asks.asks_at (λ a. Rattle.semantics.specs.Asks.Reads a x) o) → get P see t f below rest x o ≡ get P other t f below rest x o
  get_at x None looks = refl
  get_at x (Some a) looks = get_same a (slice_get P.fields x) (value_at P see t a x) looks.1 ∙ ap (get_value P other t f below rest a (slice_get P.fields x)) looks.0

  put_at : (x : ℕ) (o : Option Address) → LooksSame P t see other (Rattle.semantics.specs.Asks.asks_at (λ a. Rattle.semantics.specs.Asks.Writes a x) o) → put P see t f below rest x o ≡ put P other t f below rest x o
  put_at x None looks = refl
  put_at x (Some a) looks = put_same a (slice_get P.fields x) (unless_final (slice_get P.fields x) (value_at P see t a x)) (unless_final (slice_get P.fields x) (value_at P other t a x))
      (some_unless (slice_get P.fields x) (value_at P see t a x) (value_at P other t a x) looks.0) looks.1

  acquire_at : (s : Stmt) (o : Option Address) → LooksSame P t see other (Rattle.semantics.specs.Asks.asks_at Rattle.semantics.specs.Asks.Takes o) → acquire P see t f below rest s o ≡ acquire P other t f below rest s o
  acquire_at s None looks = refl
  acquire_at s (Some a) looks = ap (take P see t f below rest s a) looks

  start_at : (o : Option Address) → LooksSame P t see other (Rattle.semantics.specs.Asks.asks_at Rattle.semantics.specs.Asks.Runs o) → start P see t f below rest o ≡ start P other t f below rest o
  start_at None looks = refl
  start_at (Some a) looks = ap (λ c. start_run P see t f below rest a (run_of P c)) looks

  call_at : (arity m : ℕ) (o : Option Address) → LooksSame P t see other (Rattle.semantics.specs.Asks.asks_at Rattle.semantics.specs.Asks.Runs o) → call_on P see t f below rest arity m o ≡ call_on P other t f below rest arity m o
  call_at arity m None looks = refl
  call_at arity m (Some a) looks = ap (λ c. dispatch P see t f below rest arity (target_at P m c) a) looks

  call_same : (m : ℕ) (o : Option Method) → LooksSame P t see other (call_asks f.operands o) → call P see t f below rest m o ≡ call P other t f below rest m o
  call_same m None looks = refl
  call_same m (Some method) looks = call_at (length method.params) m (address_of (top (dropped (length method.params) f.operands))) looks

  act_same : (a : Action) → LooksSame P t see other (act_asks P f.operands a) → act P see t f below rest a ≡ act P other t f below rest a
  act_same (W.Push v) looks = refl
  act_same (W.Load x) looks = refl
  act_same (W.Store x) looks = refl
  act_same W.Drop looks = refl
  act_same (W.Unary op) looks = refl
  act_same (W.Binary op) looks = refl
  act_same (W.AndThen e) looks = refl
  act_same (W.OrElse e) looks = refl
  act_same (W.Choose s u) looks = refl
  act_same (W.Loop c s) looks = refl
  act_same (W.Get x) looks = get_at x (address_of (top f.operands)) looks
  act_same (W.Put x) looks = put_at x (address_of (top (under f.operands))) looks
  act_same (W.New c) looks = new_same c (slice_get P.classes c) looks
  act_same (W.Call m) looks = call_same m (slice_get P.methods m) looks
  act_same (W.Acquire s) looks = acquire_at s (address_of (top f.operands)) looks
  act_same (W.Release a) looks = release_gives see a (see.lock_at a) ∙ ap (gives_back a) looks ∙ sym (release_gives other a (other.lock_at a))
  act_same W.Ret looks = refl
  act_same W.Print looks = refl
  act_same W.Start looks = start_at (address_of (top f.operands)) looks

module _ (P : Program) (t : ℕ) (see other : Shared) where
  next_same : (f : Frame) (below : List Frame) (o : Option Next) → LooksSame P t see other (next_asks P f.operands o) → act_next P see t f below o ≡ act_next P other t f below o
  next_same f below None looks = refl
  next_same f below (Some next) looks = act_same P t see other f below next.1 next.0 looks

  pub turn_same : (o : Option Thread) → LooksSame P t see other (asks P o) → turn P see t o ≡ turn P other t o
  turn_same None looks = refl
  turn_same (Some (Ready a m)) looks = refl
  turn_same (Some (Running [])) looks = refl
  turn_same (Some (Running (f ∷ below))) looks = next_same f below (unfolded f.work) looks
  turn_same (Some Done) looks = refl
  turn_same (Some (Faulted kind frames)) looks = refl
