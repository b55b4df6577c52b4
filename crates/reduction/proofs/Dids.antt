-- What each step did.
use Rattle.std.proofs.Common.{◌≡◌, ℕ, ◌==◌, Bool, true, false, length, List, [], ◌∷◌, refl, sym, ap, subst, ◌∙◌, Some, None, arith}
use Rattle.std.proofs.lemmas.Bool.Decides.{nat_tests}
use Rattle.std.specs.Prelude.{Option, slice_get, if◌then◌else◌}
use Rattle.core_program.specs.Core.{Program, Class, Field, Method, Expr, Stmt}
use Rattle.state.specs.declared.value.Address.{Address}
use Rattle.state.specs.declared.value.Value.{Value}
use Rattle.state.specs.Values.{top}
use Rattle.state.specs.Memory.{Object, Hold, field_value}
use Rattle.state.specs.Work as W
use Rattle.state.specs.Work.{Action, Item, Next}
use Rattle.state.specs.States.{Frame, Thread, Ready, Running, Done, Faulted}
use Rattle.semantics.specs.Step.{Shared, Move, Outcome, Moves, Absent, IsDone, HadFaulted, Waits, unless_final, value_at, load, store, binary, and_then, or_else, choose, loop, get, get_value, put, put_value, new, call, call_on, enter, enter_some, dispatch, acquire, take, take_held, release, release_held, return_to, start, start_run, act, act_next, enter_first, turn}
use Rattle.semantics.specs.Asks.{Ask, Alone, Reads, Writes, Counts, Takes, Gives, Runs, asks_at, call_asks, act_asks, next_asks, asks}
use Rattle.reduction.specs.Changes.{Did, quiet, was_read, was_written, was_made, was_taken, taken_more, was_given, was_started, was_printed}

module _ (P : Program) (see : Shared) (t : ℕ) where
  -- what an outcome did, where it is a step
  abbrev OutDid : Ask → Outcome → Type 0
  OutDid ask (Moves m) = Did P see t ask m.kind m.change
  OutDid ask Absent = Unit {0}
  OutDid ask IsDone = Unit {0}
  OutDid ask (HadFaulted kind) = Unit {0}
  OutDid ask (Waits a holder) = Unit {0}

  no_field : (x : ℕ) (o : Option Object) → field_value P x o None ≡ None
  no_field x None = refl
  no_field x (Some o) = refl

  same_number : (a b : ℕ) → (a == b) ≡ true → a ≡ b
  same_number a b e = grind (arith, nat_tests)

  written_field : (b : Bool) (v : Option Value) (old : Value) → (if b then None else v) ≡ Some old → (b ≡ false) × (v ≡ Some old)
  written_field true v old e = absurd cc
  written_field false v old e = (refl, e)

  module _ (f : Frame) (below : List Frame) (rest : List Item) where
    load_did : (o : Option Value) → OutDid Alone (load P see t f below rest o)
    load_did None = quiet Alone tt
    load_did (Some v) = quiet Alone tt

    store_did : (x : ℕ) (o : Option Value) → OutDid Alone (store P see t f below rest x o)
    store_did x None = quiet Alone tt
    store_did x (Some v) = quiet Alone tt

    binary_did : (o : Option Value) → OutDid Alone (binary P see t f below rest o)
    binary_did None = quiet Alone tt
    binary_did (Some v) = quiet Alone tt

    and_then_did : (e : Expr) (b : Bool) → OutDid Alone (and_then P see t f below rest e b)
    and_then_did e true = quiet Alone tt
    and_then_did e false = quiet Alone tt

    or_else_did : (e : Expr) (b : Bool) → OutDid Alone (or_else P see t f below rest e b)
    or_else_did e true = quiet Alone tt
    or_else_did e false = quiet Alone tt

    choose_did : (s u : Stmt) (b : Bool) → OutDid Alone (choose P see t f below rest s u b)
    choose_did s u true = quiet Alone tt
    choose_did s u false = quiet Alone tt

    loop_did : (c : Expr) (s : Stmt) (b : Bool) → OutDid Alone (loop P see t f below rest c s b)
    loop_did c s true = quiet Alone tt
    loop_did c s false = quiet Alone tt

    get_value_did : (a : Address) (x : ℕ) (field : Option Field) → slice_get P.fields x ≡ field → (v : Option Value) → value_at P see t a x ≡ v → OutDid (Reads a x) (get_value P see t f below rest a field v)
    get_value_did a x field is None e = quiet (Reads a x) e
    get_value_did a x None is (Some v) e = absurd (let none = sym (no_field x (see.object_at a)) ∙ sym (ap (field_value P x (see.object_at a)) is) ∙ e in cc)
    get_value_did a x (Some fd) is (Some v) e = was_read fd v is e

    get_did : (x : ℕ) (o : Option Address) → OutDid (asks_at (λ a. Reads a x) o) (get P see t f below rest x o)
    get_did x None = quiet Alone tt
    get_did x (Some a) = get_value_did a x _ refl _ refl

    put_value_did : (a : Address) (x : ℕ) (field : Option Field) → slice_get P.fields x ≡ field → (v : Option Value) → unless_final field (value_at P see t a x) ≡ v → OutDid (Writes a x) (put_value P see t f below rest a field v)
    put_value_did a x field is None e = quiet (Writes a x) (ap (λ g. unless_final g (value_at P see t a x)) is ∙ e)
    put_value_did a x None is (Some old) e = absurd cc
    put_value_did a x (Some fd) is (Some old) e = let w = written_field fd.is_final (value_at P see t a x) old e in was_written fd old (top f.operands) is w.0 w.1

    put_did : (x : ℕ) (o : Option Address) → OutDid (asks_at (λ a. Writes a x) o) (put P see t f below rest x o)
    put_did x None = quiet Alone tt
    put_did x (Some a) = put_value_did a x _ refl _ refl

    new_did : (c : ℕ) (o : Option Class) → OutDid Counts (new P see t f below rest c o)
    new_did c None = quiet Counts tt
    new_did c (Some class) = was_made _

    enter_did : (arity m : ℕ) (method : Method) (b : Bool) (a : Address) → OutDid (Runs a) (enter P see t f below rest arity m method a b)
    enter_did arity m method false a = quiet (Runs a) tt
    enter_did arity m method true a = quiet (Runs a) tt

    enter_some_did : (arity m : ℕ) (o : Option Method) (a : Address) → OutDid (Runs a) (enter_some P see t f below rest arity m o a)
    enter_some_did arity m None a = quiet (Runs a) tt
    enter_some_did arity m (Some method) a = enter_did arity m method _ a

    dispatch_did : (arity : ℕ) (o : Option ℕ) (a : Address) → OutDid (Runs a) (dispatch P see t f below rest arity o a)
    dispatch_did arity None a = quiet (Runs a) tt
    dispatch_did arity (Some m) a = enter_some_did arity m (slice_get P.methods m) a

    call_on_did : (arity m : ℕ) (o : Option Address) → OutDid (asks_at Runs o) (call_on P see t f below rest arity m o)
    call_on_did arity m None = quiet Alone tt
    call_on_did arity m (Some a) = dispatch_did arity _ a

    call_did : (m : ℕ) (o : Option Method) → OutDid (call_asks f.operands o) (call P see t f below rest m o)
    call_did m None = quiet Alone tt
    call_did m (Some method) = call_on_did (length method.params) m _

    take_held_did : (s : Stmt) (a : Address) (hold : Hold) → see.lock_at a ≡ Some hold → (b : Bool) → (hold.holder == t) ≡ b → OutDid (Takes a) (take_held P see t f below rest s a hold b)
    take_held_did s a hold e true by = taken_more hold e (same_number hold.holder t by)
    take_held_did s a hold e false by = tt

    take_did : (s : Stmt) (a : Address) (o : Option Hold) → see.lock_at a ≡ o → OutDid (Takes a) (take P see t f below rest s a o)
    take_did s a None e = was_taken e
    take_did s a (Some hold) e = take_held_did s a hold e _ refl

    acquire_did : (s : Stmt) (o : Option Address) → OutDid (asks_at Takes o) (acquire P see t f below rest s o)
    acquire_did s None = quiet Alone tt
    acquire_did s (Some a) = take_did s a _ refl

    release_held_did : (a : Address) (hold : Hold) → see.lock_at a ≡ Some hold → (b : Bool) → (hold.holder == t) ≡ b → OutDid (Gives a) (release_held P see t f below rest a hold b)
    release_held_did a hold e false by = quiet (Gives a) tt
    release_held_did a hold e true by = was_given hold e (same_number hold.holder t by)

    release_did : (a : Address) (o : Option Hold) → see.lock_at a ≡ o → OutDid (Gives a) (release P see t f below rest a o)
    release_did a None e = quiet (Gives a) tt
    release_did a (Some hold) e = release_held_did a hold e _ refl

    return_did : (frames : List Frame) → OutDid Alone (return_to P see t f below rest frames)
    return_did [] = quiet Alone tt
    return_did (g ∷ more) = quiet Alone tt

    start_run_did : (a : Address) (o : Option ℕ) → OutDid (Runs a) (start_run P see t f below rest a o)
    start_run_did a None = quiet (Runs a) tt
    start_run_did a (Some m) = was_started m

    start_did : (o : Option Address) → OutDid (asks_at Runs o) (start P see t f below rest o)
    start_did None = quiet Alone tt
    start_did (Some a) = start_run_did a _

    act_did : (a : Action) → OutDid (act_asks P f.operands a) (act P see t f below rest a)
    act_did (W.Push v) = quiet Alone tt
    act_did (W.Load x) = load_did _
    act_did (W.Store x) = store_did x _
    act_did W.Drop = quiet Alone tt
    act_did (W.Unary op) = quiet Alone tt
    act_did (W.Binary op) = binary_did _
    act_did (W.AndThen e) = and_then_did e _
    act_did (W.OrElse e) = or_else_did e _
    act_did (W.Choose s u) = choose_did s u _
    act_did (W.Loop c s) = loop_did c s _
    act_did (W.Get x) = get_did x _
    act_did (W.Put x) = put_did x _
    act_did (W.New c) = new_did c _
    act_did (W.Call m) = call_did m (slice_get P.methods m)
    act_did (W.Acquire s) = acquire_did s _
    act_did (W.Release a) = release_did a _ refl
    act_did W.Ret = return_did below
    act_did W.Print = was_printed _
    act_did W.Start = start_did _

  next_did : (f : Frame) (below : List Frame) (o : Option Next) → OutDid (next_asks P f.operands o) (act_next P see t f below o)
  next_did f below None = quiet Alone tt
  next_did f below (Some next) = act_did f below next.1 next.0

  first_did : (a : Address) (m : ℕ) (o : Option Method) → OutDid Alone (enter_first P see t a m o)
  first_did a m None = quiet Alone tt
  first_did a m (Some method) = quiet Alone tt

  turn_did : (o : Option Thread) → OutDid (asks P o) (turn P see t o)
  turn_did None = tt
  turn_did (Some Done) = tt
  turn_did (Some (Faulted kind frames)) = tt
  turn_did (Some (Ready a m)) = first_did a m _
  turn_did (Some (Running [])) = quiet Alone tt
  turn_did (Some (Running (f ∷ below))) = next_did f below _

  pub moves_did : (o : Option Thread) (m : Move) → turn P see t o ≡ Moves m → Did P see t (asks P o) m.kind m.change
  moves_did o m e = subst (OutDid (asks P o)) e (turn_did o)
