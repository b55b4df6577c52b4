-- Bounds along runs: after n steps no number is above n + 1, no lock is held more than n times, and a ready thread's method has no result.
use Rattle.std.proofs.Common.{◌≡◌, ℕ, zero, suc, ◌+◌, ◌-◌, ◌<◌, ◌≤◌, Bool, true, false, List, [], ◌∷◌, ◌++◌, Some, None, refl, sym, ap, subst, ◌∙◌, arith}
use Rattle.std.specs.Prelude.{Option, IfSome, length, is_some, nat_lt, option_and_then, slice_get, slice_set, if◌then◌else◌}
use Rattle.std.specs.FinMap as M
use Rattle.std.specs.FinMap.{get-empty}
use Rattle.std.proofs.lemmas.Bool.{ltb-false}
use Rattle.std.proofs.lemmas.List.{length-map, length-set, length-append}
use Rattle.std.proofs.lemmas.Option.{none-some, same_Some}
use Rattle.core_program.specs.Core.{Program, Class, Field, Method, Expr, Stmt}
use Rattle.core_program.specs.Typed.{IsEntry, IsTyped}
use Rattle.state.specs.declared.value.Address.{Address}
use Rattle.state.specs.declared.value.Value.{Value}
use Rattle.state.specs.Values.{address_eq}
use Rattle.state.specs.Memory.{Hold, Heap, address_cmp, made_by, IsNumbered}
use Rattle.state.specs.Work as W
use Rattle.state.specs.Work.{Action, Item, Next, unfolded}
use Rattle.state.specs.States.{Frame, Thread, Ready, Running, Done, Faulted, State, initial}
use Rattle.semantics.specs.Step.{Change, Nothing, FieldIs, ObjectIs, LockIs, Prints, Starts, Move, Outcome, Moves, Absent, IsDone, HadFaulted, Waits, changed, moved, outcome, step, state_after, run_of, run_of_class}
use Rattle.semantics.specs.Step.{seen_by, object_class, load, store, binary, and_then, or_else, choose, loop, get, get_value, put, put_value, new, call, call_on, enter, enter_some, dispatch, acquire, take, take_held, release, release_held, return_to, start, start_run, act, act_next, enter_first, turn}
use Rattle.semantics.specs.Changes.{locks_after}
use Rattle.semantics.specs.Run.{run, run_from}
use Rattle.semantics.proofs.Changed.{locks_are}
use Rattle.semantics.proofs.StepCases.{Case, moves, absent, done, faulted, waits, NewIsNext, outcome_case}
use Rattle.semantics.proofs.RunLemmas.{step_numbered, initial_numbered}
use Rattle.replay.specs.Plain.{plain_of, plain_thread}
use Rattle.replay.specs.Evaluation.{most_number}
use Rattle.replay.proofs.Comes.{IsFull, objects, threads, locks}
use Rattle.replay.proofs.MadeObjects.{made_more}

-- What holds of a state after n steps.
pub record Bounds (P : Program) (n : ℕ) (q : State) : Type 0 where
  pub numbered : IsNumbered q.heap
  pub made : (u : ℕ) → made_by u q.heap ≤ n + 1
  pub threads : length q.threads ≤ n + 1
  pub held : (a : Address) (hold : Hold) → M.get q.locks a ≡ Some hold → hold.count ≤ n
  pub void : (u : ℕ) (a : Address) (m : ℕ) (method : Method) → slice_get q.threads u ≡ Some (Ready a m) → slice_get P.methods m ≡ Some method → method.result ≡ None

-- the method of a ready thread
abbrev method_is : Thread → ℕ
method_is (Ready a m) = m
method_is _ = 0

-- a thread that isn't ready
abbrev IsBusy : Thread → Type 0
IsBusy (Ready a m) = ⊥
IsBusy _ = Unit {0}

module _ (P : Program) (typed : IsTyped P) (q : State) (t : ℕ) where
  -- a change that takes a lock once more at most, and starts threads whose methods have no result
  abbrev Fits : Change → Type 0
  Fits Nothing = Unit {0}
  Fits (FieldIs a index v) = Unit {0}
  Fits (ObjectIs a o) = Unit {0}
  Fits (LockIs a None) = Unit {0}
  Fits (LockIs a (Some hold)) = (bound : ℕ) → ((old : Hold) → M.get q.locks a ≡ Some old → old.count ≤ bound) → hold.count ≤ bound + 1
  Fits (Prints n) = Unit {0}
  Fits (Starts a m) = (method : Method) → slice_get P.methods m ≡ Some method → method.result ≡ None

  abbrev Fine : Outcome → Type 0
  Fine (Moves move) = IsBusy move.thread × Fits move.change
  Fine Absent = Unit {0}
  Fine IsDone = Unit {0}
  Fine (HadFaulted kind) = Unit {0}
  Fine (Waits a holder) = Unit {0}

  module _ (f : Frame) (below : List Frame) (rest : List Item) where
    load_fine : (o : Option Value) → Fine (load P (seen_by t q) t f below rest o)
    load_fine None = (tt, tt)
    load_fine (Some v) = (tt, tt)

    store_fine : (x : ℕ) (o : Option Value) → Fine (store P (seen_by t q) t f below rest x o)
    store_fine x None = (tt, tt)
    store_fine x (Some v) = (tt, tt)

    binary_fine : (o : Option Value) → Fine (binary P (seen_by t q) t f below rest o)
    binary_fine None = (tt, tt)
    binary_fine (Some v) = (tt, tt)

    and_fine : (e : Expr) (b : Bool) → Fine (and_then P (seen_by t q) t f below rest e b)
    and_fine e true = (tt, tt)
    and_fine e false = (tt, tt)

    or_fine : (e : Expr) (b : Bool) → Fine (or_else P (seen_by t q) t f below rest e b)
    or_fine e true = (tt, tt)
    or_fine e false = (tt, tt)

    choose_fine : (s u : Stmt) (b : Bool) → Fine (choose P (seen_by t q) t f below rest s u b)
    choose_fine s u true = (tt, tt)
    choose_fine s u false = (tt, tt)

    loop_fine : (c : Expr) (s : Stmt) (b : Bool) → Fine (loop P (seen_by t q) t f below rest c s b)
    loop_fine c s true = (tt, tt)
    loop_fine c s false = (tt, tt)

    get_value_fine : (a : Address) (field : Option Field) (o : Option Value) → Fine (get_value P (seen_by t q) t f below rest a field o)
    get_value_fine a field None = (tt, tt)
    get_value_fine a field (Some v) = (tt, tt)

    get_fine : (x : ℕ) (o : Option Address) → Fine (get P (seen_by t q) t f below rest x o)
    get_fine x None = (tt, tt)
    get_fine x (Some a) = get_value_fine a _ _

    put_value_fine : (a : Address) (field : Option Field) (o : Option Value) → Fine (put_value P (seen_by t q) t f below rest a field o)
    put_value_fine a field None = (tt, tt)
    put_value_fine a field (Some v) = (tt, tt)

    put_fine : (x : ℕ) (o : Option Address) → Fine (put P (seen_by t q) t f below rest x o)
    put_fine x None = (tt, tt)
    put_fine x (Some a) = put_value_fine a _ _

    new_fine : (c : ℕ) (o : Option Class) → Fine (new P (seen_by t q) t f below rest c o)
    new_fine c None = (tt, tt)
    new_fine c (Some class) = (tt, tt)

    back_fine : (a : Address) (hold : Hold) → M.get q.locks a ≡ Some hold → (b : Bool) → Fits (LockIs a (if b then Some (record hold { count = hold.count - 1 }) else None))
    back_fine a hold is true = λ bound low. lower bound hold.count (low hold is)
      where
        lower : (bound n : ℕ) → n ≤ bound → n - 1 ≤ bound + 1
        lower bound n e = omega (arith, e)
    back_fine a hold is false = tt

    release_held_fine : (a : Address) (hold : Hold) → M.get q.locks a ≡ Some hold → (b : Bool) → Fine (release_held P (seen_by t q) t f below rest a hold b)
    release_held_fine a hold is false = (tt, tt)
    release_held_fine a hold is true = (tt, back_fine a hold is (nat_lt 1 hold.count))

    release_fine : (a : Address) (o : Option Hold) → M.get q.locks a ≡ o → Fine (release P (seen_by t q) t f below rest a o)
    release_fine a None is = (tt, tt)
    release_fine a (Some hold) is = release_held_fine a hold is _

    once : (bound : ℕ) → 1 ≤ bound + 1
    once bound = omega arith

    again : (bound n : ℕ) → n ≤ bound → n + 1 ≤ bound + 1
    again bound n e = omega (arith, e)

    take_held_fine : (s : Stmt) (a : Address) (hold : Hold) → M.get q.locks a ≡ Some hold → (b : Bool) → Fine (take_held P (seen_by t q) t f below rest s a hold b)
    take_held_fine s a hold is true = (tt, λ bound low. again bound hold.count (low hold is))
    take_held_fine s a hold is false = tt

    take_fine : (s : Stmt) (a : Address) (o : Option Hold) → M.get q.locks a ≡ o → Fine (take P (seen_by t q) t f below rest s a o)
    take_fine s a None is = (tt, λ bound low. once bound)
    take_fine s a (Some hold) is = take_held_fine s a hold is _

    acquire_fine : (s : Stmt) (o : Option Address) → Fine (acquire P (seen_by t q) t f below rest s o)
    acquire_fine s None = (tt, tt)
    acquire_fine s (Some a) = take_fine s a (M.get q.locks a) refl

    run_void : (o : Option ℕ) (m : ℕ) (method : Method) → run_of P o ≡ Some m → slice_get P.methods m ≡ Some method → method.result ≡ None
    run_void None m method is there = absurd (none-some m is)
    run_void (Some c) m method is there = in_class (slice_get P.classes c) refl is
      where
        in_class : (o : Option Class) → slice_get P.classes c ≡ o → run_of_class o ≡ Some m → method.result ≡ None
        in_class None none is = absurd (none-some m is)
        in_class (Some class) has is = of_entry (subst (λ x. IfSome x (IsEntry P c)) is (typed.classes c class has).run)
          where
            of_entry : IsEntry P c m → method.result ≡ None
            of_entry e = ap (λ (x : Method). x.result) (same_Some method e.method (sym there ∙ e.is)) ∙ e.no_result

    start_run_fine : (a : Address) (o : Option ℕ) → run_of P (object_class (M.get q.heap a)) ≡ o → Fine (start_run P (seen_by t q) t f below rest a o)
    start_run_fine a None is = (tt, tt)
    start_run_fine a (Some m) is = (tt, λ method there. run_void (object_class (M.get q.heap a)) m method is there)

    start_fine : (o : Option Address) → Fine (start P (seen_by t q) t f below rest o)
    start_fine None = (tt, tt)
    start_fine (Some a) = start_run_fine a _ refl

    return_fine : (below2 : List Frame) → Fine (return_to P (seen_by t q) t f below rest below2)
    return_fine [] = (tt, tt)
    return_fine (g ∷ more) = (tt, tt)

    enter_fine : (arity m : ℕ) (method : Method) (a : Address) (b : Bool) → Fine (enter P (seen_by t q) t f below rest arity m method a b)
    enter_fine arity m method a false = (tt, tt)
    enter_fine arity m method a true = (tt, tt)

    some_fine : (arity m : ℕ) (o : Option Method) (a : Address) → Fine (enter_some P (seen_by t q) t f below rest arity m o a)
    some_fine arity m None a = (tt, tt)
    some_fine arity m (Some method) a = enter_fine arity m method a _

    dispatch_fine : (arity : ℕ) (o : Option ℕ) (a : Address) → Fine (dispatch P (seen_by t q) t f below rest arity o a)
    dispatch_fine arity None a = (tt, tt)
    dispatch_fine arity (Some m) a = some_fine arity m (slice_get P.methods m) a

    call_on_fine : (arity m : ℕ) (o : Option Address) → Fine (call_on P (seen_by t q) t f below rest arity m o)
    call_on_fine arity m None = (tt, tt)
    call_on_fine arity m (Some a) = dispatch_fine arity _ a

    call_fine : (m : ℕ) (o : Option Method) → Fine (call P (seen_by t q) t f below rest m o)
    call_fine m None = (tt, tt)
    call_fine m (Some method) = call_on_fine (length method.params) m _

    act_fine : (a : Action) → Fine (act P (seen_by t q) t f below rest a)
    act_fine (W.Push v) = (tt, tt)
    act_fine (W.Load x) = load_fine _
    act_fine (W.Store x) = store_fine x _
    act_fine W.Drop = (tt, tt)
    act_fine (W.Unary op) = (tt, tt)
    act_fine (W.Binary op) = binary_fine _
    act_fine (W.AndThen x) = and_fine x _
    act_fine (W.OrElse x) = or_fine x _
    act_fine (W.Choose s u) = choose_fine s u _
    act_fine (W.Loop c s) = loop_fine c s _
    act_fine (W.Get x) = get_fine x _
    act_fine (W.Put x) = put_fine x _
    act_fine (W.New c) = new_fine c _
    act_fine (W.Call m2) = call_fine m2 (slice_get P.methods m2)
    act_fine (W.Acquire s) = acquire_fine s _
    act_fine (W.Release a) = release_fine a (M.get q.locks a) refl
    act_fine W.Ret = return_fine below
    act_fine W.Print = (tt, tt)
    act_fine W.Start = start_fine _

  next_fine : (f : Frame) (below : List Frame) (o : Option Next) → Fine (act_next P (seen_by t q) t f below o)
  next_fine f below None = (tt, tt)
  next_fine f below (Some next) = act_fine f below next.1 next.0

  first_fine : (a : Address) (m : ℕ) (o : Option Method) → Fine (enter_first P (seen_by t q) t a m o)
  first_fine a m None = (tt, tt)
  first_fine a m (Some method) = (tt, tt)

  turn_fine : (o : Option Thread) → Fine (turn P (seen_by t q) t o)
  turn_fine None = tt
  turn_fine (Some Done) = tt
  turn_fine (Some (Faulted kind frames)) = tt
  turn_fine (Some (Ready a m)) = first_fine a m (slice_get P.methods m)
  turn_fine (Some (Running [])) = (tt, tt)
  turn_fine (Some (Running (f ∷ below))) = next_fine f below (unfolded f.work)

-- Steps keep the bounds.
module _ (P : Program) (typed : IsTyped P) where
  at_most : (n m : ℕ) → n ≤ suc m → (k : ℕ) → m ≤ k + 1 → n ≤ (k + 1) + 1
  at_most n m e k l = omega (arith, e, l)

  threads_after : (c : Change) (q : State) → length (changed c q).threads ≤ length q.threads + 1
  threads_after Nothing q = omega arith
  threads_after (FieldIs a index v) q = omega arith
  threads_after (ObjectIs a o) q = omega arith
  threads_after (LockIs a hold) q = omega arith
  threads_after (Prints n) q = omega arith
  threads_after (Starts a m) q = let e = length-append q.threads (Ready a m ∷ []) in omega (arith, e)

  held_after : (c : Change) (q : State) (t n : ℕ) → Fits P typed q t c → ((a : Address) (hold : Hold) → M.get q.locks a ≡ Some hold → hold.count ≤ n)
      → (b : Address) (hold : Hold) → M.get (changed c q).locks b ≡ Some hold → hold.count ≤ n + 1
  held_after c q t n fits held b hold is = by_change c fits (sym (ap (λ (get : Address → Option Hold). get b) (locks_are c q)) ∙ is)
    where
      same_lock : M.get q.locks b ≡ Some hold → hold.count ≤ n + 1
      same_lock e = let h = held b hold e in omega (arith, h)

      at_lock : (a : Address) (o : Option Hold) → Fits P typed q t (LockIs a o) → (x : Bool) → address_eq b a ≡ x → (if x then o else M.get q.locks b) ≡ Some hold → hold.count ≤ n + 1
      at_lock a None fits true e k = absurd (none-some hold k)
      at_lock a (Some new) fits true e k = subst (λ (h : Hold). h.count ≤ n + 1) (same_Some new hold k) (fits n (λ old had. held a old had))
      at_lock a o fits false e k = same_lock k

      by_change : (c : Change) → Fits P typed q t c → locks_after c (M.get q.locks) b ≡ Some hold → hold.count ≤ n + 1
      by_change Nothing fits e = same_lock e
      by_change (FieldIs a index v) fits e = same_lock e
      by_change (ObjectIs a o) fits e = same_lock e
      by_change (LockIs a o) fits e = at_lock a o fits (address_eq b a) refl e
      by_change (Prints k) fits e = same_lock e
      by_change (Starts a m) fits e = same_lock e

  -- a ready thread stood there before, or was started
  module _ (q : State) (t : ℕ) (n : ℕ) (b : Bounds P n q) where
    abbrev Void : List Thread → Type 0
    Void ts = (u : ℕ) (a : Address) (m : ℕ) (method : Method) → slice_get ts u ≡ Some (Ready a m) → slice_get P.methods m ≡ Some method → method.result ≡ None

    not_ready : (x : Thread) (a : Address) (m : ℕ) → IsBusy x → x ≡ Ready a m → ⊥
    not_ready x a m busy e = subst IsBusy e busy

    set_void : (x : Thread) → IsBusy x → (ts : List Thread) (i : ℕ) → Void ts → Void (slice_set ts i x)
    set_void x busy [] i void u a m method e there = absurd (none-some _ e)
    set_void x busy (y ∷ ys) zero void zero a m method e there = absurd (not_ready x a m busy (same_Some x _ e))
    set_void x busy (y ∷ ys) zero void (suc u) a m method e there = void (suc u) a m method e there
    set_void x busy (y ∷ ys) (suc i) void zero a m method e there = void zero a m method e there
    set_void x busy (y ∷ ys) (suc i) void (suc u) a m method e there = set_void x busy ys i (λ k. void (suc k)) u a m method e there

    append_void : (x : Thread) → ((a : Address) (m : ℕ) (method : Method) → x ≡ Ready a m → slice_get P.methods m ≡ Some method → method.result ≡ None) → (ts : List Thread) → Void ts → Void (ts ++ x ∷ [])
    append_void x one [] void zero a m method e there = one a m method (same_Some x _ e) there
    append_void x one [] void (suc u) a m method e there = absurd (none-some _ e)
    append_void x one (y ∷ ys) void zero a m method e there = void zero a m method e there
    append_void x one (y ∷ ys) void (suc u) a m method e there = append_void x one ys (λ k. void (suc k)) u a m method e there

    void_after : (c : Change) (ts : List Thread) → Fits P typed q t c → Void ts → Void (changed c (record q { threads = ts })).threads
    void_after Nothing ts fits void = void
    void_after (FieldIs a index v) ts fits void = void
    void_after (ObjectIs a o) ts fits void = void
    void_after (LockIs a o) ts fits void = void
    void_after (Prints k) ts fits void = void
    void_after (Starts a m) ts fits void = append_void (Ready a m) (λ a2 m2 method e there. fits method (ap (slice_get P.methods) (let same : m ≡ m2 = ap method_is e in same) ∙ there)) ts void

    after_step : (move : Move) → NewIsNext q t move.change → IsBusy move.thread → Fits P typed q t move.change → IsNumbered (moved t move q).heap → Bounds P (n + 1) (moved t move q)
    after_step move next busy fits later = record {
      numbered = later;
      made = λ u. at_most (made_by u (moved t move q).heap) (made_by u q.heap) (subst (λ k. made_by u k ≤ suc (made_by u q.heap)) (same_heap move.change) (made_more move.change q t u next b.numbered (subst IsNumbered (sym (same_heap move.change)) later))) n (b.made u);
      threads = let k = threads_after move.change (record q { threads = slice_set q.threads t move.thread }) in let e = length-set q.threads t move.thread in let l = b.threads in omega (arith, k, e, l);
      held = λ a hold is. held_after move.change q t n fits b.held a hold (ap (λ locks. M.get locks a) (same_locks move.change) ∙ is);
      void = void_after move.change (slice_set q.threads t move.thread) fits (set_void move.thread busy q.threads t b.void);
    }
      where
        same_heap : (c : Change) → (changed c q).heap ≡ (changed c (record q { threads = slice_set q.threads t move.thread })).heap
        same_heap Nothing = refl
        same_heap (FieldIs a index v) = refl
        same_heap (ObjectIs a o) = refl
        same_heap (LockIs a o) = refl
        same_heap (Prints k) = refl
        same_heap (Starts a m) = refl

        same_locks : (c : Change) → (changed c q).locks ≡ (changed c (record q { threads = slice_set q.threads t move.thread })).locks
        same_locks Nothing = refl
        same_locks (FieldIs a index v) = refl
        same_locks (ObjectIs a o) = refl
        same_locks (LockIs a o) = refl
        same_locks (Prints k) = refl
        same_locks (Starts a m) = refl

    by_case : (r : State) (o : Outcome) → Case q t o → Fine P typed q t o → state_after q t o ≡ Some r → IsNumbered r.heap → Bounds P (n + 1) r
    by_case r _ (moves move next) (busy, fits) e later = subst (Bounds P (n + 1)) (same_Some _ r e) (after_step move next busy fits (subst (λ (x : State). IsNumbered x.heap) (sym (same_Some _ r e)) later))
    by_case r _ (absent is) fine e later = absurd (none-some r e)
    by_case r _ (done is) fine e later = absurd (none-some r e)
    by_case r _ (faulted kind frames is) fine e later = absurd (none-some r e)
    by_case r _ (waits a holder w) fine e later = absurd (none-some r e)

    step_bounds : (r : State) → step P q t ≡ Some r → Bounds P (n + 1) r
    step_bounds r e = by_case r (outcome P q t) (outcome_case P q t) (turn_fine P typed q t (slice_get q.threads t)) e (step_numbered P q t r b.numbered e)

  run_bounds : (s : List ℕ) (q r : State) (n : ℕ) → Bounds P n q → run_from P q s ≡ Some r → Bounds P (n + length s) r
  run_bounds [] q r n b e = subst (λ k. Bounds P k r) (no_more n) (subst (Bounds P n) (same_Some q r e) b)
    where
      no_more : (n : ℕ) → n ≡ n + 0
      no_more n = omega arith
  run_bounds (t ∷ s) q r n b e =
      elim (step P q t) as (λ o. step P q t ≡ o → option_and_then (λ next. run_from P next s) o ≡ Some r → Bounds P (n + length (t ∷ s)) r) [
        | None ↦ λ is ran. absurd (none-some r ran)
        | Some next ↦ λ is ran. subst (λ k. Bounds P k r) (one_later n (length s)) (run_bounds s next r (n + 1) (step_bounds q t n b next is) ran)
      ] refl e
    where
      one_later : (n k : ℕ) → (n + 1) + k ≡ n + suc k
      one_later n k = omega arith

  made_low : (heap : Heap) (u : ℕ) → IsNumbered heap → M.get heap (record { thread = u; count = 1 }) ≡ None → made_by u heap ≤ 1
  made_low heap u numbered none = ltb-false 1 (made_by u heap) (sym (numbered u 1) ∙ ap is_some none)

  start_bounds : Bounds P 0 (initial P)
  start_bounds = record {
    numbered = initial_numbered P;
    made = λ u. made_low (initial P).heap u (initial_numbered P) (other_address u);
    threads = omega arith;
    held = λ a hold is. absurd (none-some hold (sym (get-empty address_cmp a) ∙ is));
    void = first_void;
  }
    where
      other_address : (u : ℕ) → M.get (initial P).heap (record { thread = u; count = 1 }) ≡ None
      other_address u = Rattle.state.proofs.MemoryLemmas.get-insert_other M.empty Rattle.state.specs.States.main_address (record { thread = u; count = 1 }) (Rattle.state.specs.States.new_object P P.main_class [])
          (λ same. let e : 1 ≡ 0 = ap (λ (a : Address). a.count) same in absurd (omega (arith, e))) ∙ get-empty address_cmp (record { thread = u; count = 1 })

      first_void : (u : ℕ) (a : Address) (m : ℕ) (method : Method) → slice_get (initial P).threads u ≡ Some (Ready a m) → slice_get P.methods m ≡ Some method → method.result ≡ None
      first_void zero a m method e there =
          let same : P.main ≡ m = ap method_is (same_Some _ _ e) in
          let entry = typed.main in
          ap (λ (x : Method). x.result) (same_Some method entry.method (sym there ∙ ap (slice_get P.methods) (sym same) ∙ entry.is)) ∙ entry.no_result
      first_void (suc u) a m method e there = absurd (none-some _ e)

  pub bounds : (s : List ℕ) (q : State) → run P s ≡ Some q → Bounds P (length s) q
  bounds s q e = subst (λ k. Bounds P k q) (none_more (length s)) (run_bounds s (initial P) q 0 start_bounds e)
    where
      none_more : (n : ℕ) → 0 + n ≡ n
      none_more n = omega arith

  -- so no number is full after fewer steps than the greatest number
  pub not_full : (n : ℕ) (q : State) → Bounds P n q → n < most_number → (t : ℕ) → IsFull t (plain_of q) → ⊥
  not_full n q b few t (objects e) = let m = b.made t in absurd (omega (arith, few, m, e))
  not_full n q b few t (threads e) = let m = b.threads in let l = length-map q.threads plain_thread in absurd (omega (arith, few, m, e, l))
  not_full n q b few t (locks a hold is e) = let m = b.held a hold is in absurd (omega (arith, few, m, e))
