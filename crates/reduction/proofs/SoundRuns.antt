-- Every state of every run is sound, and a sound state is orderly.
use Rattle.std.proofs.Common.{◌≡◌, ℕ, zero, suc, Bool, true, false, List, [], ◌∷◌, ◌++◌, refl, sym, ap, subst, ◌∙◌, Some, None, IfSome}
use Rattle.std.specs.Prelude.{Option, length, is_some, slice_get, slice_set, cond, option_map, option_and_then}
use Rattle.std.specs.FinMap as M
use Rattle.std.specs.FinMap.{get-empty}
use Rattle.std.specs.Ordering.{eq_by_cmp}
use Rattle.core_program.specs.Core.{Program, Method}
use Rattle.core_program.specs.Typed.{IsTyped, LeadsOn, IsLock}
use Rattle.state.specs.declared.value.Address.{Address}
use Rattle.state.specs.declared.value.Value.{Value}
use Rattle.state.specs.Values.{top, under, dropped, address_of}
use Rattle.state.specs.Memory.{Object, Heap, address_cmp, with_value}
use Rattle.state.specs.Work as W
use Rattle.state.specs.Work.{Action, Next, unfolded}
use Rattle.state.specs.States.{Frame, Thread, Ready, Running, Done, Faulted, State, initial, main_address, new_object, fields_of}
use Rattle.state.proofs.MemoryLemmas.{get-insert_same}
use Rattle.state.proofs.Addresses.{address_total}
use Rattle.semantics.specs.Step.{Change, Nothing, FieldIs, ObjectIs, LockIs, Prints, Starts, Move, Outcome, Moves, Absent, IsDone, HadFaulted, Waits, outcome, step, moved, state_after}
use Rattle.semantics.specs.Run.{run_from, run}
use Rattle.semantics.proofs.RunLemmas.{step_numbered, initial_numbered}
use Rattle.semantics.specs.Asks.{Ask, Reads, Writes, Takes, Runs, asks_at, call_asks, act_asks, next_asks, asks}
use Rattle.reduction.specs.Guards.{AreFinal, HasFinalGuards}
use Rattle.reduction.specs.Orderly.{IsObjectAt, Refers, HasNoDanglingValue, IsFit, IsOrderly}
use Rattle.reduction.specs.Addresses.{AllRefer, IsSoundFrame, IsSoundThread, HasNoDanglingAddress}
use Rattle.reduction.specs.Parts.{on_heap, on_threads}
use Rattle.reduction.proofs.Commute.{moved_is, get_heap}
use Rattle.reduction.proofs.SoundSteps.{dropped_refer, step_out, IsSoundChange, refers_stays, all_stay, thread_stays, refers_at, all_refer, address_there, values_new}

-- Guards of a typed program lead through final fields.
leads_final : (P : Program) (c : ℕ) (xs : List ℕ) → LeadsOn P c xs → AreFinal P xs
leads_final P c [] h = tt
leads_final P c (x ∷ xs) h = (h.0, h.2, h.4, leads_final P h.1 xs h.6)

pub final_guards : (P : Program) → IsTyped P → HasFinalGuards P
final_guards P typed x f guard is has =
    let lock : IsLock P f.class [] guard = subst (λ o. IfSome o (IsLock P f.class [])) has (typed.fields x f is).guard in
    leads_final P lock.root_class guard.fields lock.fields

-- The heap after a sound change is closed.
module _ (heap : Heap) (closed : HasNoDanglingValue heap) where
  values_stay : (c : Change) (k : Address) (o : Object) → M.get heap k ≡ Some o → AllRefer (on_heap c heap) o.values
  values_stay c k o e = all_stay c heap o.values (all_refer heap o.values (closed k o e))

  same_some : {A : Type 0} (a b : A) → Some a ≡ Some b → a ≡ b
  same_some a b e = cc

  set_refer : (h : Heap) (vs : List Value) (i : ℕ) (v : Value) → AllRefer h vs → Refers h v → AllRefer h (slice_set vs i v)
  set_refer h [] i v a r = tt
  set_refer h (w ∷ vs) zero v a r = (r, a.1)
  set_refer h (w ∷ vs) (suc i) v a r = (a.0, set_refer h vs i v a.1 r)

  written_values : (a k : Address) (i : ℕ) (v : Value) → Refers heap v → (b : Bool) (o : Option Object) → M.get heap k ≡ o → (p : Object) → cond b (option_map (with_value i v) o) o ≡ Some p → AllRefer (on_heap (FieldIs a i v) heap) p.values
  written_values a k i v r true (Some o) at p e = subst (λ (z : Object). AllRefer (on_heap (FieldIs a i v) heap) z.values) (same_some _ p e) (set_refer _ o.values i v (values_stay (FieldIs a i v) k o at) (refers_stays (FieldIs a i v) heap v r))
  written_values a k i v r true None at p e = absurd cc
  written_values a k i v r false (Some o) at p e = subst (λ (z : Object). AllRefer (on_heap (FieldIs a i v) heap) z.values) (same_some _ p e) (values_stay (FieldIs a i v) k o at)
  written_values a k i v r false None at p e = absurd cc

  made_values : (a k : Address) (o : Object) → AllRefer (M.insert heap a o) o.values → (b : Bool) (old : Option Object) → M.get heap k ≡ old → (p : Object) → cond b (Some o) old ≡ Some p → AllRefer (M.insert heap a o) p.values
  made_values a k o h true old at p e = subst (λ (z : Object). AllRefer (M.insert heap a o) z.values) (same_some _ p e) h
  made_values a k o h false old at p e = values_stay (ObjectIs a o) k p (at ∙ e)

  closed_values : (c : Change) → IsSoundChange heap c → (k : Address) (p : Object) → M.get (on_heap c heap) k ≡ Some p → AllRefer (on_heap c heap) p.values
  closed_values Nothing s k p e = values_stay Nothing k p e
  closed_values (FieldIs a i v) s k p e = written_values a k i v s (eq_by_cmp address_cmp k a) (M.get heap k) refl p (sym (get_heap (FieldIs a i v) heap k) ∙ e)
  closed_values (ObjectIs a o) s k p e = made_values a k o s (eq_by_cmp address_cmp k a) (M.get heap k) refl p (sym (get_heap (ObjectIs a o) heap k) ∙ e)
  closed_values (LockIs a h) s k p e = values_stay (LockIs a h) k p e
  closed_values (Prints n) s k p e = values_stay (Prints n) k p e
  closed_values (Starts a m) s k p e = values_stay (Starts a m) k p e

  closed_after : (c : Change) → IsSoundChange heap c → HasNoDanglingValue (on_heap c heap)
  closed_after c s k p e i v at = refers_at (on_heap c heap) p.values i v (closed_values c s k p e) at

-- The threads after a sound step are sound.
module _ (Q : Thread → Type 0) where
  abbrev Each : List Thread → Type 0
  Each xs = (i : ℕ) (x : Thread) → slice_get xs i ≡ Some x → Q x

  each_set : (xs : List Thread) (t : ℕ) (y : Thread) → Each xs → Q y → Each (slice_set xs t y)
  each_set [] t y h q i x e = absurd cc
  each_set (z ∷ zs) zero y h q zero x e = let same : y ≡ x = cc in subst Q same q
  each_set (z ∷ zs) zero y h q (suc i) x e = h (suc i) x e
  each_set (z ∷ zs) (suc t) y h q zero x e = h zero x e
  each_set (z ∷ zs) (suc t) y h q (suc i) x e = each_set zs t y (λ j w at. h (suc j) w at) q i x e

  each_append : (xs : List Thread) (y : Thread) → Each xs → Q y → Each (xs ++ y ∷ [])
  each_append [] y h q zero x e = let same : y ≡ x = cc in subst Q same q
  each_append [] y h q (suc i) x e = absurd cc
  each_append (z ∷ zs) y h q zero x e = h zero x e
  each_append (z ∷ zs) y h q (suc i) x e = each_append zs y (λ j w at. h (suc j) w at) q i x e

added : (c : Change) (heap : Heap) → IsSoundChange heap c → (xs : List Thread) → ((i : ℕ) (x : Thread) → slice_get xs i ≡ Some x → IsSoundThread (on_heap c heap) x)
    → (i : ℕ) (x : Thread) → slice_get (on_threads c xs) i ≡ Some x → IsSoundThread (on_heap c heap) x
added Nothing heap s xs h = h
added (FieldIs a j v) heap s xs h = h
added (ObjectIs a o) heap s xs h = h
added (LockIs a l) heap s xs h = h
added (Prints n) heap s xs h = h
added (Starts a m) heap s xs h = each_append (IsSoundThread heap) xs (Ready a m) h s

module _ (P : Program) where
  -- a step keeps a state sound
  pub sound_moved : (q : State) (t : ℕ) (m : Move) → HasNoDanglingAddress q → outcome P q t ≡ Moves m → HasNoDanglingAddress (moved t m q)
  sound_moved q t m s e =
      let out = step_out P t q.heap q.locks s.closed (slice_get q.threads t) (s.threads t) m e in
      subst HasNoDanglingAddress (sym (moved_is t m q)) (record {
        numbered = subst (λ (z : State). Rattle.state.specs.Memory.IsNumbered z.heap) (moved_is t m q) (step_numbered P q t (moved t m q) s.numbered (ap (state_after q t) e));
        closed = closed_after q.heap s.closed m.change out.1;
        threads = added m.change q.heap out.1 (slice_set q.threads t m.thread)
            (each_set (IsSoundThread (on_heap m.change q.heap)) q.threads t m.thread (λ i x at. thread_stays m.change q.heap x (s.threads i x at)) out.0);
      })

  pub sound_step : (q r : State) (t : ℕ) → HasNoDanglingAddress q → step P q t ≡ Some r → HasNoDanglingAddress r
  sound_step q r t s e = by (outcome P q t) refl e
    where
      by : (o : Outcome) → outcome P q t ≡ o → state_after q t o ≡ Some r → HasNoDanglingAddress r
      by (Moves m) is at = let same : moved t m q ≡ r = cc in subst HasNoDanglingAddress same (sound_moved q t m s is)
      by Absent is at = absurd cc
      by IsDone is at = absurd cc
      by (HadFaulted kind) is at = absurd cc
      by (Waits a holder) is at = absurd cc

  pub sound_from : (s : List ℕ) (q r : State) → HasNoDanglingAddress q → run_from P q s ≡ Some r → HasNoDanglingAddress r
  sound_from [] q r h e = let same : q ≡ r = cc in subst HasNoDanglingAddress same h
  sound_from (t ∷ s) q r h e = by (λ next k at. sound_from s next r k at) (step P q t) refl e
    where
      by : ((next : State) → HasNoDanglingAddress next → run_from P next s ≡ Some r → HasNoDanglingAddress r) → (o : Option State) → step P q t ≡ o → option_and_then (λ next. run_from P next s) o ≡ Some r → HasNoDanglingAddress r
      by later None is at = absurd cc
      by later (Some next) is at = later next (sound_step q next t h is) at

  first_heap : Heap
  first_heap = M.insert M.empty main_address (new_object P P.main_class [])

  first_values : (k : Address) (b : Bool) (old : Option Object) → M.get {R = address_cmp} M.empty k ≡ old → (p : Object) → cond b (Some (new_object P P.main_class [])) old ≡ Some p → AllRefer (initial P).heap p.values
  first_values k true old at p e = let same : new_object P P.main_class [] ≡ p = cc in subst (λ (z : Object). AllRefer (initial P).heap z.values) same (values_new (initial P).heap P (fields_of (slice_get P.classes P.main_class)) [] tt)
  first_values k false old at p e = absurd (let c : None ≡ Some p = sym (get-empty address_cmp k) ∙ at ∙ e in cc)

  pub sound_initial : HasNoDanglingAddress (initial P)
  sound_initial = record {
    numbered = initial_numbered P;
    closed = λ k p e i v at. refers_at (initial P).heap p.values i v
        (first_values k (eq_by_cmp address_cmp k main_address) (M.get {R = address_cmp} M.empty k) refl p (sym (Rattle.std.specs.FinMap.get-insert address_total M.empty main_address (new_object P P.main_class []) k) ∙ e)) at;
    threads = λ t x e. first t x e;
  }
    where
      first : (t : ℕ) (x : Thread) → slice_get (Ready main_address P.main ∷ []) t ≡ Some x → IsSoundThread (initial P).heap x
      first zero x e = let same : Ready main_address P.main ≡ x = cc in subst (IsSoundThread (initial P).heap) same (ap is_some (get-insert_same M.empty main_address (new_object P P.main_class [])))
      first (suc t) x e = absurd cc

  -- every state that a schedule reaches is sound
  pub sound_run : (s : List ℕ) (q : State) → run P s ≡ Some q → HasNoDanglingAddress q
  sound_run s q e = sound_from s (initial P) q sound_initial e

-- What is asked in a sound state is there.
module _ (P : Program) (heap : Heap) where
  fit_at : (make : Address → Ask) → ((a : Address) → IsObjectAt heap a → IsFit heap (make a)) → (v : Value) → Refers heap v → (o : Option Address) → address_of v ≡ o → IsFit heap (asks_at make o)
  fit_at make fit v r None e = tt
  fit_at make fit v r (Some a) e = fit a (address_there heap v a r e)

  top_refers : (vs : List Value) → AllRefer heap vs → Refers heap (top vs)
  top_refers [] h = tt
  top_refers (v ∷ vs) h = h.0

  under_refer : (vs : List Value) → AllRefer heap vs → AllRefer heap (under vs)
  under_refer [] h = tt
  under_refer (v ∷ vs) h = h.1

  call_fit : (f : Frame) → IsSoundFrame heap f → (o : Option Method) → IsFit heap (call_asks f.operands o)
  call_fit f s None = tt
  call_fit f s (Some method) = fit_at Runs (λ a h. h) (top (dropped (length method.params) f.operands)) (top_refers (dropped (length method.params) f.operands) (dropped_refer heap (length method.params) f.operands s.operands)) _ refl

  ask_fit : (f : Frame) → IsSoundFrame heap f → (a : Action) → IsFit heap (act_asks P f.operands a)
  ask_fit f s (W.Push v) = tt
  ask_fit f s (W.Load x) = tt
  ask_fit f s (W.Store x) = tt
  ask_fit f s W.Drop = tt
  ask_fit f s (W.Unary op) = tt
  ask_fit f s (W.Binary op) = tt
  ask_fit f s (W.AndThen e) = tt
  ask_fit f s (W.OrElse e) = tt
  ask_fit f s (W.Choose u v) = tt
  ask_fit f s (W.Loop c u) = tt
  ask_fit f s (W.Get x) = fit_at (λ a. Reads a x) (λ a h. h) (top f.operands) (top_refers f.operands s.operands) _ refl
  ask_fit f s (W.Put x) = fit_at (λ a. Writes a x) (λ a h. h) (top (under f.operands)) (top_refers (under f.operands) (under_refer f.operands s.operands)) _ refl
  ask_fit f s (W.New c) = tt
  ask_fit f s (W.Call m) = call_fit f s (slice_get P.methods m)
  ask_fit f s (W.Acquire u) = fit_at Takes (λ a h. tt) (top f.operands) (top_refers f.operands s.operands) _ refl
  ask_fit f s (W.Release a) = tt
  ask_fit f s W.Ret = tt
  ask_fit f s W.Print = tt
  ask_fit f s W.Start = fit_at Runs (λ a h. h) (top f.operands) (top_refers f.operands s.operands) _ refl

  next_fit : (f : Frame) → IsSoundFrame heap f → (o : Option Next) → IsFit heap (next_asks P f.operands o)
  next_fit f s None = tt
  next_fit f s (Some next) = ask_fit f s next.0

  asks_fit : (o : Option Thread) → ((x : Thread) → o ≡ Some x → IsSoundThread heap x) → IsFit heap (asks P o)
  asks_fit None h = tt
  asks_fit (Some (Ready a m)) h = tt
  asks_fit (Some (Running [])) h = tt
  asks_fit (Some (Running (f ∷ below))) h = next_fit f (h (Running (f ∷ below)) refl).0 (unfolded f.work)
  asks_fit (Some Done) h = tt
  asks_fit (Some (Faulted kind frames)) h = tt

pub sound_orderly : (P : Program) (q : State) → HasNoDanglingAddress q → IsOrderly P q
sound_orderly P q s = record { numbered = s.numbered; closed = s.closed; fit = λ t. asks_fit P q.heap (slice_get q.threads t) (s.threads t) }
