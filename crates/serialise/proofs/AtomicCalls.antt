-- How a step changes the frames of its thread, and with them in how many atomic calls it stands.
use Rattle.std.proofs.Common.{◌≡◌, ◌≢◌, ℕ, zero, suc, ◌==◌, Bool, true, false, nat_lt, ◌||◌, List, [], ◌∷◌, ◌++◌, length, Some, None, refl, sym, ap, subst, ◌∙◌, arith}
use Rattle.std.proofs.lemmas.Bool.Decides.{nat_tests}
use Rattle.std.specs.Prelude.{Option, map, slice_get, slice_set, if◌then◌else◌}
use Rattle.std.specs.List.{list_any}
use Rattle.base.proofs.Lists.{set_other}
use Rattle.core_program.specs.Core.{Program, Class, Field, Method, Expr, Stmt}
use Rattle.state.specs.declared.value.Address.{Address}
use Rattle.state.specs.declared.value.Value.{Value}
use Rattle.state.specs.declared.value.Fault.{Fault}
use Rattle.state.specs.declared.value.StepKind.{StepKind}
use Rattle.state.specs.Memory.{Hold}
use Rattle.state.specs.Work as W
use Rattle.state.specs.Work.{Action, Item, Next}
use Rattle.state.specs.States.{Frame, Thread, Ready, Running, Done, Faulted, State}
use Rattle.semantics.specs.Run.{is_annotated, is_inside_some, inside}
use Rattle.semantics.specs.Step.{Shared, Change, Nothing, FieldIs, ObjectIs, LockIs, Prints, Starts, Move, Outcome, Moves, Absent, IsDone, HadFaulted, Waits, load, store, binary, and_then, or_else, choose, loop, get, get_value, put, put_value, new, call, call_on, enter, enter_some, dispatch, acquire, take, take_held, release, release_held, return_to, start, start_run, act, act_next, enter_first, turn, seen_by, outcome, moved, changed}
use Rattle.reduction.proofs.MachineSystem.{own_after}
use Rattle.serialise.specs.Calls.{frame_methods, methods_at, with_call, without_call, atomic_calls, atomic_call_depth, AreCalls, frames_seen, calls_after}
use Rattle.serialise.specs.Tables.{put_at}

-- a step leaves the methods of its thread's frames as they were, or puts one before them, or takes the first away
data Reframed (old : List ℕ) : Outcome → Type 0 where
  stays : (kind : StepKind) (x : Thread) (c : Change) → frame_methods x ≡ old → Reframed old (Moves (record { kind = kind; thread = x; change = c }))
  enters : (kind : StepKind) (x : Thread) (c : Change) (m : ℕ) → frame_methods x ≡ m ∷ old → Reframed old (Moves (record { kind = kind; thread = x; change = c }))
  leaves : (kind : StepKind) (x : Thread) (c : Change) (m : ℕ) → old ≡ m ∷ frame_methods x → Reframed old (Moves (record { kind = kind; thread = x; change = c }))
  absent : Reframed old Absent
  done : Reframed old IsDone
  faulted : (kind : Fault) → Reframed old (HadFaulted kind)
  waits : (a : Address) (holder : ℕ) → Reframed old (Waits a holder)

module _ (P : Program) (see : Shared) (t : ℕ) (f : Frame) (below : List Frame) (rest : List Item) where
  load_case : (o : Option Value) → Reframed (f.method ∷ map (λ g. g.method) below) (load P see t f below rest o)
  load_case None = stays _ _ _ refl
  load_case (Some v) = stays _ _ _ refl

  store_case : (x : ℕ) (o : Option Value) → Reframed (f.method ∷ map (λ g. g.method) below) (store P see t f below rest x o)
  store_case x None = stays _ _ _ refl
  store_case x (Some v) = stays _ _ _ refl

  binary_case : (o : Option Value) → Reframed (f.method ∷ map (λ g. g.method) below) (binary P see t f below rest o)
  binary_case None = stays _ _ _ refl
  binary_case (Some v) = stays _ _ _ refl

  and_then_case : (e : Expr) (b : Bool) → Reframed (f.method ∷ map (λ g. g.method) below) (and_then P see t f below rest e b)
  and_then_case e true = stays _ _ _ refl
  and_then_case e false = stays _ _ _ refl

  or_else_case : (e : Expr) (b : Bool) → Reframed (f.method ∷ map (λ g. g.method) below) (or_else P see t f below rest e b)
  or_else_case e true = stays _ _ _ refl
  or_else_case e false = stays _ _ _ refl

  choose_case : (s u : Stmt) (b : Bool) → Reframed (f.method ∷ map (λ g. g.method) below) (choose P see t f below rest s u b)
  choose_case s u true = stays _ _ _ refl
  choose_case s u false = stays _ _ _ refl

  loop_case : (c : Expr) (s : Stmt) (b : Bool) → Reframed (f.method ∷ map (λ g. g.method) below) (loop P see t f below rest c s b)
  loop_case c s true = stays _ _ _ refl
  loop_case c s false = stays _ _ _ refl

  get_value_case : (a : Address) (field : Option Field) (o : Option Value) → Reframed (f.method ∷ map (λ g. g.method) below) (get_value P see t f below rest a field o)
  get_value_case a field None = stays _ _ _ refl
  get_value_case a field (Some v) = stays _ _ _ refl

  get_case : (x : ℕ) (o : Option Address) → Reframed (f.method ∷ map (λ g. g.method) below) (get P see t f below rest x o)
  get_case x None = stays _ _ _ refl
  get_case x (Some a) = get_value_case a _ _

  put_value_case : (a : Address) (field : Option Field) (o : Option Value) → Reframed (f.method ∷ map (λ g. g.method) below) (put_value P see t f below rest a field o)
  put_value_case a field None = stays _ _ _ refl
  put_value_case a field (Some v) = stays _ _ _ refl

  put_case : (x : ℕ) (o : Option Address) → Reframed (f.method ∷ map (λ g. g.method) below) (put P see t f below rest x o)
  put_case x None = stays _ _ _ refl
  put_case x (Some a) = put_value_case a _ _

  new_case : (c : ℕ) (o : Option Class) → Reframed (f.method ∷ map (λ g. g.method) below) (new P see t f below rest c o)
  new_case c None = stays _ _ _ refl
  new_case c (Some class) = stays _ _ _ refl

  enter_case : (arity m : ℕ) (method : Method) (a : Address) (b : Bool) → Reframed (f.method ∷ map (λ g. g.method) below) (enter P see t f below rest arity m method a b)
  enter_case arity m method a false = stays _ _ _ refl
  enter_case arity m method a true = enters _ _ _ m refl

  enter_some_case : (arity m : ℕ) (o : Option Method) (a : Address) → Reframed (f.method ∷ map (λ g. g.method) below) (enter_some P see t f below rest arity m o a)
  enter_some_case arity m None a = stays _ _ _ refl
  enter_some_case arity m (Some method) a = enter_case arity m method a _

  dispatch_case : (arity : ℕ) (o : Option ℕ) (a : Address) → Reframed (f.method ∷ map (λ g. g.method) below) (dispatch P see t f below rest arity o a)
  dispatch_case arity None a = stays _ _ _ refl
  dispatch_case arity (Some m) a = enter_some_case arity m (slice_get P.methods m) a

  call_on_case : (arity m : ℕ) (o : Option Address) → Reframed (f.method ∷ map (λ g. g.method) below) (call_on P see t f below rest arity m o)
  call_on_case arity m None = stays _ _ _ refl
  call_on_case arity m (Some a) = dispatch_case arity _ a

  call_case : (m : ℕ) (o : Option Method) → Reframed (f.method ∷ map (λ g. g.method) below) (call P see t f below rest m o)
  call_case m None = stays _ _ _ refl
  call_case m (Some method) = call_on_case (length method.params) m _

  release_held_case : (a : Address) (hold : Hold) (b : Bool) → Reframed (f.method ∷ map (λ g. g.method) below) (release_held P see t f below rest a hold b)
  release_held_case a hold false = stays _ _ _ refl
  release_held_case a hold true = stays _ _ _ refl

  release_case : (a : Address) (o : Option Hold) → Reframed (f.method ∷ map (λ g. g.method) below) (release P see t f below rest a o)
  release_case a None = stays _ _ _ refl
  release_case a (Some hold) = release_held_case a hold _

  return_case : (frames : List Frame) → Reframed (f.method ∷ map (λ g. g.method) frames) (return_to P see t f frames rest frames)
  return_case [] = leaves _ _ _ f.method refl
  return_case (g ∷ more) = leaves _ _ _ f.method refl

  start_run_case : (a : Address) (o : Option ℕ) → Reframed (f.method ∷ map (λ g. g.method) below) (start_run P see t f below rest a o)
  start_run_case a None = stays _ _ _ refl
  start_run_case a (Some m) = stays _ _ _ refl

  start_case : (o : Option Address) → Reframed (f.method ∷ map (λ g. g.method) below) (start P see t f below rest o)
  start_case None = stays _ _ _ refl
  start_case (Some a) = start_run_case a _

  take_held_case : (s : Stmt) (a : Address) (hold : Hold) (b : Bool) → Reframed (f.method ∷ map (λ g. g.method) below) (take_held P see t f below rest s a hold b)
  take_held_case s a hold true = stays _ _ _ refl
  take_held_case s a hold false = waits a hold.holder

  take_case : (s : Stmt) (a : Address) (o : Option Hold) → Reframed (f.method ∷ map (λ g. g.method) below) (take P see t f below rest s a o)
  take_case s a None = stays _ _ _ refl
  take_case s a (Some hold) = take_held_case s a hold _

  acquire_case : (s : Stmt) (o : Option Address) → Reframed (f.method ∷ map (λ g. g.method) below) (acquire P see t f below rest s o)
  acquire_case s None = stays _ _ _ refl
  acquire_case s (Some a) = take_case s a _

  act_case : (a : Action) → Reframed (f.method ∷ map (λ g. g.method) below) (act P see t f below rest a)
  act_case (W.Push v) = stays _ _ _ refl
  act_case (W.Load x) = load_case _
  act_case (W.Store x) = store_case x _
  act_case W.Drop = stays _ _ _ refl
  act_case (W.Unary op) = stays _ _ _ refl
  act_case (W.Binary op) = binary_case _
  act_case (W.AndThen e) = and_then_case e _
  act_case (W.OrElse e) = or_else_case e _
  act_case (W.Choose s u) = choose_case s u _
  act_case (W.Loop c s) = loop_case c s _
  act_case (W.Get x) = get_case x _
  act_case (W.Put x) = put_case x _
  act_case (W.New c) = new_case c _
  act_case (W.Call m) = call_case m (slice_get P.methods m)
  act_case (W.Acquire s) = acquire_case s _
  act_case (W.Release a) = release_case a _
  act_case W.Ret = return_case below
  act_case W.Print = stays _ _ _ refl
  act_case W.Start = start_case _

module _ (P : Program) (see : Shared) (t : ℕ) where
  next_case : (f : Frame) (below : List Frame) (o : Option Next) → Reframed (f.method ∷ map (λ g. g.method) below) (act_next P see t f below o)
  next_case f below None = stays _ _ _ refl
  next_case f below (Some (a, rest)) = act_case P see t f below rest a

  first_case : (a : Address) (m : ℕ) (o : Option Method) → Reframed [] (enter_first P see t a m o)
  first_case a m None = stays _ _ _ refl
  first_case a m (Some method) = enters _ _ _ m refl

  turn_case : (o : Option Thread) → Reframed (methods_at o) (turn P see t o)
  turn_case None = absent
  turn_case (Some Done) = done
  turn_case (Some (Faulted kind frames)) = faulted kind
  turn_case (Some (Ready a m)) = first_case a m _
  turn_case (Some (Running [])) = stays _ _ _ refl
  turn_case (Some (Running (f ∷ below))) = next_case f below _

-- The count of calls follows.

module _ (P : Program) where
  less_itself : (n : ℕ) → nat_lt n n ≡ false
  less_itself n = grind (arith, nat_tests)

  less_next : (n : ℕ) → nat_lt n (suc n) ≡ true
  less_next n = grind (arith, nat_tests)

  next_less : (n : ℕ) → nat_lt (suc n) n ≡ false
  next_less n = grind (arith, nat_tests)

  taken_off : (b : Bool) (n : ℕ) → without_call b (with_call b n) ≡ n
  taken_off true n = omega arith
  taken_off false n = refl

  calls_stay : (ms : List ℕ) (n : ℕ) → calls_after P (frames_seen ms) (frames_seen ms) n ≡ n
  calls_stay ms n = rw (less_itself (length ms)) refl

  calls_enter : (m : ℕ) (ms : List ℕ) → calls_after P (frames_seen ms) (frames_seen (m ∷ ms)) (atomic_calls P ms) ≡ atomic_calls P (m ∷ ms)
  calls_enter m ms = rw (less_next (length ms)) refl

  calls_leave : (m : ℕ) (ms : List ℕ) → calls_after P (frames_seen (m ∷ ms)) (frames_seen ms) (atomic_calls P (m ∷ ms)) ≡ atomic_calls P ms
  calls_leave m ms = rw (next_less (length ms), less_next (length ms)) (taken_off (is_annotated (slice_get P.methods m)) (atomic_calls P ms))

  follows : (old : List ℕ) (o : Outcome) (move : Move) → Reframed old o → o ≡ Moves move → calls_after P (frames_seen old) (frames_seen (frame_methods move.thread)) (atomic_calls P old) ≡ atomic_calls P (frame_methods move.thread)
  follows old _ move (stays kind x c is) e =
      let same : x ≡ move.thread = cc in
      subst (λ y. calls_after P (frames_seen old) (frames_seen (frame_methods y)) (atomic_calls P old) ≡ atomic_calls P (frame_methods y)) same
      (subst (λ ms. calls_after P (frames_seen old) (frames_seen ms) (atomic_calls P old) ≡ atomic_calls P ms) (sym is) (calls_stay old (atomic_calls P old)))
  follows old _ move (enters kind x c m is) e =
      let same : x ≡ move.thread = cc in
      subst (λ y. calls_after P (frames_seen old) (frames_seen (frame_methods y)) (atomic_calls P old) ≡ atomic_calls P (frame_methods y)) same
      (subst (λ ms. calls_after P (frames_seen old) (frames_seen ms) (atomic_calls P old) ≡ atomic_calls P ms) (sym is) (calls_enter m old))
  follows old _ move (leaves kind x c m is) e =
      let same : x ≡ move.thread = cc in
      subst (λ y. calls_after P (frames_seen old) (frames_seen (frame_methods y)) (atomic_calls P old) ≡ atomic_calls P (frame_methods y)) same
      (subst (λ ms. calls_after P (frames_seen ms) (frames_seen (frame_methods x)) (atomic_calls P ms) ≡ atomic_calls P (frame_methods x)) (sym is) (calls_leave m (frame_methods x)))
  follows old _ move absent e = absurd cc
  follows old _ move done e = absurd cc
  follows old _ move (faulted kind) e = absurd cc
  follows old _ move (waits a holder) e = absurd cc

  -- of the thread that steps
  own_calls : (q : State) (t : ℕ) (move : Move) → outcome P q t ≡ Moves move
      → calls_after P (frames_seen (methods_at (slice_get q.threads t))) (frames_seen (methods_at (slice_get (moved t move q).threads t))) (atomic_call_depth P q t) ≡ atomic_call_depth P (moved t move q) t
  own_calls q t move is =
      subst (λ o. calls_after P (frames_seen (methods_at (slice_get q.threads t))) (frames_seen (methods_at o)) (atomic_call_depth P q t) ≡ atomic_calls P (methods_at o)) (sym (own_after P q t move is))
      (follows (methods_at (slice_get q.threads t)) (outcome P q t) move (turn_case P (seen_by t q) t (slice_get q.threads t)) is)

  -- of another thread
  one_more : (threads : List Thread) (a : Address) (m u : ℕ) → methods_at (slice_get (threads ++ Ready a m ∷ []) u) ≡ methods_at (slice_get threads u)
  one_more [] a m zero = refl
  one_more [] a m (suc u) = refl
  one_more (x ∷ threads) a m zero = refl
  one_more (x ∷ threads) a m (suc u) = one_more threads a m u

  methods_kept : (c : Change) (q : State) (u : ℕ) → methods_at (slice_get (changed c q).threads u) ≡ methods_at (slice_get q.threads u)
  methods_kept Nothing q u = refl
  methods_kept (FieldIs a index v) q u = refl
  methods_kept (ObjectIs a o) q u = refl
  methods_kept (LockIs a hold) q u = refl
  methods_kept (Prints n) q u = refl
  methods_kept (Starts a m) q u = one_more q.threads a m u

  other_calls : (q : State) (t u : ℕ) (move : Move) → u ≢ t → atomic_call_depth P (moved t move q) u ≡ atomic_call_depth P q u
  other_calls q t u move other = ap (atomic_calls P) (methods_kept move.change (record q { threads = slice_set q.threads t move.thread }) u ∙ ap methods_at (set_other q.threads t u move.thread other))

  same_number : (a b : ℕ) → (a == b) ≡ true → b ≡ a
  same_number a b e = grind (arith, nat_tests)

  other_number : (a b : ℕ) → (a == b) ≡ false → b ≢ a
  other_number a b e = grind (arith, nat_tests)

  -- the numbers after a step, where they were noted
  pub calls_moved : (q : State) (t : ℕ) (move : Move) → outcome P q t ≡ Moves move → (old new : ℕ → ℕ) → AreCalls P q old
      → ((u : ℕ) → new u ≡ put_at old t (calls_after P (frames_seen (methods_at (slice_get q.threads t))) (frames_seen (methods_at (slice_get (moved t move q).threads t))) (old t)) u)
      → AreCalls P (moved t move q) new
  calls_moved q t move is old new are noted u = noted u ∙ by (t == u) refl
    where
      now : ℕ
      now = calls_after P (frames_seen (methods_at (slice_get q.threads t))) (frames_seen (methods_at (slice_get (moved t move q).threads t))) (old t)

      by : (b : Bool) → (t == u) ≡ b → (if b then now else old u) ≡ atomic_call_depth P (moved t move q) u
      by true e =
          ap (calls_after P (frames_seen (methods_at (slice_get q.threads t))) (frames_seen (methods_at (slice_get (moved t move q).threads t)))) (are t) ∙ own_calls q t move is
          ∙ ap (atomic_call_depth P (moved t move q)) (sym (same_number t u e))
      by false e = are u ∙ sym (other_calls q t u move (other_number t u e))

  some_call : (b rest : Bool) (n : ℕ) → rest ≡ nat_lt 0 n → (b || rest) ≡ nat_lt 0 (with_call b n)
  some_call true rest n is = grind (arith, nat_tests)
  some_call false rest n is = is

  any_call : (fs : List Frame) → list_any (λ f. is_annotated (slice_get P.methods f.method)) fs ≡ nat_lt 0 (atomic_calls P (map (λ f. f.method) fs))
  any_call [] = refl
  any_call (f ∷ fs) = some_call (is_annotated (slice_get P.methods f.method)) (list_any (λ f. is_annotated (slice_get P.methods f.method)) fs) (atomic_calls P (map (λ f. f.method) fs)) (any_call fs)

  inside_thread : (o : Option Thread) → is_inside_some P o ≡ nat_lt 0 (atomic_calls P (methods_at o))
  inside_thread None = refl
  inside_thread (Some (Ready a m)) = refl
  inside_thread (Some (Running fs)) = any_call fs
  inside_thread (Some Done) = refl
  inside_thread (Some (Faulted kind fs)) = any_call fs

  -- a thread stands inside where it stands in some call
  pub inside_is : (q : State) (t : ℕ) → inside P q t ≡ nat_lt 0 (atomic_call_depth P q t)
  inside_is q t = inside_thread (slice_get q.threads t)
