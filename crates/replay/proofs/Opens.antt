-- The step that begins an outermost atomic call, and what is printed along steps.
use Rattle.std.proofs.Common.{◌≡◌, ℕ, suc, Bool, true, false, ◌||◌, List, [], ◌∷◌, ◌++◌, Some, None, refl, sym, ap, subst, ◌∙◌, arith, append-nil, append_assoc}
use Rattle.std.specs.Prelude.{ℤ, Option, length, nat_lt, slice_get, slice_set}
use Rattle.std.specs.List.{list_any}
use Rattle.std.specs.FinMap as M
use Rattle.std.proofs.lemmas.Option.{none-some, same_Some}
use Rattle.std.proofs.lemmas.Bool.{or_parts}
use Rattle.core_program.specs.Core.{Program, Class, Field, Method, Expr, Stmt}
use Rattle.state.specs.declared.value.Address.{Address}
use Rattle.state.specs.declared.value.Value.{Value}
use Rattle.state.specs.declared.value.Value.TheVariants as value
use Rattle.state.specs.Values.{top, under, popped, dropped, address_of}
use Rattle.state.specs.Memory.{Hold}
use Rattle.state.specs.Work as W
use Rattle.state.specs.Work.{Action, Item, Next, unfolded}
use Rattle.state.specs.States.{Frame, Thread, Ready, Running, Done, Faulted, State, new_frame}
use Rattle.semantics.specs.Step.{Change, Nothing, FieldIs, ObjectIs, LockIs, Prints, Starts, Move, Outcome, Moves, Absent, IsDone, HadFaulted, Waits, seen_by, most_frames, object_class, target_at}
use Rattle.semantics.specs.Step.{load, store, binary, and_then, or_else, choose, loop, get, get_value, put, put_value, new, call, call_on, enter, enter_some, dispatch, acquire, take, take_held, release, release_held, return_to, start, start_run, act, act_next, enter_first, turn, outcome, step, state_after, changed}
use Rattle.semantics.specs.Run.{is_annotated, is_inside, inside}
use Rattle.replay.specs.Plain.{plain_of}
use Rattle.replay.specs.Calls.{Asked, asked_target, asked_on, asked_call, asked_next, asked_by, IsReady, depth}

-- whether some of these frames is one of an annotated method
abbrev pub some_annotated : Program → List Frame → Bool
some_annotated P fs = list_any (λ f. is_annotated (slice_get P.methods f.method)) fs

-- the step enters an annotated method, by a call or as the thread's first method
pub record Opening (P : Program) (q : State) (thread : Option Thread) (move : Move) : Type 0 where
  pub asked : Asked
  pub is : asked_by P (plain_of q) thread ≡ Some asked
  pub method : Method
  pub there : slice_get P.methods asked.method ≡ Some method
  pub base : List Frame
  pub enters : move.thread ≡ Running (new_frame asked.method method (value.Ref asked.on) asked.arguments ∷ base)
  pub nothing : move.change ≡ Nothing
  pub frames : length base ≡ depth thread
  pub outside : some_annotated P base ≡ false
  pub ready : IsReady thread → base ≡ []
  pub first : base ≡ [] → (a : Address) × (m : ℕ) × (thread ≡ Some (Ready a m)) × (m ≡ asked.method)

module _ (P : Program) (q : State) (t : ℕ) where
  -- an outcome that lets the thread stand inside is an opening
  abbrev Opens : Option Thread → Outcome → Type 0
  Opens thread (Moves move) = is_inside P move.thread ≡ true → Opening P q thread move
  Opens thread Absent = Unit {0}
  Opens thread IsDone = Unit {0}
  Opens thread (HadFaulted kind) = Unit {0}
  Opens thread (Waits a holder) = Unit {0}

  module _ (f : Frame) (below : List Frame) (rest : List Item) (out : some_annotated P (f ∷ below) ≡ false) where
    abbrev It : Option Thread
    It = Some (Running (f ∷ below))

    not_both : some_annotated P (f ∷ below) ≡ true → ⊥
    not_both e = let k : true ≡ false = sym e ∙ out in absurd cc

    -- of a step that stays in the frame
    stays : (move : Move) → is_inside P move.thread ≡ some_annotated P (f ∷ below) → Opens It (Moves move)
    stays move same e = absurd (not_both (sym same ∙ e))

    load_opens : (o : Option Value) → Opens It (load P (seen_by t q) t f below rest o)
    load_opens None = stays _ refl
    load_opens (Some v) = stays _ refl

    store_opens : (x : ℕ) (o : Option Value) → Opens It (store P (seen_by t q) t f below rest x o)
    store_opens x None = stays _ refl
    store_opens x (Some v) = stays _ refl

    binary_opens : (o : Option Value) → Opens It (binary P (seen_by t q) t f below rest o)
    binary_opens None = stays _ refl
    binary_opens (Some v) = stays _ refl

    and_opens : (e : Expr) (b : Bool) → Opens It (and_then P (seen_by t q) t f below rest e b)
    and_opens e true = stays _ refl
    and_opens e false = stays _ refl

    or_opens : (e : Expr) (b : Bool) → Opens It (or_else P (seen_by t q) t f below rest e b)
    or_opens e true = stays _ refl
    or_opens e false = stays _ refl

    choose_opens : (s u : Stmt) (b : Bool) → Opens It (choose P (seen_by t q) t f below rest s u b)
    choose_opens s u true = stays _ refl
    choose_opens s u false = stays _ refl

    loop_opens : (c : Expr) (s : Stmt) (b : Bool) → Opens It (loop P (seen_by t q) t f below rest c s b)
    loop_opens c s true = stays _ refl
    loop_opens c s false = stays _ refl

    get_value_opens : (a : Address) (field : Option Field) (o : Option Value) → Opens It (get_value P (seen_by t q) t f below rest a field o)
    get_value_opens a field None = stays _ refl
    get_value_opens a field (Some v) = stays _ refl

    get_opens : (x : ℕ) (o : Option Address) → Opens It (get P (seen_by t q) t f below rest x o)
    get_opens x None = stays _ refl
    get_opens x (Some a) = get_value_opens a _ _

    put_value_opens : (a : Address) (field : Option Field) (o : Option Value) → Opens It (put_value P (seen_by t q) t f below rest a field o)
    put_value_opens a field None = stays _ refl
    put_value_opens a field (Some v) = stays _ refl

    put_opens : (x : ℕ) (o : Option Address) → Opens It (put P (seen_by t q) t f below rest x o)
    put_opens x None = stays _ refl
    put_opens x (Some a) = put_value_opens a _ _

    new_opens : (c : ℕ) (o : Option Class) → Opens It (new P (seen_by t q) t f below rest c o)
    new_opens c None = stays _ refl
    new_opens c (Some class) = stays _ refl

    release_held_opens : (a : Address) (hold : Hold) (b : Bool) → Opens It (release_held P (seen_by t q) t f below rest a hold b)
    release_held_opens a hold false = stays _ refl
    release_held_opens a hold true = stays _ refl

    release_opens : (a : Address) (o : Option Hold) → Opens It (release P (seen_by t q) t f below rest a o)
    release_opens a None = stays _ refl
    release_opens a (Some hold) = release_held_opens a hold _

    take_held_opens : (s : Stmt) (a : Address) (hold : Hold) (b : Bool) → Opens It (take_held P (seen_by t q) t f below rest s a hold b)
    take_held_opens s a hold true = stays _ refl
    take_held_opens s a hold false = tt

    take_opens : (s : Stmt) (a : Address) (o : Option Hold) → Opens It (take P (seen_by t q) t f below rest s a o)
    take_opens s a None = stays _ refl
    take_opens s a (Some hold) = take_held_opens s a hold _

    acquire_opens : (s : Stmt) (o : Option Address) → Opens It (acquire P (seen_by t q) t f below rest s o)
    acquire_opens s None = stays _ refl
    acquire_opens s (Some a) = take_opens s a _

    start_run_opens : (a : Address) (o : Option ℕ) → Opens It (start_run P (seen_by t q) t f below rest a o)
    start_run_opens a None = stays _ refl
    start_run_opens a (Some m) = stays _ refl

    start_opens : (o : Option Address) → Opens It (start P (seen_by t q) t f below rest o)
    start_opens None = stays _ refl
    start_opens (Some a) = start_run_opens a _

    -- frames below are outside too
    below_outside : (x b : Bool) → (x || b) ≡ false → b ≡ true → ⊥
    below_outside x b e is = let p = or_parts x b e in let k : true ≡ false = sym is ∙ p.1 in absurd cc

    return_opens : (below2 : List Frame) → below2 ≡ below → Opens It (return_to P (seen_by t q) t f below rest below2)
    return_opens [] same = λ e. absurd (let k : false ≡ true = e in cc)
    return_opens (g ∷ more) same = λ e. absurd (below_outside (is_annotated (slice_get P.methods f.method)) (some_annotated P below) out (sym (ap (some_annotated P) same) ∙ e))

    -- a call
    module _ (m2 : ℕ) (called : Method) (calls : unfolded f.work ≡ Some (W.Call m2, rest)) (is_called : slice_get P.methods m2 ≡ Some called) where
      enter_opens : (r : ℕ) (method : Method) (a : Address) → address_of (top (dropped (length called.params) f.operands)) ≡ Some a → target_at P m2 (object_class (M.get q.heap a)) ≡ Some r → slice_get P.methods r ≡ Some method
          → (b : Bool) → Opens It (enter P (seen_by t q) t f below rest (length called.params) r method a b)
      enter_opens r method a receiver target runs false = stays _ refl
      enter_opens r method a receiver target runs true = λ e. record {
        asked = record { on = a; method = r; arguments = popped (length called.params) [] f.operands };
        is = ap (asked_next P (plain_of q) f.operands) calls
            ∙ ap (asked_call P (plain_of q) m2 f.operands) is_called
            ∙ ap (asked_on P (plain_of q) m2 (popped (length called.params) [] f.operands)) receiver
            ∙ ap (asked_target a (popped (length called.params) [] f.operands)) target;
        method = method;
        there = runs;
        base = record f { operands = under (dropped (length called.params) f.operands); work = rest } ∷ below;
        enters = refl;
        nothing = refl;
        frames = refl;
        outside = out;
        ready = λ r. absurd r;
        first = λ none. absurd (let k : suc (length below) ≡ 0 = ap length none in omega (arith, k));
      }

      some_opens : (r : ℕ) (a : Address) → address_of (top (dropped (length called.params) f.operands)) ≡ Some a → target_at P m2 (object_class (M.get q.heap a)) ≡ Some r
          → (o : Option Method) → slice_get P.methods r ≡ o → Opens It (enter_some P (seen_by t q) t f below rest (length called.params) r o a)
      some_opens r a receiver target None is = stays _ refl
      some_opens r a receiver target (Some method) is = enter_opens r method a receiver target is (nat_lt (length (f ∷ below)) most_frames)

      dispatch_opens : (a : Address) → address_of (top (dropped (length called.params) f.operands)) ≡ Some a → (o : Option ℕ) → target_at P m2 (object_class (M.get q.heap a)) ≡ o
          → Opens It (dispatch P (seen_by t q) t f below rest (length called.params) o a)
      dispatch_opens a receiver None is = stays _ refl
      dispatch_opens a receiver (Some r) is = some_opens r a receiver is (slice_get P.methods r) refl

      call_on_opens : (o : Option Address) → address_of (top (dropped (length called.params) f.operands)) ≡ o → Opens It (call_on P (seen_by t q) t f below rest (length called.params) m2 o)
      call_on_opens None is = stays _ refl
      call_on_opens (Some a) is = dispatch_opens a is (target_at P m2 (object_class (M.get q.heap a))) refl

    call_opens : (m2 : ℕ) → unfolded f.work ≡ Some (W.Call m2, rest) → (o : Option Method) → slice_get P.methods m2 ≡ o → Opens It (call P (seen_by t q) t f below rest m2 o)
    call_opens m2 calls None is = stays _ refl
    call_opens m2 calls (Some called) is = call_on_opens m2 called calls is _ refl

    act_opens : (a : Action) → unfolded f.work ≡ Some (a, rest) → Opens It (act P (seen_by t q) t f below rest a)
    act_opens (W.Push v) e = stays _ refl
    act_opens (W.Load x) e = load_opens _
    act_opens (W.Store x) e = store_opens x _
    act_opens W.Drop e = stays _ refl
    act_opens (W.Unary op) e = stays _ refl
    act_opens (W.Binary op) e = binary_opens _
    act_opens (W.AndThen x) e = and_opens x _
    act_opens (W.OrElse x) e = or_opens x _
    act_opens (W.Choose s u) e = choose_opens s u _
    act_opens (W.Loop c s) e = loop_opens c s _
    act_opens (W.Get x) e = get_opens x _
    act_opens (W.Put x) e = put_opens x _
    act_opens (W.New c) e = new_opens c _
    act_opens (W.Call m2) e = call_opens m2 e (slice_get P.methods m2) refl
    act_opens (W.Acquire s) e = acquire_opens s _
    act_opens (W.Release a) e = release_opens a _
    act_opens W.Ret e = return_opens below refl
    act_opens W.Print e = stays _ refl
    act_opens W.Start e = start_opens _

  next_opens : (f : Frame) (below : List Frame) → some_annotated P (f ∷ below) ≡ false → (o : Option Next) → unfolded f.work ≡ o → Opens (Some (Running (f ∷ below))) (act_next P (seen_by t q) t f below o)
  next_opens f below out None e = stays f below [] out _ refl
  next_opens f below out (Some (a, rest)) e = act_opens f below rest out a e

  first_opens : (a : Address) (m : ℕ) (o : Option Method) → slice_get P.methods m ≡ o → Opens (Some (Ready a m)) (enter_first P (seen_by t q) t a m o)
  first_opens a m None is = λ e. absurd (let k : false ≡ true = e in cc)
  first_opens a m (Some method) is = λ e. record {
    asked = record { on = a; method = m; arguments = [] };
    is = refl;
    method = method;
    there = is;
    base = [];
    enters = refl;
    nothing = refl;
    frames = refl;
    outside = refl;
    ready = λ r. refl;
    first = λ none. (a, m, refl, refl);
  }

  turn_opens : (o : Option Thread) → Rattle.semantics.specs.Run.is_inside_some P o ≡ false → Opens o (turn P (seen_by t q) t o)
  turn_opens None out = tt
  turn_opens (Some Done) out = tt
  turn_opens (Some (Faulted kind frames)) out = tt
  turn_opens (Some (Ready a m)) out = first_opens a m (slice_get P.methods m) refl
  turn_opens (Some (Running [])) out = λ e. absurd (let k : false ≡ true = e in cc)
  turn_opens (Some (Running (f ∷ below))) out = next_opens f below out (unfolded f.work) refl

  pub opening : (move : Move) → inside P q t ≡ false → outcome P q t ≡ Moves move → is_inside P move.thread ≡ true → Opening P q (slice_get q.threads t) move
  opening move out e ins = subst (Opens (slice_get q.threads t)) e (turn_opens (slice_get q.threads t) out) ins

-- Prints.

printed_by : (c : Change) (q : State) → (ns : List ℤ) × ((changed c q).output ≡ q.output ++ ns)
printed_by Nothing q = ([], sym (append-nil q.output))
printed_by (FieldIs a index v) q = ([], sym (append-nil q.output))
printed_by (ObjectIs a o) q = ([], sym (append-nil q.output))
printed_by (LockIs a hold) q = ([], sym (append-nil q.output))
printed_by (Prints n) q = (n ∷ [], refl)
printed_by (Starts a m) q = ([], sym (append-nil q.output))

pub step_prints : (P : Program) (q r : State) (t : ℕ) → step P q t ≡ Some r → (ns : List ℤ) × (r.output ≡ q.output ++ ns)
step_prints P q r t e =
    elim (outcome P q t) as (λ o. state_after q t o ≡ Some r → (ns : List ℤ) × (r.output ≡ q.output ++ ns)) [
      | Moves move ↦ λ is. let p = printed_by move.change (record q { threads = slice_set q.threads t move.thread }) in (p.0, ap (λ (x : State). x.output) (sym (same_Some _ r is)) ∙ p.1)
      | Absent ↦ λ is. absurd (none-some r is)
      | IsDone ↦ λ is. absurd (none-some r is)
      | HadFaulted kind ↦ λ is. absurd (none-some r is)
      | Waits a holder ↦ λ is. absurd (none-some r is)
    ] e

pub more_prints : (q mid r : State) → ((ns : List ℤ) × (mid.output ≡ q.output ++ ns)) → ((ns : List ℤ) × (r.output ≡ mid.output ++ ns)) → (ns : List ℤ) × (r.output ≡ q.output ++ ns)
more_prints q mid r (ns, is) (ms, are) = (ns ++ ms, are ∙ ap (λ o. o ++ ms) is ∙ append_assoc q.output ns ms)
