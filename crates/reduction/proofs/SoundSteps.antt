-- A step brings no address that dangles.
use Rattle.std.proofs.Common.{◌≡◌, ℕ, zero, suc, ◌-◌, Bool, true, false, List, [], ◌∷◌, ◌++◌, length, refl, ap, subst, ◌∙◌, Some, None, ℤ, pos}
use Rattle.std.specs.Prelude.{Option, is_some, slice_get, slice_set, cond, option_map, replicate, if◌then◌else◌}
use Rattle.std.specs.FinMap as M
use Rattle.std.specs.Ordering.{eq_by_cmp, int_eq}
use Rattle.core_program.specs.declared.types.CoreOp.{CoreOp}
use Rattle.core_program.specs.declared.types.CoreOp.TheVariants.{Eq, Ne, Lt, Le, Gt, Ge, Add, Sub, Mul, Div, Rem}
use Rattle.core_program.specs.declared.types.UnaryOp.{UnaryOp}
use Rattle.core_program.specs.declared.types.UnaryOp.TheVariants.{Not, Neg}
use Rattle.core_program.specs.declared.types.CoreType.{CoreType}
use Rattle.core_program.specs.declared.types.CoreType.TheVariants as type
use Rattle.core_program.specs.Core.{Program, Class, Field, Method, Expr, Stmt, WhileS}
use Rattle.state.specs.declared.value.Address.{Address}
use Rattle.state.specs.declared.value.Value.{Value}
use Rattle.state.specs.declared.value.Value.TheVariants as value
use Rattle.state.specs.declared.value.StepKind.{StepKind}
use Rattle.state.specs.Values.{top, under, popped, dropped, as_truth, as_int, address_of, default_value, unary_value, binary_value}
use Rattle.state.specs.Memory.{Object, Hold, Heap, Locks, address_cmp, next_address, lists, field_value, value_in, with_value, new_value, new_values, left_after}
use Rattle.state.specs.Work as W
use Rattle.state.specs.Work.{Action, Item, Ex, St, Act, Next, unfolded}
use Rattle.state.specs.States.{Frame, Thread, Ready, Running, Done, Faulted, new_frame, new_slots, new_object, fields_of}
use Rattle.state.proofs.MemoryLemmas.{get-insert_same}
use Rattle.semantics.specs.Step.{Change, Nothing, FieldIs, ObjectIs, LockIs, Prints, Starts, Move, Outcome, Moves, Absent, IsDone, HadFaulted, Waits, index_of, with_result, has_result, class_finals, goes_on, load, store, binary, and_then, or_else, choose, loop, get, get_value, put, put_value, new, call, call_on, enter, enter_some, dispatch, acquire, take, take_held, release, release_held, return_to, start, start_run, act, act_next, enter_first, turn}
use Rattle.reduction.specs.Orderly.{see_in, IsObjectAt, Refers, HasNoDanglingValue}
use Rattle.reduction.specs.Addresses.{AllRefer, IsSoundAction, AreSoundItems, IsSoundFrame, AreSoundFrames, IsSoundThread}
use Rattle.reduction.specs.Parts.{on_heap}
use Rattle.reduction.proofs.Commute.{get_heap}
use Rattle.reduction.proofs.Opened.{SoundSome, unfolded_sound}

-- Later heaps.

there_after : (c : Change) (a k : Address) (i : ℕ) (v : Value) (b : Bool) (o : Option Object) → is_some o ≡ true → is_some (cond b (option_map (with_value i v) o) o) ≡ true
there_after c a k i v true (Some o) e = refl
there_after c a k i v true None e = absurd cc
there_after c a k i v false o e = e

made_after : (b : Bool) (p : Object) (o : Option Object) → is_some o ≡ true → is_some (cond b (Some p) o) ≡ true
made_after true p o e = refl
made_after false p o e = e

object_after : (c : Change) (k : Address) (o : Option Object) → is_some o ≡ true → is_some (Rattle.reduction.specs.Parts.on_object c k o) ≡ true
object_after Nothing k o e = e
object_after (FieldIs a i v) k o e = there_after Nothing a k i v (eq_by_cmp address_cmp k a) o e
object_after (ObjectIs a p) k o e = made_after (eq_by_cmp address_cmp k a) p o e
object_after (LockIs a h) k o e = e
object_after (Prints n) k o e = e
object_after (Starts a m) k o e = e

pub there_stays : (c : Change) (heap : Heap) (k : Address) → IsObjectAt heap k → IsObjectAt (on_heap c heap) k
there_stays c heap k e = ap is_some (get_heap c heap k) ∙ object_after c k (M.get heap k) e

pub refers_stays : (c : Change) (heap : Heap) (v : Value) → Refers heap v → Refers (on_heap c heap) v
refers_stays c heap (value.Int n) h = tt
refers_stays c heap (value.Truth b) h = tt
refers_stays c heap value.Null h = tt
refers_stays c heap (value.Ref a) h = there_stays c heap a h

pub all_stay : (c : Change) (heap : Heap) (vs : List Value) → AllRefer heap vs → AllRefer (on_heap c heap) vs
all_stay c heap [] h = tt
all_stay c heap (v ∷ vs) h = (refers_stays c heap v h.0, all_stay c heap vs h.1)

action_stays : (c : Change) (heap : Heap) (a : Action) → IsSoundAction heap a → IsSoundAction (on_heap c heap) a
action_stays c heap (W.Push v) h = refers_stays c heap v h
action_stays c heap (W.Load x) h = tt
action_stays c heap (W.Store x) h = tt
action_stays c heap W.Drop h = tt
action_stays c heap (W.Unary op) h = tt
action_stays c heap (W.Binary op) h = tt
action_stays c heap (W.AndThen e) h = tt
action_stays c heap (W.OrElse e) h = tt
action_stays c heap (W.Choose s u) h = tt
action_stays c heap (W.Loop e s) h = tt
action_stays c heap (W.Get x) h = tt
action_stays c heap (W.Put x) h = tt
action_stays c heap (W.New x) h = tt
action_stays c heap (W.Call m) h = tt
action_stays c heap (W.Acquire s) h = tt
action_stays c heap (W.Release a) h = tt
action_stays c heap W.Ret h = tt
action_stays c heap W.Print h = tt
action_stays c heap W.Start h = tt

items_stay : (c : Change) (heap : Heap) (work : List Item) → AreSoundItems heap work → AreSoundItems (on_heap c heap) work
items_stay c heap [] h = tt
items_stay c heap (Ex e ∷ more) h = (tt, items_stay c heap more h.1)
items_stay c heap (St s ∷ more) h = (tt, items_stay c heap more h.1)
items_stay c heap (Act a ∷ more) h = (action_stays c heap a h.0, items_stay c heap more h.1)

frames_stay : (c : Change) (heap : Heap) (fs : List Frame) → AreSoundFrames heap fs → AreSoundFrames (on_heap c heap) fs
frames_stay c heap [] h = tt
frames_stay c heap (f ∷ fs) h = (record { slots = all_stay c heap f.slots h.0.slots; operands = all_stay c heap f.operands h.0.operands; work = items_stay c heap f.work h.0.work }, frames_stay c heap fs h.1)

pub thread_stays : (c : Change) (heap : Heap) (x : Thread) → IsSoundThread heap x → IsSoundThread (on_heap c heap) x
thread_stays c heap (Ready a m) h = there_stays c heap a h
thread_stays c heap (Running fs) h = frames_stay c heap fs h
thread_stays c heap Done h = tt
thread_stays c heap (Faulted kind fs) h = tt

-- Lists of values.
module _ (heap : Heap) where
  top_refers : (vs : List Value) → AllRefer heap vs → Refers heap (top vs)
  top_refers [] h = tt
  top_refers (v ∷ vs) h = h.0

  under_refer : (vs : List Value) → AllRefer heap vs → AllRefer heap (under vs)
  under_refer [] h = tt
  under_refer (v ∷ vs) h = h.1

  taken_refer : (n : ℕ) (found vs : List Value) → AllRefer heap found → AllRefer heap vs → AllRefer heap (popped n found vs)
  taken_refer zero found vs g h = g
  taken_refer (suc n) found vs g h = taken_refer n (top vs ∷ found) (under vs) (top_refers vs h, g) (under_refer vs h)

  pub dropped_refer : (n : ℕ) (vs : List Value) → AllRefer heap vs → AllRefer heap (dropped n vs)
  dropped_refer zero vs h = h
  dropped_refer (suc n) vs h = dropped_refer n (under vs) (under_refer vs h)

  pub refers_at : (vs : List Value) (i : ℕ) (v : Value) → AllRefer heap vs → slice_get vs i ≡ Some v → Refers heap v
  refers_at [] i v h e = absurd cc
  refers_at (w ∷ vs) zero v h e = let same : w ≡ v = cc in subst (Refers heap) same h.0
  refers_at (w ∷ vs) (suc i) v h e = refers_at vs i v h.1 e

  set_refer : (vs : List Value) (i : ℕ) (v : Value) → AllRefer heap vs → Refers heap v → AllRefer heap (slice_set vs i v)
  set_refer [] i v h r = tt
  set_refer (w ∷ vs) zero v h r = (r, h.1)
  set_refer (w ∷ vs) (suc i) v h r = (h.0, set_refer vs i v h.1 r)

  pub all_refer : (vs : List Value) → ((i : ℕ) (v : Value) → slice_get vs i ≡ Some v → Refers heap v) → AllRefer heap vs
  all_refer [] h = tt
  all_refer (v ∷ vs) h = (h 0 v refl, all_refer vs (λ i w e. h (suc i) w e))

  both_refer : (xs ys : List Value) → AllRefer heap xs → AllRefer heap ys → AllRefer heap (xs ++ ys)
  both_refer [] ys g h = h
  both_refer (x ∷ xs) ys g h = (g.0, both_refer xs ys g.1 h)

  zeros_refer : (n : ℕ) → AllRefer heap (replicate n (value.Int (pos 0)))
  zeros_refer zero = tt
  zeros_refer (suc n) = (tt, zeros_refer n)

  slots_refer : (m : Method) (this : Value) (arguments : List Value) → Refers heap this → AllRefer heap arguments → AllRefer heap (new_slots m this arguments)
  slots_refer m this arguments r h = both_refer (this ∷ arguments) _ (r, h) (zeros_refer (m.slots - length (this ∷ arguments)))

  frame_sound : (m : ℕ) (method : Method) (this : Value) (arguments : List Value) → Refers heap this → AllRefer heap arguments → IsSoundFrame heap (new_frame m method this arguments)
  frame_sound m method this arguments r h = record { slots = slots_refer method this arguments r h; operands = tt; work = (tt, (tt, tt)) }

  -- a value that is an address refers to an object that is there
  pub address_there : (v : Value) (a : Address) → Refers heap v → address_of v ≡ Some a → IsObjectAt heap a
  address_there (value.Int n) a h e = absurd cc
  address_there (value.Truth b) a h e = absurd cc
  address_there value.Null a h e = absurd cc
  address_there (value.Ref k) a h e = let same : k ≡ a = cc in subst (IsObjectAt heap) same h

  default_refers : (ty : CoreType) → Refers heap (default_value ty)
  default_refers type.Int = tt
  default_refers type.Boolean = tt
  default_refers (type.Class c) = tt

  either_refers : (b : Bool) (v w : Value) → Refers heap v → Refers heap w → Refers heap (if b then v else w)
  either_refers true v w g h = g
  either_refers false v w g h = h

  either_refer : (b : Bool) (vs ws : List Value) → AllRefer heap vs → AllRefer heap ws → AllRefer heap (if b then vs else ws)
  either_refer true vs ws g h = g
  either_refer false vs ws g h = h

  value_new : (o : Option Field) (v : Value) → Refers heap v → Refers heap (new_value o v)
  value_new None v h = tt
  value_new (Some f) v h = either_refers f.is_final v (default_value f.ty) h (default_refers f.ty)

  rest_new : (o : Option Field) (vs : List Value) → AllRefer heap vs → AllRefer heap (left_after o vs)
  rest_new None vs h = h
  rest_new (Some f) vs h = either_refer f.is_final (under vs) vs (under_refer vs h) h

  pub values_new : (P : Program) (fs : List ℕ) (vs : List Value) → AllRefer heap vs → AllRefer heap (new_values P fs vs)
  values_new P [] vs h = tt
  values_new P (f ∷ fs) vs h = (value_new (slice_get P.fields f) (top vs) (top_refers vs h), values_new P fs (left_after (slice_get P.fields f) vs) (rest_new (slice_get P.fields f) vs h))

  -- the value of a field of an object doesn't dangle
  module _ (P : Program) (closed : HasNoDanglingValue heap) where
    some_value : (x : ℕ) (a : Address) (v : Value) (k : Option Object) → M.get heap a ≡ k → field_value P x k (slice_get P.fields x) ≡ Some v → Refers heap v
    some_value x a v None e is = absurd cc
    some_value x a v (Some k) e is = by (slice_get P.fields x) is
      where
        value_of : (b : Bool) (i : ℕ) → (if b then slice_get k.values i else None) ≡ Some v → Refers heap v
        value_of true i is = closed a k e i v is
        value_of false i is = absurd cc

        by : (g : Option Field) → field_value P x (Some k) g ≡ Some v → Refers heap v
        by None is = absurd cc
        by (Some g) is = value_of (lists (slice_get P.classes k.class) g.index x) g.index is

    value_refers : (a : Address) (x : ℕ) (v : Value) → value_in P heap a x ≡ Some v → Refers heap v
    value_refers a x v is = some_value x a v (M.get heap a) refl is

-- what a change brings doesn't dangle in the heap after it
abbrev pub IsSoundChange : Heap → Change → Type 0
IsSoundChange heap (FieldIs a i v) = Refers heap v
IsSoundChange heap (ObjectIs a o) = AllRefer (M.insert heap a o) o.values
IsSoundChange heap (Starts a m) = IsObjectAt heap a
IsSoundChange heap _ = Unit {0}

module _ (P : Program) (t : ℕ) (heap : Heap) (locks : Locks) (closed : HasNoDanglingValue heap) where
  -- a step leaves its thread sound, in the heap after it, and changes soundly
  abbrev pub SoundOut : Outcome → Type 0
  SoundOut (Moves m) = IsSoundThread (on_heap m.change heap) m.thread × IsSoundChange heap m.change
  SoundOut Absent = Unit {0}
  SoundOut IsDone = Unit {0}
  SoundOut (HadFaulted kind) = Unit {0}
  SoundOut (Waits a holder) = Unit {0}

  module _ (f : Frame) (below : List Frame) (rest : List Item) (sf : IsSoundFrame heap f) (sb : AreSoundFrames heap below) (sr : AreSoundItems heap rest) where
    -- the frame goes on with sound operands and work, and a change that leaves the heap
    going : (operands : List Value) (work : List Item) → AllRefer heap operands → AreSoundItems heap work → AreSoundFrames heap (record f { operands = operands; work = work } ∷ below)
    going operands work ho hw = (record { slots = sf.slots; operands = ho; work = hw }, sb)

    one : AllRefer heap (under f.operands)
    one = under_refer heap f.operands sf.operands

    two : AllRefer heap (under (under f.operands))
    two = under_refer heap (under f.operands) one

    load_out : (x : ℕ) (o : Option Value) → slice_get f.slots x ≡ o → SoundOut (load P (see_in t heap locks) t f below rest o)
    load_out x None e = (tt, tt)
    load_out x (Some v) e = (going (v ∷ f.operands) rest (refers_at heap f.slots x v sf.slots e, sf.operands) sr, tt)

    store_out : (x : ℕ) (o : Option Value) → SoundOut (store P (see_in t heap locks) t f below rest x o)
    store_out x None = (tt, tt)
    store_out x (Some v) = ((record { slots = set_refer heap f.slots x (top f.operands) sf.slots (top_refers heap f.operands sf.operands); operands = one; work = sr }, sb), tt)

    unary_out : (op : UnaryOp) (v : Value) → SoundOut (goes_on P (see_in t heap locks) t f below rest Rattle.state.specs.declared.value.StepKind.TheVariants.Both (unary_value op v ∷ under f.operands) rest Nothing)
    unary_out Not v = (going _ rest (tt, one) sr, tt)
    unary_out Neg v = (going _ rest (tt, one) sr, tt)

    divided : (b : Bool) (n : ℤ) → SoundOut (binary P (see_in t heap locks) t f below rest (if b then None else Some (value.Int n)))
    divided true n = (tt, tt)
    divided false n = (going _ rest (tt, two) sr, tt)

    binary_out : (op : CoreOp) (a b : Value) → SoundOut (binary P (see_in t heap locks) t f below rest (binary_value op a b))
    binary_out Eq a b = (going _ rest (tt, two) sr, tt)
    binary_out Ne a b = (going _ rest (tt, two) sr, tt)
    binary_out Lt a b = (going _ rest (tt, two) sr, tt)
    binary_out Le a b = (going _ rest (tt, two) sr, tt)
    binary_out Gt a b = (going _ rest (tt, two) sr, tt)
    binary_out Ge a b = (going _ rest (tt, two) sr, tt)
    binary_out Add a b = (going _ rest (tt, two) sr, tt)
    binary_out Sub a b = (going _ rest (tt, two) sr, tt)
    binary_out Mul a b = (going _ rest (tt, two) sr, tt)
    binary_out Div a b = divided (int_eq (as_int b) (pos 0)) _
    binary_out Rem a b = divided (int_eq (as_int b) (pos 0)) _

    and_then_out : (e : Expr) (b : Bool) → SoundOut (and_then P (see_in t heap locks) t f below rest e b)
    and_then_out e true = (going _ (Ex e ∷ rest) one (tt, sr), tt)
    and_then_out e false = (going _ rest (tt, one) sr, tt)

    or_else_out : (e : Expr) (b : Bool) → SoundOut (or_else P (see_in t heap locks) t f below rest e b)
    or_else_out e true = (going _ rest (tt, one) sr, tt)
    or_else_out e false = (going _ (Ex e ∷ rest) one (tt, sr), tt)

    choose_out : (s u : Stmt) (b : Bool) → SoundOut (choose P (see_in t heap locks) t f below rest s u b)
    choose_out s u true = (going _ (St s ∷ rest) one (tt, sr), tt)
    choose_out s u false = (going _ (St u ∷ rest) one (tt, sr), tt)

    loop_out : (c : Expr) (s : Stmt) (b : Bool) → SoundOut (loop P (see_in t heap locks) t f below rest c s b)
    loop_out c s true = (going _ (St s ∷ St (WhileS c s) ∷ rest) one (tt, (tt, sr)), tt)
    loop_out c s false = (going _ rest one sr, tt)

    get_value_out : (a : Address) (x : ℕ) (field : Option Field) (o : Option Value) → value_in P heap a x ≡ o → SoundOut (get_value P (see_in t heap locks) t f below rest a field o)
    get_value_out a x field None e = (tt, tt)
    get_value_out a x field (Some v) e = (going _ rest (value_refers heap P closed a x v e, one) sr, tt)

    get_out : (x : ℕ) (o : Option Address) → SoundOut (get P (see_in t heap locks) t f below rest x o)
    get_out x None = (tt, tt)
    get_out x (Some a) = get_value_out a x (slice_get P.fields x) (value_in P heap a x) refl

    put_value_out : (a : Address) (field : Option Field) (o : Option Value) → SoundOut (put_value P (see_in t heap locks) t f below rest a field o)
    put_value_out a field None = (tt, tt)
    put_value_out a field (Some old) = (frames_stay (FieldIs a (index_of field) (top f.operands)) heap (record f { operands = under (under f.operands); work = rest } ∷ below) (going _ rest two sr), top_refers heap f.operands sf.operands)

    put_out : (x : ℕ) (o : Option Address) → SoundOut (put P (see_in t heap locks) t f below rest x o)
    put_out x None = (tt, tt)
    put_out x (Some a) = put_value_out a (slice_get P.fields x) _

    new_out : (c : ℕ) (o : Option Class) → SoundOut (new P (see_in t heap locks) t f below rest c o)
    new_out c None = (tt, tt)
    new_out c (Some class) =
        let made = new_object P c (popped (class_finals class) [] f.operands) in
        let change = ObjectIs (next_address t heap) made in
        let later = frames_stay change heap (record f { operands = dropped (class_finals class) f.operands; work = rest } ∷ below) (going (dropped (class_finals class) f.operands) rest (dropped_refer heap (class_finals class) f.operands sf.operands) sr) in (
          (record { slots = later.0.slots; operands = (ap is_some (get-insert_same heap (next_address t heap) made), later.0.operands); work = later.0.work }, later.1),
          values_new (M.insert heap (next_address t heap) made) P (fields_of (slice_get P.classes c)) (popped (class_finals class) [] f.operands) (all_stay change heap _ (taken_refer heap (class_finals class) [] f.operands tt sf.operands)),
        )

    enter_out : (arity m : ℕ) (method : Method) (a : Address) → IsObjectAt heap a → (b : Bool) → SoundOut (enter P (see_in t heap locks) t f below rest arity m method a b)
    enter_out arity m method a there false = (tt, tt)
    enter_out arity m method a there true = (
      (
        frame_sound heap m method (value.Ref a) _ there (taken_refer heap arity [] f.operands tt sf.operands),
        (record { slots = sf.slots; operands = under_refer heap _ (dropped_refer heap arity f.operands sf.operands); work = sr }, sb),
      ),
      tt,
    )

    enter_some_out : (arity m : ℕ) (o : Option Method) (a : Address) → IsObjectAt heap a → SoundOut (enter_some P (see_in t heap locks) t f below rest arity m o a)
    enter_some_out arity m None a there = (tt, tt)
    enter_some_out arity m (Some method) a there = enter_out arity m method a there _

    dispatch_out : (arity : ℕ) (o : Option ℕ) (a : Address) → IsObjectAt heap a → SoundOut (dispatch P (see_in t heap locks) t f below rest arity o a)
    dispatch_out arity None a there = (tt, tt)
    dispatch_out arity (Some m) a there = enter_some_out arity m (slice_get P.methods m) a there

    call_on_out : (arity m : ℕ) (v : Value) → Refers heap v → (o : Option Address) → address_of v ≡ o → SoundOut (call_on P (see_in t heap locks) t f below rest arity m o)
    call_on_out arity m v r None e = (tt, tt)
    call_on_out arity m v r (Some a) e = dispatch_out arity _ a (address_there heap v a r e)

    call_out : (m : ℕ) (o : Option Method) → SoundOut (call P (see_in t heap locks) t f below rest m o)
    call_out m None = (tt, tt)
    call_out m (Some method) = call_on_out (length method.params) m (top (dropped (length method.params) f.operands)) (top_refers heap _ (dropped_refer heap (length method.params) f.operands sf.operands)) _ refl

    take_held_out : (s : Stmt) (a : Address) (hold : Hold) (b : Bool) → SoundOut (take_held P (see_in t heap locks) t f below rest s a hold b)
    take_held_out s a hold true = (going _ (St s ∷ Act (W.Release a) ∷ rest) one (tt, (tt, sr)), tt)
    take_held_out s a hold false = tt

    take_out : (s : Stmt) (a : Address) (o : Option Hold) → SoundOut (take P (see_in t heap locks) t f below rest s a o)
    take_out s a None = (going _ (St s ∷ Act (W.Release a) ∷ rest) one (tt, (tt, sr)), tt)
    take_out s a (Some hold) = take_held_out s a hold _

    acquire_out : (s : Stmt) (o : Option Address) → SoundOut (acquire P (see_in t heap locks) t f below rest s o)
    acquire_out s None = (tt, tt)
    acquire_out s (Some a) = take_out s a _

    release_held_out : (a : Address) (hold : Hold) (b : Bool) → SoundOut (release_held P (see_in t heap locks) t f below rest a hold b)
    release_held_out a hold false = (tt, tt)
    release_held_out a hold true = (going _ rest sf.operands sr, tt)

    release_out : (a : Address) (o : Option Hold) → SoundOut (release P (see_in t heap locks) t f below rest a o)
    release_out a None = (tt, tt)
    release_out a (Some hold) = release_held_out a hold _

    result_refer : (b : Bool) (v : Value) (vs : List Value) → Refers heap v → AllRefer heap vs → AllRefer heap (with_result b v vs)
    result_refer true v vs r h = (r, h)
    result_refer false v vs r h = h

    return_out : (frames : List Frame) → AreSoundFrames heap frames → SoundOut (return_to P (see_in t heap locks) t f below rest frames)
    return_out [] h = (tt, tt)
    return_out (g ∷ more) h = ((record { slots = h.0.slots; operands = result_refer (has_result (slice_get P.methods f.method)) (top f.operands) g.operands (top_refers heap f.operands sf.operands) h.0.operands; work = h.0.work }, h.1), tt)

    start_run_out : (a : Address) → IsObjectAt heap a → (o : Option ℕ) → SoundOut (start_run P (see_in t heap locks) t f below rest a o)
    start_run_out a there None = (tt, tt)
    start_run_out a there (Some m) = (going _ rest one sr, there)

    start_out : (o : Option Address) → address_of (top f.operands) ≡ o → SoundOut (start P (see_in t heap locks) t f below rest o)
    start_out None e = (tt, tt)
    start_out (Some a) e = start_run_out a (address_there heap (top f.operands) a (top_refers heap f.operands sf.operands) e) _

    act_out : (a : Action) → IsSoundAction heap a → SoundOut (act P (see_in t heap locks) t f below rest a)
    act_out (W.Push v) h = (going _ rest (h, sf.operands) sr, tt)
    act_out (W.Load x) h = load_out x (slice_get f.slots x) refl
    act_out (W.Store x) h = store_out x (slice_get f.slots x)
    act_out W.Drop h = (going _ rest one sr, tt)
    act_out (W.Unary op) h = unary_out op (top f.operands)
    act_out (W.Binary op) h = binary_out op (top (under f.operands)) (top f.operands)
    act_out (W.AndThen e) h = and_then_out e (as_truth (top f.operands))
    act_out (W.OrElse e) h = or_else_out e (as_truth (top f.operands))
    act_out (W.Choose s u) h = choose_out s u (as_truth (top f.operands))
    act_out (W.Loop c s) h = loop_out c s (as_truth (top f.operands))
    act_out (W.Get x) h = get_out x (address_of (top f.operands))
    act_out (W.Put x) h = put_out x (address_of (top (under f.operands)))
    act_out (W.New c) h = new_out c (slice_get P.classes c)
    act_out (W.Call m) h = call_out m (slice_get P.methods m)
    act_out (W.Acquire s) h = acquire_out s (address_of (top f.operands))
    act_out (W.Release a) h = release_out a (M.get locks a)
    act_out W.Ret h = return_out below sb
    act_out W.Print h = (going _ rest one sr, tt)
    act_out W.Start h = start_out (address_of (top f.operands)) refl

  next_out : (f : Frame) (below : List Frame) → IsSoundFrame heap f → AreSoundFrames heap below → (o : Option Next) → SoundSome heap o → SoundOut (act_next P (see_in t heap locks) t f below o)
  next_out f below sf sb None h = (tt, tt)
  next_out f below sf sb (Some next) h = act_out f below next.1 sf sb h.1 next.0 h.0

  first_out : (a : Address) (m : ℕ) → IsObjectAt heap a → (o : Option Method) → SoundOut (enter_first P (see_in t heap locks) t a m o)
  first_out a m there None = (tt, tt)
  first_out a m there (Some method) = ((frame_sound heap m method (value.Ref a) [] there tt, tt), tt)

  SoundThreadSome : Option Thread → Type 0
  SoundThreadSome None = Unit {0}
  SoundThreadSome (Some x) = IsSoundThread heap x

  turn_out : (o : Option Thread) → SoundThreadSome o → SoundOut (turn P (see_in t heap locks) t o)
  unfolding SoundThreadSome
  turn_out None h = tt
  turn_out (Some Done) h = tt
  turn_out (Some (Faulted kind frames)) h = tt
  turn_out (Some (Ready a m)) h = first_out a m h (slice_get P.methods m)
  turn_out (Some (Running [])) h = (tt, tt)
  turn_out (Some (Running (f ∷ below))) h = next_out f below h.0 h.1 (unfolded f.work) (unfolded_sound heap f.work h.0.work)

  pub step_out : (o : Option Thread) → ((x : Thread) → o ≡ Some x → IsSoundThread heap x) → (m : Move) → turn P (see_in t heap locks) t o ≡ Moves m → IsSoundThread (on_heap m.change heap) m.thread × IsSoundChange heap m.change
  unfolding SoundThreadSome
  step_out None h m e = subst SoundOut e (turn_out None tt)
  step_out (Some x) h m e = subst SoundOut e (turn_out (Some x) (h x refl))
