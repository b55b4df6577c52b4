-- A thread's turn keeps the types of its values, and those of the heap.
use Rattle.std.proofs.Common.{◌≡◌, ℕ, Bool, true, false, ◌==◌, List, [], ◌∷◌, ◌++◌, length, Some, None, refl, sym, ap, subst, ◌∙◌}
use Rattle.std.specs.Prelude.{Option, slice_get, map, nat_lt, if◌then◌else◌}
use Rattle.std.proofs.lemmas.Option.{none-some}
use Rattle.core_program.specs.declared.types.CoreType.{CoreType}
use Rattle.core_program.specs.declared.types.CoreType.TheVariants as type
use Rattle.core_program.specs.declared.types.CoreOp.{CoreOp}
use Rattle.core_program.specs.Core.{Program, Class, Field, Method, Expr, Stmt, WhileS}
use Rattle.core_program.specs.Dispatch.{target_of}
use Rattle.core_program.specs.Types.{field_type}
use Rattle.state.specs.declared.value.Address.{Address}
use Rattle.state.specs.declared.value.Value.{Value}
use Rattle.state.specs.declared.value.Value.TheVariants as value
use Rattle.state.specs.declared.value.Fault.{Fault}
use Rattle.state.specs.declared.value.Fault.TheVariants as fault
use Rattle.state.specs.declared.value.StepKind.{StepKind}
use Rattle.state.specs.declared.value.StepKind.TheVariants.{Both, Right, Other}
use Rattle.state.specs.Values.{top, under, popped, dropped, as_int, as_truth, address_of, unary_value, binary_value}
use Rattle.state.specs.Memory.{Object, Hold, field_value}
use Rattle.state.specs.Work as W
use Rattle.state.specs.Work.{Action, Item, Ex, St, Act, Next, unfolded}
use Rattle.state.specs.States.{Frame, Thread, Ready, Running, Done, Faulted, new_object}
use Rattle.semantics.specs.Step.{Change, Nothing, FieldIs, ObjectIs, LockIs, Prints, Starts, Shared, Move, Outcome, Moves, Absent, IsDone, HadFaulted, Waits, most_frames, has_result, with_result, unless_final, object_class, run_of, run_of_class, target_at, value_at, access_kind, faults, goes_on, load, store, binary, and_then, or_else, choose, loop, get_value, get, put_value, put, new_address, new, enter, enter_some, dispatch, call_on, call, takes, take_held, take, acquire, release_held, release, return_to, start_run, start, act, act_next, enter_first, turn}
use Rattle.semantics.specs.Changes.{objects_after}
use Rattle.reduction.specs.Fits.{arity_of, final_field_count}
use Rattle.levels.specs.SlotTypes.{SlotType, slot_types, result_slot_type, taken_by_method, taken_by_new, expression_type, Suits, SuitEach, Has, HasEach, top_type, under_types, taken_types, dropped_types}
use Rattle.levels.specs.Suited.{brought, SuitsResult, SuitedAct, Suited, SuitedOpens}
use Rattle.levels.specs.TypedStates.{Stays, IsTypedHeap, AreTypedSlots, IsTypedFrame, AreTypedFrames, IsTypedStart, IsTypedThread}
use Rattle.levels.proofs.OpeningTypes.{unfolds, on_pushed}
use Rattle.levels.proofs.Heaps.{stays_itself, suits_value, each_stays, slots_stay, top_has, under_has, dropped_has, taken_has, HasTypes, each_suits, new_slots_typed, stored_typed, written_stays, written_typed, made_stays, made_typed}
use Rattle.levels.proofs.TypedChanges.{IsSuitedProgram, IsTypedChange, frames_stay, plain_has, unary_has, binary_has, no_result_suits}

module _ (P : Program) (mark : ℕ → ℕ) where
  module _ (see : Shared) (t : ℕ) where
    -- a step: its thread and the heap after it are typed, and objects keep their classes
    pub record StepTyped (move : Move) : Type 0 where
      pub thread : IsTypedThread P mark (objects_after move.change see.object_at) (Some move.thread)
      pub heap : IsTypedHeap P mark (objects_after move.change see.object_at)
      pub stays : Stays see.object_at (objects_after move.change see.object_at)
      pub started : IsTypedChange P mark see.object_at move.change

    abbrev pub OutcomeTyped : Outcome → Type 0
    OutcomeTyped (Moves move) = StepTyped move
    OutcomeTyped Absent = Unit {0}
    OutcomeTyped IsDone = Unit {0}
    OutcomeTyped (HadFaulted why) = Unit {0}
    OutcomeTyped (Waits a holder) = Unit {0}

    module _ (program : IsSuitedProgram P mark) (heap : IsTypedHeap P mark see.object_at) (f : Frame) (below : List Frame) (rest : List Item) (method : Method) (is : slice_get P.methods f.method ≡ Some method)
        (slots : AreTypedSlots P mark see.object_at (slot_types method) f.slots) (ts : List SlotType) (known : HasEach mark see.object_at ts f.operands)
        (further : AreTypedFrames P mark see.object_at below (brought (result_slot_type (slice_get P.methods f.method)))) where
      abbrev G : List SlotType → Type 0
      G = Suited P mark (slot_types method) method.result rest

      fault_typed : (why : Fault) → OutcomeTyped (faults P see t f below rest why)
      fault_typed why = record { thread = tt; heap = heap; stays = stays_itself see.object_at; started = tt }

      go : (kind : StepKind) (operands : List Value) (work : List Item) (change : Change) (later : List SlotType) → HasEach mark (objects_after change see.object_at) later operands → Suited P mark (slot_types method) method.result work later
          → IsTypedHeap P mark (objects_after change see.object_at) → Stays see.object_at (objects_after change see.object_at) → IsTypedChange P mark see.object_at change → OutcomeTyped (goes_on P see t f below rest kind operands work change)
      go kind operands work change later has suited heap2 stays started = record {
        thread = (
          record {
            method = method;
            is = is;
            slots = slots_stay mark see.object_at (objects_after change see.object_at) stays P (slot_types method) f.slots slots;
            types = later;
            operands = has;
            suited = suited;
          },
          frames_stay P mark see.object_at (objects_after change see.object_at) stays below (brought (result_slot_type (slice_get P.methods f.method))) further,
        );
        heap = heap2;
        stays = stays;
        started = started;
      }

      go_on : (kind : StepKind) (operands : List Value) (work : List Item) (later : List SlotType) → HasEach mark see.object_at later operands → Suited P mark (slot_types method) method.result work later
          → OutcomeTyped (goes_on P see t f below rest kind operands work Nothing)
      go_on kind operands work later has suited = go kind operands work Nothing later has suited heap (stays_itself see.object_at) tt

      once : HasEach mark see.object_at (under_types ts) (under f.operands)
      once = under_has mark see.object_at ts f.operands known

      twice : HasEach mark see.object_at (under_types (under_types ts)) (under (under f.operands))
      twice = under_has mark see.object_at (under_types ts) (under f.operands) once

      alone : under_types ts ≡ [] → HasEach mark see.object_at [] (under f.operands)
      alone none = subst (λ z. HasEach mark see.object_at z (under f.operands)) none once

      load_typed : (x : ℕ) → G (slice_get (slot_types method) x ∷ ts) → (o : Option Value) → slice_get f.slots x ≡ o → OutcomeTyped (load P see t f below rest o)
      load_typed x g None at = fault_typed fault.Null
      load_typed x g (Some v) at = go_on Both (v ∷ f.operands) rest (slice_get (slot_types method) x ∷ ts) (slots x v at, known) g

      store_typed : (x : ℕ) → Suits mark (top_type ts) (slice_get (slot_types method) x) → G (under_types ts) → (o : Option Value) → slice_get f.slots x ≡ o → OutcomeTyped (store P see t f below rest x o)
      store_typed x suits g None at = fault_typed fault.Null
      store_typed x suits g (Some old) at = record {
        thread = (
          record {
            method = method;
            is = is;
            slots = stored_typed mark see.object_at P (slot_types method) f.slots x (top f.operands) old at
                (suits_value mark see.object_at (top_type ts) (slice_get (slot_types method) x) (top f.operands) suits (top_has mark see.object_at ts f.operands known)) slots;
            types = under_types ts;
            operands = once;
            suited = g;
          },
          further,
        );
        heap = heap;
        stays = stays_itself see.object_at;
        started = tt;
      }

      binary_typed : (op : CoreOp) → G (None ∷ under_types (under_types ts)) → (o : Option Value) → binary_value op (top (under f.operands)) (top f.operands) ≡ o → OutcomeTyped (binary P see t f below rest o)
      binary_typed op g None at = fault_typed fault.Zero
      binary_typed op g (Some v) at = go_on Both (v ∷ under (under f.operands)) rest (None ∷ under_types (under_types ts)) (binary_has P mark see.object_at None op (top (under f.operands)) (top f.operands) v at, twice) g

      and_typed : (e : Expr) → SuitedAct P mark (slot_types method) method.result (W.AndThen e) G ts → (b : Bool) → OutcomeTyped (and_then P see t f below rest e b)
      and_typed e s true = go_on Both (under f.operands) (Ex e ∷ rest) (under_types ts) once (s.1, s.2, on_pushed P mark (slot_types method) G e (under_types ts) s.0 s.3)
      and_typed e s false = go_on Both (value.Truth false ∷ under f.operands) rest (expression_type P (slot_types method) e ∷ under_types ts) (tt, once) s.3

      or_typed : (e : Expr) → SuitedAct P mark (slot_types method) method.result (W.OrElse e) G ts → (b : Bool) → OutcomeTyped (or_else P see t f below rest e b)
      or_typed e s true = go_on Both (value.Truth true ∷ under f.operands) rest (expression_type P (slot_types method) e ∷ under_types ts) (tt, once) s.3
      or_typed e s false = go_on Both (under f.operands) (Ex e ∷ rest) (under_types ts) once (s.1, s.2, on_pushed P mark (slot_types method) G e (under_types ts) s.0 s.3)

      choose_typed : (s u : Stmt) → SuitedAct P mark (slot_types method) method.result (W.Choose s u) G ts → (b : Bool) → OutcomeTyped (choose P see t f below rest s u b)
      choose_typed s u c true = go_on Both (under f.operands) (St s ∷ rest) [] (alone c.0) (refl, c.1, c.2, c.5)
      choose_typed s u c false = go_on Both (under f.operands) (St u ∷ rest) [] (alone c.0) (refl, c.3, c.4, c.5)

      loop_typed : (e : Expr) (s : Stmt) → SuitedAct P mark (slot_types method) method.result (W.Loop e s) G ts → (b : Bool) → OutcomeTyped (loop P see t f below rest e s b)
      loop_typed e s c true = go_on Both (under f.operands) (St s ∷ St (WhileS e s) ∷ rest) [] (alone c.0) (refl, c.4, c.5, (refl, (c.1, c.2, c.4), (c.3, c.5), c.6))
      loop_typed e s c false = go_on Both (under f.operands) rest [] (alone c.0) c.6

      read_has : (a : Address) (x : ℕ) (v : Value) (field : Option Field) → slice_get P.fields x ≡ field → (o : Option Object) → see.object_at a ≡ o → field_value P x o field ≡ Some v → Has mark see.object_at (field_type field) v
      read_has a x v field at None none e = absurd (none-some v e)
      read_has a x v None at (Some o) there e = absurd (none-some v e)
      read_has a x v (Some field) at (Some o) there e = heap a x field v at (ap (λ z. field_value P x z (Some field)) there ∙ e)

      get_value_typed : (a : Address) (x : ℕ) → G (field_type (slice_get P.fields x) ∷ under_types ts) → (v : Option Value) → value_at P see t a x ≡ v → OutcomeTyped (get_value P see t f below rest a (slice_get P.fields x) v)
      get_value_typed a x g None at = fault_typed fault.Null
      get_value_typed a x g (Some v) at = go_on (access_kind P see t false a (slice_get P.fields x)) (v ∷ under f.operands) rest (field_type (slice_get P.fields x) ∷ under_types ts)
          (read_has a x v (slice_get P.fields x) refl (see.object_at a) refl at, once) g

      get_typed : (x : ℕ) → G (field_type (slice_get P.fields x) ∷ under_types ts) → (o : Option Address) → OutcomeTyped (get P see t f below rest x o)
      get_typed x g None = fault_typed fault.Null
      get_typed x g (Some a) = get_value_typed a x g (value_at P see t a x) refl

      if_else : (b : Bool) (o : Option Value) (v : Value) → (if b then None else o) ≡ Some v → o ≡ Some v
      if_else true o v e = absurd (none-some v e)
      if_else false o v e = e

      put_value_typed : (x : ℕ) (a : Address) → SuitedAct P mark (slot_types method) method.result (W.Put x) G ts → (field : Option Field) → slice_get P.fields x ≡ field → (old : Option Value) → unless_final field (value_at P see t a x) ≡ old
          → OutcomeTyped (put_value P see t f below rest a field old)
      put_value_typed x a s field at None has = fault_typed fault.Null
      put_value_typed x a s None at (Some old) has = absurd (none-some old has)
      put_value_typed x a s (Some fl) at (Some old) has =
          let here = ap (λ o. field_value P x (see.object_at a) o) (sym at) ∙ if_else fl.is_final (value_at P see t a x) old has in
          let stays = written_stays mark P see.object_at a fl.index (top f.operands) in
          let typed = suits_value mark see.object_at (top_type ts) (Some fl.ty) (top f.operands) (subst (Suits mark (top_type ts)) (ap field_type at) s.0) (top_has mark see.object_at ts f.operands known) in
          go (access_kind P see t true a (Some fl)) (under (under f.operands)) rest (FieldIs a fl.index (top f.operands)) (under_types (under_types ts))
          (each_stays mark see.object_at (objects_after (FieldIs a fl.index (top f.operands)) see.object_at) stays (under_types (under_types ts)) (under (under f.operands)) twice) s.1
          (written_typed mark P see.object_at a x fl (top f.operands) old at here typed heap) stays tt

      put_typed : (x : ℕ) → SuitedAct P mark (slot_types method) method.result (W.Put x) G ts → (o : Option Address) → OutcomeTyped (put P see t f below rest x o)
      put_typed x s None = fault_typed fault.Null
      put_typed x s (Some a) = put_value_typed x a s (slice_get P.fields x) refl (unless_final (slice_get P.fields x) (value_at P see t a x)) refl

      address_itself : (a : Address) → Rattle.state.specs.Values.address_eq a a ≡ true
      address_itself a = Rattle.semantics.proofs.Changed.address_itself a

      new_typed : (c : ℕ) → SuitedAct P mark (slot_types method) method.result (W.New c) G ts → see.object_at (new_address P see t f below rest) ≡ None → (o : Option Class) → slice_get P.classes c ≡ o → OutcomeTyped (new P see t f below rest c o)
      new_typed c s free None at = fault_typed fault.Null
      new_typed c s free (Some class) at =
          let a = new_address P see t f below rest in
          let n = length class.finals in
          let values = popped n [] f.operands in
          let made = new_object P c values in
          let stays = made_stays mark P see.object_at (new_address P see t f below rest) (new_object P c (popped (length class.finals) [] f.operands)) free in
          let arity = ap final_field_count at in
          let suits = subst (λ k. SuitEach mark (taken_types k [] ts) (taken_by_new P (slice_get P.classes c))) arity s.0 in
          let arguments = each_suits mark see.object_at (taken_types (length class.finals) [] ts) (taken_by_new P (slice_get P.classes c)) (popped (length class.finals) [] f.operands) suits (taken_has mark see.object_at (length class.finals) ts [] f.operands [] known tt) in
          go Both (value.Ref (new_address P see t f below rest) ∷ dropped (length class.finals) f.operands) rest (ObjectIs (new_address P see t f below rest) (new_object P c (popped (length class.finals) [] f.operands)))
          (Some (type.Class c) ∷ dropped_types (length class.finals) ts) (
            (new_object P c (popped (length class.finals) [] f.operands), ap (λ b. if b then Some (new_object P c (popped (length class.finals) [] f.operands)) else see.object_at (new_address P see t f below rest)) (address_itself (new_address P see t f below rest)), refl),
            each_stays mark see.object_at (objects_after (ObjectIs (new_address P see t f below rest) (new_object P c (popped (length class.finals) [] f.operands))) see.object_at) stays (dropped_types (length class.finals) ts) (dropped (length class.finals) f.operands)
                (dropped_has mark see.object_at (length class.finals) ts f.operands known),
          )
          (subst (λ k. G (Some (type.Class c) ∷ dropped_types k ts)) arity s.1)
          (made_typed mark P see.object_at (new_address P see t f below rest) c (popped (length class.finals) [] f.operands) free (λ x there. program.finals c x there) arguments heap) stays tt

      -- Calls.

      object_target : (m k : ℕ) (a : Address) (o : Option Object) → see.object_at a ≡ o → target_at P m (object_class o) ≡ Some k → (p : Object) × (see.object_at a ≡ Some p) × (target_of P p.class m ≡ Some k)
      object_target m k a None there e = absurd (none-some k e)
      object_target m k a (Some p) there e = (p, there, e)

      enter_typed : (m : ℕ) (called : Method) → slice_get P.methods m ≡ Some called → SuitedAct P mark (slot_types method) method.result (W.Call m) G ts → (a : Address) (k : ℕ) (running : Method) → slice_get P.methods k ≡ Some running
          → target_at P m (object_class (see.object_at a)) ≡ Some k → (room : Bool) → OutcomeTyped (enter P see t f below rest (length called.params) k running a room)
      enter_typed m called there s a k running at runs false = fault_typed fault.Depth
      enter_typed m called there s a k running at runs true =
          let o = object_target m k a (see.object_at a) refl runs in
          let arity = ap arity_of there in
          let suits = subst (λ n. SuitEach mark (taken_types n [] ts) (taken_by_method (slice_get P.methods m))) arity s.0 in
          let arguments = each_suits mark see.object_at (taken_types (length called.params) [] ts) (taken_by_method (slice_get P.methods m)) (popped (length called.params) [] f.operands) suits (taken_has mark see.object_at (length called.params) ts [] f.operands [] known tt) in
          let params = program.params (o.0).class m k called running o.2 there at in
          let result = program.result (o.0).class m k called running o.2 there at in
          record {
            thread = (
              record {
                method = running;
                is = at;
                slots = new_slots_typed mark see.object_at P running (value.Ref a) (popped (length called.params) [] f.operands) (o.0, o.1, program.of_class (o.0).class m k running o.2 at)
                    (subst (λ z. HasTypes mark see.object_at z (popped (length called.params) [] f.operands)) (ap taken_by_method there ∙ sym (ap (map (λ p. p.1)) params)) arguments);
                types = [];
                operands = tt;
                suited = (refl, program.tidy k running at, program.suited k running at, no_result_suits P mark running.result);
              },
              (
                record {
                  method = method;
                  is = is;
                  slots = slots;
                  types = under_types (dropped_types (length called.params) ts);
                  operands = under_has mark see.object_at (dropped_types (length called.params) ts) (dropped (length called.params) f.operands) (dropped_has mark see.object_at (length called.params) ts f.operands known);
                  suited = subst (λ r. G (brought r ++ under_types (dropped_types (length called.params) ts))) (ap result_slot_type there ∙ sym result ∙ sym (ap result_slot_type at))
                      (subst (λ n. G (brought (result_slot_type (slice_get P.methods m)) ++ under_types (dropped_types n ts))) arity s.1);
                },
                further,
              ),
            );
            heap = heap;
            stays = stays_itself see.object_at;
            started = tt;
          }

      enter_some_typed : (m : ℕ) (called : Method) → slice_get P.methods m ≡ Some called → SuitedAct P mark (slot_types method) method.result (W.Call m) G ts → (a : Address) (k : ℕ) → target_at P m (object_class (see.object_at a)) ≡ Some k
          → (o : Option Method) → slice_get P.methods k ≡ o → OutcomeTyped (enter_some P see t f below rest (length called.params) k o a)
      enter_some_typed m called there s a k runs None at = fault_typed fault.Null
      enter_some_typed m called there s a k runs (Some running) at = enter_typed m called there s a k running at runs (nat_lt (length (f ∷ below)) most_frames)

      dispatch_typed : (m : ℕ) (called : Method) → slice_get P.methods m ≡ Some called → SuitedAct P mark (slot_types method) method.result (W.Call m) G ts → (a : Address) (o : Option ℕ) → target_at P m (object_class (see.object_at a)) ≡ o
          → OutcomeTyped (dispatch P see t f below rest (length called.params) o a)
      dispatch_typed m called there s a None runs = fault_typed fault.Null
      dispatch_typed m called there s a (Some k) runs = enter_some_typed m called there s a k runs (slice_get P.methods k) refl

      call_on_typed : (m : ℕ) (called : Method) → slice_get P.methods m ≡ Some called → SuitedAct P mark (slot_types method) method.result (W.Call m) G ts → (o : Option Address) → OutcomeTyped (call_on P see t f below rest (length called.params) m o)
      call_on_typed m called there s None = fault_typed fault.Null
      call_on_typed m called there s (Some a) = dispatch_typed m called there s a (target_at P m (object_class (see.object_at a))) refl

      call_typed : (m : ℕ) → SuitedAct P mark (slot_types method) method.result (W.Call m) G ts → (o : Option Method) → slice_get P.methods m ≡ o → OutcomeTyped (call P see t f below rest m o)
      call_typed m s None there = fault_typed fault.Null
      call_typed m s (Some called) there = call_on_typed m called there s (address_of (top (dropped (length called.params) f.operands)))

      -- Locks.

      takes_typed : (kind : StepKind) (s : Stmt) (a : Address) (hold : Hold) → SuitedAct P mark (slot_types method) method.result (W.Acquire s) G ts → OutcomeTyped (takes P see t f below rest kind s a hold)
      takes_typed kind s a hold c = go kind (under f.operands) (St s ∷ Act (W.Release a) ∷ rest) (LockIs a (Some hold)) [] (alone c.0) (refl, c.1, c.2, c.3) heap (stays_itself see.object_at) tt

      take_held_typed : (s : Stmt) (a : Address) (hold : Hold) → SuitedAct P mark (slot_types method) method.result (W.Acquire s) G ts → (b : Bool) → OutcomeTyped (take_held P see t f below rest s a hold b)
      take_held_typed s a hold c true = takes_typed Both s a (Rattle.semantics.specs.Locking.taken_again hold) c
      take_held_typed s a hold c false = tt

      take_typed : (s : Stmt) (a : Address) → SuitedAct P mark (slot_types method) method.result (W.Acquire s) G ts → (o : Option Hold) → OutcomeTyped (take P see t f below rest s a o)
      take_typed s a c None = takes_typed Right s a (record { holder = t; count = 1 }) c
      take_typed s a c (Some hold) = take_held_typed s a hold c (hold.holder == t)

      acquire_typed : (s : Stmt) → SuitedAct P mark (slot_types method) method.result (W.Acquire s) G ts → (o : Option Address) → OutcomeTyped (acquire P see t f below rest s o)
      acquire_typed s c None = fault_typed fault.Null
      acquire_typed s c (Some a) = take_typed s a c (see.lock_at a)

      release_held_typed : (a : Address) (hold : Hold) → G ts → (b : Bool) → OutcomeTyped (release_held P see t f below rest a hold b)
      release_held_typed a hold g false = fault_typed fault.Null
      release_held_typed a hold g true = go _ f.operands rest (LockIs a (Rattle.semantics.specs.Locking.given_back hold)) ts known g heap (stays_itself see.object_at) tt

      release_typed : (a : Address) → G ts → (o : Option Hold) → OutcomeTyped (release P see t f below rest a o)
      release_typed a g None = fault_typed fault.Null
      release_typed a g (Some hold) = release_held_typed a hold g (hold.holder == t)

      -- Starts.

      run_start : (a : Address) (m : ℕ) (o : Object) → see.object_at a ≡ Some o → (c : Option Class) → slice_get P.classes o.class ≡ c → run_of_class c ≡ Some m → IsTypedStart P mark see.object_at a m
      run_start a m o there None at e = absurd (none-some m e)
      run_start a m o there (Some class) at e = record {
        object = o;
        there = there;
        no_parameters = λ called found. program.run_params o.class class m called at e found;
        of_class = λ called found. program.run_class o.class class m called at e found;
      }

      object_start : (a : Address) (m : ℕ) (o : Option Object) → see.object_at a ≡ o → run_of P (object_class o) ≡ Some m → IsTypedStart P mark see.object_at a m
      object_start a m None there e = absurd (none-some m e)
      object_start a m (Some o) there e = run_start a m o there (slice_get P.classes o.class) refl e

      start_run_typed : (a : Address) → G (under_types ts) → (o : Option ℕ) → run_of P (object_class (see.object_at a)) ≡ o → OutcomeTyped (start_run P see t f below rest a o)
      start_run_typed a g None runs = fault_typed fault.Null
      start_run_typed a g (Some m) runs = go Other (under f.operands) rest (Starts a m) (under_types ts) once g heap (stays_itself see.object_at) (object_start a m (see.object_at a) refl runs)

      start_typed : G (under_types ts) → (o : Option Address) → OutcomeTyped (start P see t f below rest o)
      start_typed g None = fault_typed fault.Null
      start_typed g (Some a) = start_run_typed a g (run_of P (object_class (see.object_at a))) refl

      -- Returns.

      with_result_has : (r : Option CoreType) (v : Value) (types : List SlotType) (operands : List Value) → SuitsResult mark r ts → (v ≡ top f.operands) → HasEach mark see.object_at types operands
          → HasEach mark see.object_at (brought r ++ types) (with_result (Rattle.std.specs.Prelude.is_some r) v operands)
      with_result_has None v types operands s same has = has
      with_result_has (Some ty) v types operands s same has =
          (suits_value mark see.object_at (top_type ts) (Some ty) v s (subst (Has mark see.object_at (top_type ts)) (sym same) (top_has mark see.object_at ts f.operands known)), has)

      return_typed : SuitsResult mark method.result ts → (fs : List Frame) → AreTypedFrames P mark see.object_at fs (brought (result_slot_type (slice_get P.methods f.method))) → OutcomeTyped (return_to P see t f below rest fs)
      return_typed s [] typed = record { thread = tt; heap = heap; stays = stays_itself see.object_at; started = tt }
      return_typed s (g ∷ fs) typed = record {
        thread = (
          record {
            method = typed.0.method;
            is = typed.0.is;
            slots = typed.0.slots;
            types = brought (result_slot_type (slice_get P.methods f.method)) ++ typed.0.types;
            operands = subst (λ o. HasEach mark see.object_at (brought (result_slot_type o) ++ typed.0.types) (with_result (has_result o) (top f.operands) g.operands)) (sym is)
                (with_result_has method.result (top f.operands) typed.0.types g.operands s refl typed.0.operands);
            suited = typed.0.suited;
          },
          typed.1,
        );
        heap = heap;
        stays = stays_itself see.object_at;
        started = tt;
      }

      act_typed : (action : Action) → see.object_at (record { thread = t; count = see.made }) ≡ None → SuitedAct P mark (slot_types method) method.result action G ts → OutcomeTyped (act P see t f below rest action)
      act_typed (W.Push v) free s = go_on Both (v ∷ f.operands) rest (None ∷ ts) (plain_has P mark see.object_at None v s.0, known) s.1
      act_typed (W.Load x) free s = load_typed x s (slice_get f.slots x) refl
      act_typed (W.Store x) free s = store_typed x s.0 s.1 (slice_get f.slots x) refl
      act_typed W.Drop free s = go_on Both (under f.operands) rest (under_types ts) once s
      act_typed (W.Unary op) free s = go_on Both (unary_value op (top f.operands) ∷ under f.operands) rest (None ∷ under_types ts) (unary_has P mark see.object_at None op (top f.operands), once) s
      act_typed (W.Binary op) free s = binary_typed op s (binary_value op (top (under f.operands)) (top f.operands)) refl
      act_typed (W.AndThen e) free s = and_typed e s (as_truth (top f.operands))
      act_typed (W.OrElse e) free s = or_typed e s (as_truth (top f.operands))
      act_typed (W.Choose a b) free s = choose_typed a b s (as_truth (top f.operands))
      act_typed (W.Loop e b) free s = loop_typed e b s (as_truth (top f.operands))
      act_typed (W.Get x) free s = get_typed x s (address_of (top f.operands))
      act_typed (W.Put x) free s = put_typed x s (address_of (top (under f.operands)))
      act_typed (W.New c) free s = new_typed c s free (slice_get P.classes c) refl
      act_typed (W.Call m) free s = call_typed m s (slice_get P.methods m) refl
      act_typed (W.Acquire b) free s = acquire_typed b s (address_of (top f.operands))
      act_typed (W.Release a) free s = release_typed a s (see.lock_at a)
      act_typed W.Ret free s = return_typed s below further
      act_typed W.Print free s = go Other (under f.operands) rest (Prints (as_int (top f.operands))) (under_types ts) once s heap (stays_itself see.object_at) tt
      act_typed W.Start free s = start_typed s (address_of (top f.operands))

    module _ (program : IsSuitedProgram P mark) (heap : IsTypedHeap P mark see.object_at) (free : see.object_at (record { thread = t; count = see.made }) ≡ None) where
      next_typed : (f : Frame) (below : List Frame) (typed : IsTypedFrame P mark see.object_at f []) → AreTypedFrames P mark see.object_at below (brought (result_slot_type (slice_get P.methods f.method))) → (o : Option Next)
          → SuitedOpens P mark (slot_types typed.method) typed.method.result o typed.types → OutcomeTyped (act_next P see t f below o)
      next_typed f below typed further None s = record { thread = tt; heap = heap; stays = stays_itself see.object_at; started = tt }
      next_typed f below typed further (Some next) s = act_typed program heap f below next.1 typed.method typed.is typed.slots typed.types typed.operands further next.0 free s

      first_typed : (a : Address) (m : ℕ) → IsTypedStart P mark see.object_at a m → (o : Option Method) → slice_get P.methods m ≡ o → OutcomeTyped (enter_first P see t a m o)
      first_typed a m s None at = record { thread = tt; heap = heap; stays = stays_itself see.object_at; started = tt }
      first_typed a m s (Some method) at = record {
        thread = (
          record {
            method = method;
            is = at;
            slots = new_slots_typed mark see.object_at P method (value.Ref a) [] (s.object, s.there, s.of_class method at)
                (subst (λ z. HasTypes mark see.object_at (map (λ p. p.1) z) []) (sym (s.no_parameters method at)) refl);
            types = [];
            operands = tt;
            suited = (refl, program.tidy m method at, program.suited m method at, no_result_suits P mark method.result);
          },
          tt,
        );
        heap = heap;
        stays = stays_itself see.object_at;
        started = tt;
      }

      -- the turn of a typed thread
      pub turn_typed : (thread : Option Thread) → IsTypedThread P mark see.object_at thread → OutcomeTyped (turn P see t thread)
      turn_typed None s = tt
      turn_typed (Some (Ready a m)) s = first_typed a m s (slice_get P.methods m) refl
      turn_typed (Some (Running [])) s = record { thread = tt; heap = heap; stays = stays_itself see.object_at; started = tt }
      turn_typed (Some (Running (f ∷ below))) s = next_typed f below s.0 s.1 (unfolded f.work) (unfolds P mark (slot_types s.0.method) s.0.method.result f.work s.0.types s.0.suited)
      turn_typed (Some Done) s = tt
      turn_typed (Some (Faulted why fs)) s = tt
