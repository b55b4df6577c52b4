-- Each turn of the machine over code is a turn of the definition.
use Rattle.std.proofs.Common.{◌≡◌, ℕ, zero, suc, ◌+◌, ◌-◌, List, [], ◌∷◌, length, refl, sym, ap, subst, ◌∙◌, arith}
use Rattle.std.specs.Prelude.{Bool, true, false, not, ◌==◌, nat_lt, Option, Some, None, slice_get, slice_set, if◌then◌else◌}
use Rattle.core_program.specs.Core.{Program, Class, Method, Expr, Stmt, WhileS}
use Rattle.state.specs.declared.value.Address.{Address}
use Rattle.state.specs.declared.value.Value.{Value}
use Rattle.state.specs.declared.value.Value.TheVariants as value
use Rattle.state.specs.declared.value.Fault.{Fault}
use Rattle.state.specs.declared.value.Fault.TheVariants as fault
use Rattle.state.specs.declared.value.StepKind.{StepKind}
use Rattle.state.specs.declared.value.StepKind.TheVariants.{Both, Right, Left, Other}
use Rattle.state.specs.Values.{top, under, popped, dropped, as_int, as_truth, address_of, unary_value, binary_value}
use Rattle.state.specs.Memory.{Hold}
use Rattle.state.specs.Work as W
use Rattle.state.specs.Work.{Action, Item, Ex, St, Act, unfolded}
use Rattle.state.specs.States.{Frame, ThreadOf, Thread, Running, Done, Faulted, new_frame}
use Rattle.state.specs.Frames.{CodeFrame, rest_of, first_frame}
use Rattle.state.specs.Stored as S
use Rattle.state.specs.Stored.{taken_by}
use Rattle.compile.specs.declared.stack.Code.{Code}
use Rattle.compile.specs.Standing.{Agree, Stands}
use Rattle.compile.specs.IsCode.{IsCodeOf}
use Rattle.compile.proofs.Depth.{stands_once}
use Rattle.semantics.specs.Step as D
use Rattle.semantics.specs.Step.{Shared, Change, Nothing, FieldIs, LockIs, Prints, Starts, OutcomeOf, Outcome, Moves, Absent, IsDone, HadFaulted, Waits, value_at, access_kind, unless_final, index_of, object_class, target_at, run_of, has_result, most_frames, with_result, act, act_next, turn}
use Rattle.semantics.specs.Locking.{release_kind}
use Rattle.machine.specs.declared.deed.Deed.{Deed}
use Rattle.machine.specs.declared.deed.Deed.TheVariants as deed
use Rattle.machine.specs.CodeMachine as C
use Rattle.machine.specs.CodeMachine.{code_frame_at, deed_of, deed_at, done, code_turn}
use Rattle.machine.specs.Likeness.{with_work, IsLeft, FramesStand, no_frames, more_frames, ThreadsStand, no_threads, more_threads, ThreadStands, ready_stands, running_stands, done_stands, faulted_stands}

-- outcomes that stand for outcomes: of the same kind and change, with threads that stand for threads
pub data OutcomeStands (P : Program) (code : List Code) : OutcomeOf CodeFrame → Outcome → Type 0 where
  both_move : (kind : StepKind) (c : ThreadOf CodeFrame) (t : Thread) (change : Change) → ThreadStands P code c t
      → OutcomeStands P code (Moves (record { kind = kind; thread = c; change = change })) (Moves (record { kind = kind; thread = t; change = change }))
  both_absent : OutcomeStands P code Absent Absent
  both_done : OutcomeStands P code IsDone IsDone
  both_faulted : (kind : Fault) → OutcomeStands P code (HadFaulted kind) (HadFaulted kind)
  both_wait : (a : Address) (holder : ℕ) → OutcomeStands P code (Waits a holder) (Waits a holder)

-- a list of the same length has an element at each place
pub same_place : {A B : Type 0} (xs : List A) (ys : List B) (m : ℕ) (x : A) → length ys ≡ length xs → slice_get xs m ≡ Some x → (y : B) × (slice_get ys m ≡ Some y)
same_place [] ys m x e is = absurd cc
same_place (z ∷ xs) [] m x e is = absurd (omega arith)
same_place (z ∷ xs) (y ∷ ys) zero x e is = (y, refl)
same_place (z ∷ xs) (y ∷ ys) (suc m) x e is = same_place xs ys m x (omega arith) is

-- there are as many threads as those that they stand for
pub threads_long : (P : Program) (code : List Code) (cs : List (ThreadOf CodeFrame)) (ts : List Thread) → ThreadsStand P code cs ts → length cs ≡ length ts
threads_long P code _ _ no_threads = refl
threads_long P code _ _ (more_threads c t cs ts one more) = ap suc (threads_long P code cs ts more)

-- frames that stand for frames are as many
pub as_high : (P : Program) (code : List Code) (fs : List CodeFrame) (gs : List Frame) → FramesStand P code fs gs → length fs ≡ length gs
as_high P code _ _ no_frames = refl
as_high P code _ _ (more_frames f work fs gs left stand) = ap suc (as_high P code fs gs stand)

module _ (P : Program) (code : List Code) (entry room : List ℕ) (is_code : IsCodeOf P code entry room) (see : Shared) (t : ℕ) where
  module _ (f : CodeFrame) (work : List Item) (fs : List CodeFrame) (gs : List Frame) (now : IsLeft P code f work) (stand : FramesStand P code fs gs) where
    abbrev g : Frame
    g = with_work f work

    abbrev R : Bool
    R = has_result (slice_get P.methods f.method)

    abbrev Like : Deed → Outcome → Type 0
    Like d o = OutcomeStands P code (done P see t f fs d) o

    faults_like : (kind : Fault) → Like (deed.Fails kind) (D.faults P see t g gs [] kind)
    faults_like kind = both_move Both (Faulted kind (f ∷ fs)) (Faulted kind (g ∷ gs)) Nothing (faulted_stands kind (f ∷ fs) (g ∷ gs) (more_frames f work fs gs now stand))

    -- the frame goes on
    goes : (kind : StepKind) (slots ops : List Value) (place : ℕ) (locks : List Address) (more : List Item) (change : Change) → Stands R code place locks more
        → OutcomeStands P code
        (Moves (record { kind = kind; thread = Running (record f { slots = slots; operands = ops; place = place; taken = locks } ∷ fs); change = change }))
        (Moves (record { kind = kind; thread = Running (record g { slots = slots; operands = ops; work = more } ∷ gs); change = change }))
    goes kind slots ops place locks more change k =
        both_move kind (Running (record f { slots = slots; operands = ops; place = place; taken = locks } ∷ fs)) (Running (record g { slots = slots; operands = ops; work = more } ∷ gs)) change
        (running_stands _ _ (more_frames (record f { slots = slots; operands = ops; place = place; taken = locks }) more fs gs k stand))

    module _ (rest : List Item) (next : ℕ) where
      load_like : (o : Option Value) → Stands R code next f.taken rest → Like (C.pushes next o) (D.load P see t g gs rest o)
      load_like None k = faults_like fault.Null
      load_like (Some v) k = goes Both f.slots (v ∷ f.operands) next f.taken rest Nothing k

      store_like : (x : ℕ) (o : Option Value) → Stands R code next f.taken rest → Like (C.stores next (top f.operands) x o) (D.store P see t g gs rest x o)
      store_like x None k = faults_like fault.Null
      store_like x (Some old) k = goes Both (slice_set f.slots x (top f.operands)) (under f.operands) next f.taken rest Nothing k

      binary_like : (o : Option Value) → Stands R code next f.taken rest → Like (C.combines next o) (D.binary P see t g gs rest o)
      binary_like None k = faults_like fault.Zero
      binary_like (Some v) k = goes Both f.slots (v ∷ under (under f.operands)) next f.taken rest Nothing k

      and_like : (e : Expr) (other : ℕ) (b : Bool) → Stands R code next f.taken rest → Stands R code other f.taken (Ex e ∷ rest)
          → Like (C.branches_and next other b) (D.and_then P see t g gs rest e b)
      and_like e other true k j = goes Both f.slots (under f.operands) other f.taken (Ex e ∷ rest) Nothing j
      and_like e other false k j = goes Both f.slots (value.Truth false ∷ under f.operands) next f.taken rest Nothing k

      or_like : (e : Expr) (other : ℕ) (b : Bool) → Stands R code next f.taken rest → Stands R code other f.taken (Ex e ∷ rest)
          → Like (C.branches_or next other b) (D.or_else P see t g gs rest e b)
      or_like e other true k j = goes Both f.slots (value.Truth true ∷ under f.operands) next f.taken rest Nothing k
      or_like e other false k j = goes Both f.slots (under f.operands) other f.taken (Ex e ∷ rest) Nothing j

      choose_like : (s u : Stmt) (other : ℕ) (b : Bool) → Stands R code next f.taken (St s ∷ rest) → Stands R code other f.taken (St u ∷ rest)
          → Like (C.branches next other b) (D.choose P see t g gs rest s u b)
      choose_like s u other true k j = goes Both f.slots (under f.operands) next f.taken (St s ∷ rest) Nothing k
      choose_like s u other false k j = goes Both f.slots (under f.operands) other f.taken (St u ∷ rest) Nothing j

      loop_like : (c : Expr) (s : Stmt) (other : ℕ) (b : Bool) → Stands R code next f.taken (St s ∷ St (WhileS c s) ∷ rest) → Stands R code other f.taken rest
          → Like (C.branches next other b) (D.loop P see t g gs rest c s b)
      loop_like c s other true k j = goes Both f.slots (under f.operands) next f.taken (St s ∷ St (WhileS c s) ∷ rest) Nothing k
      loop_like c s other false k j = goes Both f.slots (under f.operands) other f.taken rest Nothing j

      get_value_like : (a : Address) (x : ℕ) (o : Option Value) → Stands R code next f.taken rest
          → Like (C.reads_value next a x o) (D.get_value P see t g gs rest a (slice_get P.fields x) o)
      get_value_like a x None k = faults_like fault.Null
      get_value_like a x (Some v) k = goes (access_kind P see t false a (slice_get P.fields x)) f.slots (v ∷ under f.operands) next f.taken rest Nothing k

      get_like : (x : ℕ) (o : Option Address) → Stands R code next f.taken rest → Like (C.reads P see t next x o) (D.get P see t g gs rest x o)
      get_like x None k = faults_like fault.Null
      get_like x (Some a) k = get_value_like a x (value_at P see t a x) k

      put_value_like : (a : Address) (x : ℕ) (o : Option Value) → Stands R code next f.taken rest
          → Like (C.writes_value next (top f.operands) a x (index_of (slice_get P.fields x)) o) (D.put_value P see t g gs rest a (slice_get P.fields x) o)
      put_value_like a x None k = faults_like fault.Null
      put_value_like a x (Some old) k =
          goes (access_kind P see t true a (slice_get P.fields x)) f.slots (under (under f.operands)) next f.taken rest (FieldIs a (index_of (slice_get P.fields x)) (top f.operands)) k

      put_like : (x : ℕ) (o : Option Address) → Stands R code next f.taken rest → Like (C.writes P see t next (top f.operands) x o) (D.put P see t g gs rest x o)
      put_like x None k = faults_like fault.Null
      put_like x (Some a) k = put_value_like a x (unless_final (slice_get P.fields x) (value_at P see t a x)) k

      new_like : (c : ℕ) (o : Option Class) → Stands R code next f.taken rest → Like (C.makes next c o) (D.new P see t g gs rest c o)
      new_like c None k = faults_like fault.Null
      new_like c (Some class) k = goes Both f.slots _ next f.taken rest _ k

      -- the caller goes on, below a new frame
      enter_like : (arity m : ℕ) (method : Method) (a : Address) (place most : ℕ) → slice_get P.methods m ≡ Some method → slice_get entry m ≡ Some place → Stands R code next f.taken rest
          → Like (deed.Enters m arity a next place most) (D.enter P see t g gs rest arity m method a true)
      enter_like arity m method a place most there at k =
          let caller = record f { operands = under (dropped arity f.operands); place = next } in
          let callee = code_frame_at m method (value.Ref a) (popped arity [] f.operands) place in
          let begins = subst (λ b. Stands b code place [] (St method.body ∷ Act W.Ret ∷ [])) (sym (ap has_result there)) (is_code.stands m place method there at) in
          let frames = more_frames callee (St method.body ∷ Act W.Ret ∷ []) (caller ∷ fs) (with_work caller rest ∷ gs) begins (more_frames caller rest fs gs k stand) in
          subst (λ o. OutcomeStands P code
          (Moves (record { kind = Both; thread = C.entered m o (value.Ref a) (popped arity [] f.operands) place (caller ∷ fs); change = Nothing }))
          (D.enter P see t g gs rest arity m method a true)) (sym there)
          (both_move Both (Running (callee ∷ caller ∷ fs)) (Running (new_frame m method (value.Ref a) (popped arity [] f.operands) ∷ with_work caller rest ∷ gs)) Nothing (running_stands _ _ frames))

      depth_like : (arity m : ℕ) (method : Method) (a : Address) (b : Bool) → slice_get P.methods m ≡ Some method → Stands R code next f.taken rest
          → Like (C.enters entry room arity next m a b) (D.enter P see t g gs rest arity m method a b)
      depth_like arity m method a false there k = faults_like fault.Depth
      depth_like arity m method a true there k =
          let e = same_place P.methods entry m method is_code.entries there in
          let r = same_place P.methods room m method is_code.rooms there in
          subst (λ o. Like (C.enters_at arity next m a o (slice_get room m)) (D.enter P see t g gs rest arity m method a true)) (sym e.1)
          (subst (λ o. Like (C.enters_at arity next m a (Some e.0) o) (D.enter P see t g gs rest arity m method a true)) (sym r.1)
          (enter_like arity m method a e.0 r.0 there e.1 k))

      enter_some_like : (arity m : ℕ) (o : Option Method) (a : Address) → slice_get P.methods m ≡ o → Stands R code next f.taken rest
          → Like (C.enters_some entry room (length (f ∷ fs)) arity next m o a) (D.enter_some P see t g gs rest arity m o a)
      enter_some_like arity m None a there k = faults_like fault.Null
      enter_some_like arity m (Some method) a there k =
          subst (λ n. Like (C.enters entry room arity next m a (nat_lt (suc n) most_frames)) (D.enter P see t g gs rest arity m method a (nat_lt (length (g ∷ gs)) most_frames)))
          (sym (as_high P code fs gs stand))
          (depth_like arity m method a (nat_lt (length (g ∷ gs)) most_frames) there k)

      dispatch_like : (arity : ℕ) (o : Option ℕ) (a : Address) → Stands R code next f.taken rest
          → Like (C.dispatches P entry room (length (f ∷ fs)) arity next o a) (D.dispatch P see t g gs rest arity o a)
      dispatch_like arity None a k = faults_like fault.Null
      dispatch_like arity (Some m) a k = enter_some_like arity m (slice_get P.methods m) a refl k

      call_on_like : (arity m : ℕ) (o : Option Address) → Stands R code next f.taken rest
          → Like (C.calls_on P see entry room (length (f ∷ fs)) arity next m o) (D.call_on P see t g gs rest arity m o)
      call_on_like arity m None k = faults_like fault.Null
      call_on_like arity m (Some a) k = dispatch_like arity (target_at P m (object_class (see.object_at a))) a k

      call_like : (m : ℕ) (o : Option Method) → Stands R code next f.taken rest
          → Like (C.call_deed P see entry room (length (f ∷ fs)) next f.operands m o) (D.call P see t g gs rest m o)
      call_like m None k = faults_like fault.Null
      call_like m (Some method) k = call_on_like (length method.params) m (address_of (top (dropped (length method.params) f.operands))) k

      -- a lock that is taken
      takes_like : (kind : StepKind) (s : Stmt) (a : Address) (again : Bool) (o : Option Hold) (hold : Hold) → see.lock_at a ≡ o → taken_by t o ≡ hold
          → C.deed_kind P see t (deed.Takes a again next) ≡ kind → Stands R code next (a ∷ f.taken) (St s ∷ Act (W.Release a) ∷ rest)
          → Like (deed.Takes a again next) (D.takes P see t g gs rest kind s a hold)
      takes_like kind s a again o hold lock hold_is kind_is k =
          let hold_there : taken_by t (see.lock_at a) ≡ hold = ap (taken_by t) lock ∙ hold_is in
          subst (λ h. Like (deed.Takes a again next) (D.takes P see t g gs rest kind s a h)) hold_there
          (subst (λ x. Like (deed.Takes a again next) (D.takes P see t g gs rest x s a (taken_by t (see.lock_at a)))) kind_is
          (takes_any again a s k))
        where
          takes_any : (again : Bool) (a : Address) (s : Stmt) → Stands R code next (a ∷ f.taken) (St s ∷ Act (W.Release a) ∷ rest)
              → Like (deed.Takes a again next) (D.takes P see t g gs rest (C.deed_kind P see t (deed.Takes a again next)) s a (taken_by t (see.lock_at a)))
          takes_any true a s k = goes Both f.slots (under f.operands) next (a ∷ f.taken) (St s ∷ Act (W.Release a) ∷ rest) (LockIs a (Some (taken_by t (see.lock_at a)))) k
          takes_any false a s k = goes Right f.slots (under f.operands) next (a ∷ f.taken) (St s ∷ Act (W.Release a) ∷ rest) (LockIs a (Some (taken_by t (see.lock_at a)))) k

      take_held_like : (s : Stmt) (a : Address) (hold : Hold) (b : Bool) → see.lock_at a ≡ Some hold → Stands R code next (a ∷ f.taken) (St s ∷ Act (W.Release a) ∷ rest)
          → Like (C.takes_held next a hold b) (D.take_held P see t g gs rest s a hold b)
      take_held_like s a hold true lock k = takes_like Both s a true (Some hold) (record hold { count = hold.count + 1 }) lock refl refl k
      take_held_like s a hold false lock k = both_wait a hold.holder

      take_like : (s : Stmt) (a : Address) (o : Option Hold) → see.lock_at a ≡ o → Stands R code next (a ∷ f.taken) (St s ∷ Act (W.Release a) ∷ rest)
          → Like (C.takes_lock t next a o) (D.take P see t g gs rest s a o)
      take_like s a None lock k = takes_like Right s a false None (record { holder = t; count = 1 }) lock refl refl k
      take_like s a (Some hold) lock k = take_held_like s a hold (hold.holder == t) lock k

      acquire_like : (s : Stmt) (o : Option Address) → ((a : Address) → Stands R code next (a ∷ f.taken) (St s ∷ Act (W.Release a) ∷ rest))
          → Like (C.acquires see t next o) (D.acquire P see t g gs rest s o)
      acquire_like s None k = faults_like fault.Null
      acquire_like s (Some a) k = take_like s a (see.lock_at a) refl (k a)

      -- a lock that is given back
      give_kind : (a : Address) (hold : Hold) (b : Bool) → Stands R code next (rest_of f.taken) rest
          → OutcomeStands P code
          (Moves (record { kind = C.deed_kind P see t (deed.Gives a (not b) next); thread = C.thread_after P see t f fs (deed.Gives a (not b) next); change = LockIs a (if b then Some hold else None) }))
          (D.goes_on P see t g gs rest (release_kind (if b then Some hold else None)) f.operands rest (LockIs a (if b then Some hold else None)))
      give_kind a hold true k = goes Both f.slots f.operands next (rest_of f.taken) rest (LockIs a (Some hold)) k
      give_kind a hold false k = goes Left f.slots f.operands next (rest_of f.taken) rest (LockIs a None) k

      give_held_like : (a : Address) (hold : Hold) (b : Bool) → see.lock_at a ≡ Some hold → Stands R code next (rest_of f.taken) rest
          → Like (C.gives_held next a hold b) (D.release_held P see t g gs rest a hold b)
      give_held_like a hold false lock k = faults_like fault.Null
      give_held_like a hold true lock k =
          subst (λ o. OutcomeStands P code
          (Moves (record { kind = C.deed_kind P see t (deed.Gives a (not (nat_lt 1 hold.count)) next); thread = C.thread_after P see t f fs (deed.Gives a (not (nat_lt 1 hold.count)) next); change = LockIs a (S.stored_given_back o) }))
          (D.release_held P see t g gs rest a hold true)) (sym lock)
          (give_kind a (record hold { count = hold.count - 1 }) (nat_lt 1 hold.count) k)

      give_like : (a : Address) (o : Option Hold) → see.lock_at a ≡ o → Stands R code next (rest_of f.taken) rest
          → Like (C.gives_lock t next a o) (D.release P see t g gs rest a o)
      give_like a None lock k = faults_like fault.Null
      give_like a (Some hold) lock k = give_held_like a hold (hold.holder == t) lock k

      start_run_like : (a : Address) (o : Option ℕ) → Stands R code next f.taken rest → Like (C.starts_run next a o) (D.start_run P see t g gs rest a o)
      start_run_like a None k = faults_like fault.Null
      start_run_like a (Some m) k = goes Other f.slots (under f.operands) next f.taken rest (Starts a m) k

      start_like : (o : Option Address) → Stands R code next f.taken rest → Like (C.starts_thread P see next o) (D.start P see t g gs rest o)
      start_like None k = faults_like fault.Null
      start_like (Some a) k = start_run_like a (run_of P (object_class (see.object_at a))) k

    -- a return to the frame below
    abbrev definition_returns : Bool → List Frame → Outcome
    definition_returns r [] = Moves (record { kind = Both; thread = Done; change = Nothing })
    definition_returns r (h ∷ more) = Moves (record { kind = Both; thread = Running (record h { operands = with_result r (top f.operands) h.operands } ∷ more); change = Nothing })

    returns_is : (rest : List Item) (hs : List Frame) → definition_returns R hs ≡ D.return_to P see t g gs rest hs
    returns_is rest [] = refl
    returns_is rest (h ∷ hs) = refl

    abbrev result_of : Bool → Option Value
    result_of true = Some (top f.operands)
    result_of false = None

    returned_like : (r : Bool) (cs : List CodeFrame) (hs : List Frame) → FramesStand P code cs hs
        → OutcomeStands P code (Moves (record { kind = Both; thread = C.returned_to (result_of r) cs; change = Nothing })) (definition_returns r hs)
    returned_like true _ _ no_frames = both_move Both Done Done Nothing done_stands
    returned_like false _ _ no_frames = both_move Both Done Done Nothing done_stands
    returned_like true _ _ (more_frames h left cs hs stands more) = both_move Both _ _ Nothing (running_stands _ _ (more_frames (record h { operands = top f.operands ∷ h.operands }) left cs hs stands more))
    returned_like false _ _ (more_frames h left cs hs stands more) = both_move Both _ _ Nothing (running_stands _ _ (more_frames h left cs hs stands more))

    -- the table of actions
    act_like : (a : Action) (rest : List Item) (c : Code) → Agree R (Stands R code) c f.taken rest a
        → Like (deed_of P entry room see t f.slots f.operands f.taken (length (f ∷ fs)) c.next c.instr) (act P see t g gs rest a)
    act_like (W.Push v) rest c h = subst (λ y. Like (deed_of P entry room see t f.slots f.operands f.taken (length (f ∷ fs)) c.next y) (act P see t g gs rest (W.Push v))) (sym h.0) (goes Both f.slots (v ∷ f.operands) c.next f.taken rest Nothing h.1)
    act_like (W.Load x) rest c h = subst (λ y. Like (deed_of P entry room see t f.slots f.operands f.taken (length (f ∷ fs)) c.next y) (act P see t g gs rest (W.Load x))) (sym h.0) (load_like rest c.next (slice_get f.slots x) h.1)
    act_like (W.Store x) rest c h = subst (λ y. Like (deed_of P entry room see t f.slots f.operands f.taken (length (f ∷ fs)) c.next y) (act P see t g gs rest (W.Store x))) (sym h.0) (store_like rest c.next x (slice_get f.slots x) h.1)
    act_like W.Drop rest c h = subst (λ y. Like (deed_of P entry room see t f.slots f.operands f.taken (length (f ∷ fs)) c.next y) (act P see t g gs rest W.Drop)) (sym h.0) (goes Both f.slots (under f.operands) c.next f.taken rest Nothing h.1)
    act_like (W.Unary op) rest c h = subst (λ y. Like (deed_of P entry room see t f.slots f.operands f.taken (length (f ∷ fs)) c.next y) (act P see t g gs rest (W.Unary op))) (sym h.0) (goes Both f.slots (unary_value op (top f.operands) ∷ under f.operands) c.next f.taken rest Nothing h.1)
    act_like (W.Binary op) rest c h = subst (λ y. Like (deed_of P entry room see t f.slots f.operands f.taken (length (f ∷ fs)) c.next y) (act P see t g gs rest (W.Binary op))) (sym h.0) (binary_like rest c.next (binary_value op (top (under f.operands)) (top f.operands)) h.1)
    act_like (W.AndThen e) rest c h = subst (λ y. Like (deed_of P entry room see t f.slots f.operands f.taken (length (f ∷ fs)) c.next y) (act P see t g gs rest (W.AndThen e))) (sym h.1) (and_like rest c.next e h.0 (as_truth (top f.operands)) h.2 h.3)
    act_like (W.OrElse e) rest c h = subst (λ y. Like (deed_of P entry room see t f.slots f.operands f.taken (length (f ∷ fs)) c.next y) (act P see t g gs rest (W.OrElse e))) (sym h.1) (or_like rest c.next e h.0 (as_truth (top f.operands)) h.2 h.3)
    act_like (W.Choose s u) rest c h = subst (λ y. Like (deed_of P entry room see t f.slots f.operands f.taken (length (f ∷ fs)) c.next y) (act P see t g gs rest (W.Choose s u))) (sym h.1) (choose_like rest c.next s u h.0 (as_truth (top f.operands)) h.2 h.3)
    act_like (W.Loop e s) rest c h = subst (λ y. Like (deed_of P entry room see t f.slots f.operands f.taken (length (f ∷ fs)) c.next y) (act P see t g gs rest (W.Loop e s))) (sym h.1) (loop_like rest c.next e s h.0 (as_truth (top f.operands)) h.2 h.3)
    act_like (W.Get x) rest c h = subst (λ y. Like (deed_of P entry room see t f.slots f.operands f.taken (length (f ∷ fs)) c.next y) (act P see t g gs rest (W.Get x))) (sym h.0) (get_like rest c.next x (address_of (top f.operands)) h.1)
    act_like (W.Put x) rest c h = subst (λ y. Like (deed_of P entry room see t f.slots f.operands f.taken (length (f ∷ fs)) c.next y) (act P see t g gs rest (W.Put x))) (sym h.0) (put_like rest c.next x (address_of (top (under f.operands))) h.1)
    act_like (W.New x) rest c h = subst (λ y. Like (deed_of P entry room see t f.slots f.operands f.taken (length (f ∷ fs)) c.next y) (act P see t g gs rest (W.New x))) (sym h.0) (new_like rest c.next x (slice_get P.classes x) h.1)
    act_like (W.Call m) rest c h = subst (λ y. Like (deed_of P entry room see t f.slots f.operands f.taken (length (f ∷ fs)) c.next y) (act P see t g gs rest (W.Call m))) (sym h.0) (call_like rest c.next m (slice_get P.methods m) h.1)
    act_like (W.Acquire s) rest c h = subst (λ y. Like (deed_of P entry room see t f.slots f.operands f.taken (length (f ∷ fs)) c.next y) (act P see t g gs rest (W.Acquire s))) (sym h.0) (acquire_like rest c.next s (address_of (top f.operands)) h.1)
    act_like (W.Release a) rest c h = subst (λ y. Like (deed_of P entry room see t f.slots f.operands f.taken (length (f ∷ fs)) c.next y) (act P see t g gs rest (W.Release a))) (sym h.1)
        (subst (λ l. Like (C.releases see t c.next (first_frame l)) (act P see t g gs rest (W.Release a))) (sym h.2)
        (give_like rest c.next a (see.lock_at a) refl (subst (λ l. Stands R code c.next (rest_of l) rest) (sym h.2) h.3)))
    act_like W.Ret rest c h = subst (λ y. Like (deed_of P entry room see t f.slots f.operands f.taken (length (f ∷ fs)) c.next y) (act P see t g gs rest W.Ret)) (sym h)
        (subst (λ o. OutcomeStands P code (done P see t f fs (C.returns (top f.operands) R)) o) (returns_is rest gs) (return_any R))
      where
        return_any : (r : Bool) → OutcomeStands P code (done P see t f fs (C.returns (top f.operands) r)) (definition_returns r gs)
        return_any true = returned_like true fs gs stand
        return_any false = returned_like false fs gs stand
    act_like W.Print rest c h = subst (λ y. Like (deed_of P entry room see t f.slots f.operands f.taken (length (f ∷ fs)) c.next y) (act P see t g gs rest W.Print)) (sym h.0) (goes Other f.slots (under f.operands) c.next f.taken rest (Prints (as_int (top f.operands))) h.1)
    act_like W.Start rest c h = subst (λ y. Like (deed_of P entry room see t f.slots f.operands f.taken (length (f ∷ fs)) c.next y) (act P see t g gs rest W.Start)) (sym h.0) (start_like rest c.next (address_of (top f.operands)) h.1)

    -- what the frame does next
    next_like : Like (deed_at P entry room see t f (length (f ∷ fs)) (slice_get code f.place)) (act_next P see t g gs (unfolded work))
    next_like =
        let once = stands_once R code f.place f.taken work now in
        subst (λ o. Like (deed_at P entry room see t f (length (f ∷ fs)) o) (act_next P see t g gs (unfolded work))) (sym once.there)
        (subst (λ o. Like (deed_of P entry room see t f.slots f.operands f.taken (length (f ∷ fs)) once.line.next once.line.instr) (act_next P see t g gs o)) (sym once.next)
        (act_like once.action once.rest once.line once.agree))

  -- a ready thread enters its method
  first_like : (a : Address) (m : ℕ) (o : Option Method) → slice_get P.methods m ≡ o → OutcomeStands P code (C.ready_thread_enters a m o (slice_get entry m)) (D.enter_first P see t a m o)
  first_like a m None there = both_move Both (Faulted fault.Null []) (Faulted fault.Null []) Nothing (faulted_stands fault.Null [] [] no_frames)
  first_like a m (Some method) there =
      let e = same_place P.methods entry m method is_code.entries there in
      let callee = code_frame_at m method (value.Ref a) [] e.0 in
      let begins = subst (λ b. Stands b code e.0 [] (St method.body ∷ Act W.Ret ∷ [])) (sym (ap has_result there)) (is_code.stands m e.0 method there e.1) in
      subst (λ o. OutcomeStands P code (C.ready_thread_enters a m (Some method) o) (D.enter_first P see t a m (Some method))) (sym e.1)
      (both_move Both (Running (callee ∷ [])) (Running (new_frame m method (value.Ref a) [] ∷ [])) Nothing
      (running_stands _ _ (more_frames callee (St method.body ∷ Act W.Ret ∷ []) [] [] begins no_frames)))

  -- threads that may be absent
  abbrev pub MaybeStands : Option (ThreadOf CodeFrame) → Option Thread → Type 0
  MaybeStands None None = Unit {0}
  MaybeStands None (Some t) = ⊥
  MaybeStands (Some c) None = ⊥
  MaybeStands (Some c) (Some t) = ThreadStands P code c t

  thread_like : (c : ThreadOf CodeFrame) (u : Thread) → ThreadStands P code c u → OutcomeStands P code (code_turn P code entry room see t (Some c)) (turn P see t (Some u))
  thread_like _ _ (ready_stands a m) = first_like a m (slice_get P.methods m) refl
  thread_like _ _ (running_stands _ _ no_frames) = both_move Both (Faulted fault.Null []) (Faulted fault.Null []) Nothing (faulted_stands fault.Null [] [] no_frames)
  thread_like _ _ (running_stands _ _ (more_frames f work fs gs now stand)) = next_like f work fs gs now stand
  thread_like _ _ done_stands = both_done
  thread_like _ _ (faulted_stands kind fs gs stand) = both_faulted kind

  pub turn_like : (c : Option (ThreadOf CodeFrame)) (u : Option Thread) → MaybeStands c u → OutcomeStands P code (code_turn P code entry room see t c) (turn P see t u)
  turn_like None None h = both_absent
  turn_like None (Some u) h = absurd h
  turn_like (Some c) None h = absurd h
  turn_like (Some c) (Some u) h = thread_like c u h
