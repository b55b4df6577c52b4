-- What a thread's turn comes to, as it is decided.
use Rattle.std.proofs.Common.{◌≡◌, ℕ, ◌+◌, List, [], ◌∷◌, refl, sym, ap, subst, ◌∙◌, add-one, arith}
use Rattle.std.proofs.lemmas.Bool.Decides.{nat_tests}
use Rattle.std.proofs.lemmas.Option.{slice_get_within}
use Rattle.std.specs.Prelude.{Bool, true, false, ◌==◌, nat_lt, if◌then◌else◌, IsSome, is_some, option_and_then, Option, Some, None, Ok, map, length, slice_get, slice_set}
use Rattle.std.specs.Option.{option_map}
use Rattle.std.specs.FinMap as finite
use Rattle.core_program.specs.Core.{Program, Class, Field, Method}
use Rattle.state.specs.declared.value.Address.{Address}
use Rattle.state.specs.declared.value.Value.{Value}
use Rattle.state.specs.declared.value.Value.TheVariants as value
use Rattle.state.specs.declared.value.StepKind.TheVariants.{Both}
use Rattle.state.specs.Values.{top, under, dropped, popped, as_truth, address_of, binary_value}
use Rattle.state.specs.Memory.{Hold, Object, lists, field_value, new_values}
use Rattle.state.specs.States.{ThreadOf, Ready, Running, Done, Faulted, StateOf, fields_of}
use Rattle.state.specs.Frames.{CellFrame, CodeFrame, code_frame, code_thread, frames_in, first_frame, may_enter}
use Rattle.compile.specs.declared.stack.Code.{Code}
use Rattle.compile.specs.declared.stack.Instr.{Instr}
use Rattle.compile.specs.declared.stack.Instr.TheVariants as i
use Rattle.semantics.specs.Step.{Shared, OutcomeOf, Moves, Nothing, seen_by, value_at, unless_final, index_of, object_class, target_at, run_of, most_frames}
use Rattle.machine.specs.declared.deed.Deed.{Deed}
use Rattle.machine.specs.declared.deed.Deed.TheVariants as deed
use Rattle.machine.specs.declared.deed.Turn.{Turn}
use Rattle.machine.specs.declared.deed.Turn.TheVariants as turn
use Rattle.machine.specs.CodeMachine as C
use Rattle.machine.specs.CodeMachine.{deed_of, done, code_turn, code_frame_at, entered, next_object, ready_thread_enters}
use Rattle.machine.specs.Deeds.{Can, IsOwned, called_thread, deed_thread, deed_heap, deed_locks, deed_output}
use Rattle.machine.specs.Reasons.{IsReason}
use Rattle.machine.specs.declared.deed.StepEnd.TheVariants as ends
use Rattle.machine.specs.Turns.{first_turn, deed_turn, next_turn, line_deed}
use Rattle.machine.specs.Taken.{first_thread, IsTaken}
use Rattle.machine.proofs.KindLemmas.{line_same}
use Rattle.machine.proofs.Lists.{taken_is, dropped_one}

-- whether it is done to the thread's own frames and to what all share: no fault, no wait, and no start of a thread
abbrev pub is_own : Deed → Bool
is_own (deed.Fails kind) = false
is_own (deed.Waits a holder) = false
is_own (deed.Starts a m place) = false
is_own d = true

unless_some : (b : Bool) (o : Option Value) (v : Value) → (if b then None else o) ≡ Some v → o ≡ Some v
unless_some true o v is = absurd cc
unless_some false o v is = is

where_some : (b : Bool) (o : Option Value) (v : Value) → (if b then o else None) ≡ Some v → o ≡ Some v
where_some true o v is = is
where_some false o v is = absurd cc

none_some : {F : Type 0} (v : Value) → None ≡ Some v → F
none_some v is = absurd cc

-- a field that may be written is there
has_field : (P : Program) (x : ℕ) (o : Option Object) (field : Option Field) (v : Value) → unless_final field (field_value P x o field) ≡ Some v → IsSome (option_and_then (λ o. slice_get o.values (index_of field)) o)
has_field P x o None v is = absurd cc
has_field P x None (Some f) v is = none_some v (unless_some f.is_final None v is)
has_field P x (Some o) (Some f) v is =
    ap is_some (where_some (lists (slice_get P.classes o.class) f.index x) (slice_get o.values f.index) v
    (unless_some f.is_final (if lists (slice_get P.classes o.class) f.index x then slice_get o.values f.index else None) v is))

module _ (P : Program) (see : Shared) (t : ℕ) where
  -- what is known of a thread and of the outcome of its turn, by what was decided
  abbrev pub TurnIs : Option (ThreadOf CellFrame) → OutcomeOf CodeFrame → Turn → Type 0
  TurnIs c o (turn.Ends why) = IsReason why o
  TurnIs c o (turn.Fails kind) = (thread : ThreadOf CellFrame) × (c ≡ Some thread) × (may_enter thread ≡ true)
      × (o ≡ Moves (record { kind = Both; thread = Faulted kind (frames_in (code_thread thread)); change = Nothing }))
  TurnIs c o (turn.Enters a m place most) = (method : Method) × (c ≡ Some (Ready a m)) × (slice_get P.methods m ≡ Some method)
      × (o ≡ Moves (record { kind = Both; thread = first_thread m method (value.Ref a) place; change = Nothing }))
  TurnIs c o (turn.Starts a m place) = (f : CellFrame) × (below : List CellFrame) × (c ≡ Some (Running (f ∷ below)))
      × (o ≡ done P see t (code_frame f) (map code_frame below) (deed.Starts a m place))
  TurnIs c o (turn.Does d) = (f : CellFrame) × (below : List CellFrame) × (c ≡ Some (Running (f ∷ below)))
      × (o ≡ done P see t (code_frame f) (map code_frame below) d) × (is_own d ≡ true) × Can P see t f.slots d

  module _ (slots : List Value) where
    can_pushes : (next : ℕ) (o : Option Value) → Can P see t slots (C.pushes next o)
    can_pushes next None = tt
    can_pushes next (Some v) = tt

    can_stores : (next x : ℕ) (v : Value) (o : Option Value) → slice_get slots x ≡ o → Can P see t slots (C.stores next v x o)
    can_stores next x v None there = tt
    can_stores next x v (Some old) there = slice_get_within slots x old there

    can_combines : (next : ℕ) (o : Option Value) → Can P see t slots (C.combines next o)
    can_combines next None = tt
    can_combines next (Some v) = tt

    can_and : (next other : ℕ) (b : Bool) → Can P see t slots (C.branches_and next other b)
    can_and next other true = tt
    can_and next other false = tt

    can_or : (next other : ℕ) (b : Bool) → Can P see t slots (C.branches_or next other b)
    can_or next other true = tt
    can_or next other false = tt

    can_branch : (next other : ℕ) (b : Bool) → Can P see t slots (C.branches next other b)
    can_branch next other true = tt
    can_branch next other false = tt

    can_read : (next x : ℕ) (a : Address) (o : Option Value) → Can P see t slots (C.reads_value next a x o)
    can_read next x a None = tt
    can_read next x a (Some v) = tt

    can_reads : (next x : ℕ) (o : Option Address) → Can P see t slots (C.reads P see t next x o)
    can_reads next x None = tt
    can_reads next x (Some a) = can_read next x a (value_at P see t a x)

    can_write : (next x : ℕ) (v : Value) (a : Address) (o : Option Value) → unless_final (slice_get P.fields x) (value_at P see t a x) ≡ o
        → Can P see t slots (C.writes_value next v a x (index_of (slice_get P.fields x)) o)
    can_write next x v a None is = tt
    can_write next x v a (Some old) is = has_field P x (see.object_at a) (slice_get P.fields x) old is

    can_writes : (next x : ℕ) (v : Value) (o : Option Address) → Can P see t slots (C.writes P see t next v x o)
    can_writes next x v None = tt
    can_writes next x v (Some a) = can_write next x v a (unless_final (slice_get P.fields x) (value_at P see t a x)) refl

    can_make : (next c : ℕ) (o : Option Class) → Can P see t slots (C.makes next c o)
    can_make next c None = tt
    can_make next c (Some class) = tt

    can_enter : (entry room : List ℕ) (arity next m : ℕ) (method : Method) (a : Address) (b : Bool) (o p : Option ℕ) → slice_get P.methods m ≡ Some method → slice_get entry m ≡ o → slice_get room m ≡ p
        → Can P see t slots (C.enters entry room arity next m a b)
    can_enter entry room arity next m method a false o p there eo ep = tt
    can_enter entry room arity next m method a true None p there eo ep = subst (λ x. Can P see t slots (C.enters_at arity next m a x (slice_get room m))) (sym eo) tt
    can_enter entry room arity next m method a true (Some place) None there eo ep =
        subst (λ x. Can P see t slots (C.enters_at arity next m a x (slice_get room m))) (sym eo) (subst (λ x. Can P see t slots (C.enters_at arity next m a (Some place) x)) (sym ep) tt)
    can_enter entry room arity next m method a true (Some place) (Some most) there eo ep =
        subst (λ x. Can P see t slots (C.enters_at arity next m a x (slice_get room m))) (sym eo) (subst (λ x. Can P see t slots (C.enters_at arity next m a (Some place) x)) (sym ep) (ap is_some there))

    can_enter_some : (entry room : List ℕ) (depth arity next m : ℕ) (o : Option Method) (a : Address) → slice_get P.methods m ≡ o → Can P see t slots (C.enters_some entry room depth arity next m o a)
    can_enter_some entry room depth arity next m None a there = tt
    can_enter_some entry room depth arity next m (Some method) a there = can_enter entry room arity next m method a (nat_lt depth most_frames) (slice_get entry m) (slice_get room m) there refl refl

    can_dispatch : (entry room : List ℕ) (depth arity next : ℕ) (o : Option ℕ) (a : Address) → Can P see t slots (C.dispatches P entry room depth arity next o a)
    can_dispatch entry room depth arity next None a = tt
    can_dispatch entry room depth arity next (Some m) a = can_enter_some entry room depth arity next m (slice_get P.methods m) a refl

    can_call_on : (entry room : List ℕ) (depth arity next m : ℕ) (o : Option Address) → Can P see t slots (C.calls_on P see entry room depth arity next m o)
    can_call_on entry room depth arity next m None = tt
    can_call_on entry room depth arity next m (Some a) = can_dispatch entry room depth arity next (target_at P m (object_class (see.object_at a))) a

    can_call : (entry room : List ℕ) (depth next : ℕ) (ops : List Value) (m : ℕ) (o : Option Method) → Can P see t slots (C.call_deed P see entry room depth next ops m o)
    can_call entry room depth next ops m None = tt
    can_call entry room depth next ops m (Some method) = can_call_on entry room depth (length method.params) next m (address_of (top (dropped (length method.params) ops)))

    can_take_held : (next : ℕ) (a : Address) (hold : Hold) (b : Bool) → see.lock_at a ≡ Some hold → (hold.holder == t) ≡ b → Can P see t slots (C.takes_held next a hold b)
    can_take_held next a hold true there is = subst (IsOwned t) (sym there) (grind (arith, nat_tests))
    can_take_held next a hold false there is = tt

    can_take : (next : ℕ) (a : Address) (o : Option Hold) → see.lock_at a ≡ o → Can P see t slots (C.takes_lock t next a o)
    can_take next a None there = subst (IsOwned t) (sym there) tt
    can_take next a (Some hold) there = can_take_held next a hold (hold.holder == t) there refl

    can_acquire : (next : ℕ) (o : Option Address) → Can P see t slots (C.acquires see t next o)
    can_acquire next None = tt
    can_acquire next (Some a) = can_take next a (see.lock_at a) refl

    can_give_held : (next : ℕ) (a : Address) (hold : Hold) (b : Bool) → see.lock_at a ≡ Some hold → Can P see t slots (C.gives_held next a hold b)
    can_give_held next a hold false there = tt
    can_give_held next a hold true there = ap is_some there

    can_give : (next : ℕ) (a : Address) (o : Option Hold) → see.lock_at a ≡ o → Can P see t slots (C.gives_lock t next a o)
    can_give next a None there = tt
    can_give next a (Some hold) there = can_give_held next a hold (hold.holder == t) there

    can_release : (next : ℕ) (o : Option Address) → Can P see t slots (C.releases see t next o)
    can_release next None = tt
    can_release next (Some a) = can_give next a (see.lock_at a) refl

    can_return : (v : Value) (b : Bool) → Can P see t slots (C.returns v b)
    can_return v true = tt
    can_return v false = tt

    can_run : (next : ℕ) (a : Address) (o : Option ℕ) → Can P see t slots (C.starts_run next a o)
    can_run next a None = tt
    can_run next a (Some m) = tt

    can_start : (next : ℕ) (o : Option Address) → Can P see t slots (C.starts_thread P see next o)
    can_start next None = tt
    can_start next (Some a) = can_run next a (run_of P (object_class (see.object_at a)))

    -- wherever an instruction's deed is decided, what it needs is there
    can_of : (entry room : List ℕ) (ops : List Value) (locks : List Address) (depth next : ℕ) (instr : Instr) → Can P see t slots (deed_of P entry room see t slots ops locks depth next instr)
    can_of entry room ops locks depth next (i.Push v) = tt
    can_of entry room ops locks depth next (i.Load x) = can_pushes next (slice_get slots x)
    can_of entry room ops locks depth next (i.Store x) = can_stores next x (top ops) (slice_get slots x) refl
    can_of entry room ops locks depth next i.Drop = tt
    can_of entry room ops locks depth next (i.Unary op) = tt
    can_of entry room ops locks depth next (i.Binary op) = can_combines next (binary_value op (top (under ops)) (top ops))
    can_of entry room ops locks depth next (i.AndThen other) = can_and next other (as_truth (top ops))
    can_of entry room ops locks depth next (i.OrElse other) = can_or next other (as_truth (top ops))
    can_of entry room ops locks depth next (i.Branch other) = can_branch next other (as_truth (top ops))
    can_of entry room ops locks depth next (i.Get x) = can_reads next x (address_of (top ops))
    can_of entry room ops locks depth next (i.Put x) = can_writes next x (top ops) (address_of (top (under ops)))
    can_of entry room ops locks depth next (i.New c) = can_make next c (slice_get P.classes c)
    can_of entry room ops locks depth next (i.Call m) = can_call entry room depth next ops m (slice_get P.methods m)
    can_of entry room ops locks depth next i.Acquire = can_acquire next (address_of (top ops))
    can_of entry room ops locks depth next i.Release = can_release next (first_frame locks)
    can_of entry room ops locks depth next (i.Ret result) = can_return (top ops) result
    can_of entry room ops locks depth next i.Print = tt
    can_of entry room ops locks depth next i.Start = can_start next (address_of (top ops))

  can_line : (entry room : List ℕ) (f : CellFrame) (fs : List CellFrame) (o : Option Code) → Can P see t f.slots (line_deed P entry room see t (Running (f ∷ fs)) o)
  can_line entry room f fs None = tt
  can_line entry room f fs (Some c) = can_of f.slots entry room f.operands f.taken (length (f ∷ fs)) c.next c.instr

  deed_is : (f : CellFrame) (below : List CellFrame) (d : Deed) → Can P see t f.slots d → TurnIs (Some (Running (f ∷ below))) (done P see t (code_frame f) (map code_frame below) d) (deed_turn d)
  deed_is f below (deed.Fails kind) can = (Running (f ∷ below), refl, refl, refl)
  deed_is f below (deed.Goes drops gives place) can = (f, below, refl, refl, refl, can)
  deed_is f below (deed.Stores x v place) can = (f, below, refl, refl, refl, can)
  deed_is f below (deed.Reads a x v place) can = (f, below, refl, refl, refl, can)
  deed_is f below (deed.Writes a x index v place) can = (f, below, refl, refl, refl, can)
  deed_is f below (deed.Makes c n place) can = (f, below, refl, refl, refl, can)
  deed_is f below (deed.Enters m n a place at most) can = (f, below, refl, refl, refl, can)
  deed_is f below (deed.Takes a again place) can = (f, below, refl, refl, refl, can)
  deed_is f below (deed.Waits a holder) can = refl
  deed_is f below (deed.Gives a frees place) can = (f, below, refl, refl, refl, can)
  deed_is f below (deed.Returns gives) can = (f, below, refl, refl, refl, can)
  deed_is f below (deed.Prints n place) can = (f, below, refl, refl, refl, can)
  deed_is f below (deed.Starts a m place) can = (f, below, refl, refl)

  first_is : (a : Address) (m : ℕ) (o : Option Method) (entry room : Option ℕ) → slice_get P.methods m ≡ o → TurnIs (Some (Ready a m)) (ready_thread_enters a m o entry) (first_turn a m o entry room)
  first_is a m None entry room there = (Ready a m, refl, refl, refl)
  first_is a m (Some method) None room there = (Ready a m, refl, refl, refl)
  first_is a m (Some method) (Some entry) None there = (method, refl, there, refl)
  first_is a m (Some method) (Some entry) (Some most) there = (method, refl, there, refl)

  pub turn_is : (code : List Code) (entry room : List ℕ) (c : Option (ThreadOf CellFrame)) → TurnIs c (code_turn P code entry room see t (option_map code_thread c)) (next_turn P code entry room see t c)
  turn_is code entry room None = refl
  turn_is code entry room (Some Done) = refl
  turn_is code entry room (Some (Faulted kind fs)) = refl
  turn_is code entry room (Some (Ready a m)) = first_is a m (slice_get P.methods m) (slice_get entry m) (slice_get room m) refl
  turn_is code entry room (Some (Running [])) = (Running [], refl, refl, refl)
  turn_is code entry room (Some (Running (f ∷ fs))) =
      subst (λ d. TurnIs (Some (Running (f ∷ fs))) (done P see t (code_frame f) (map code_frame fs) d) (deed_turn (line_deed P entry room see t (Running (f ∷ fs)) (slice_get code f.place))))
      (sym (line_same P entry room see t f fs (slice_get code f.place))) (deed_is f fs (line_deed P entry room see t (Running (f ∷ fs)) (slice_get code f.place)) (can_line entry room f fs (slice_get code f.place)))

dropped_more : (n : ℕ) (ops : List Value) → dropped (n + 1) ops ≡ under (dropped n ops)
dropped_more n ops = ap (λ k. dropped k ops) (add-one n) ∙ dropped_one n ops

called_same : (m n place at : ℕ) (this : Value) (f : CodeFrame) (below : List CodeFrame) (o : Option Method) → IsSome o
    → called_thread m o this n place at (Running (f ∷ below)) ≡ entered m o this (popped n [] f.operands) at (record f { operands = under (dropped n f.operands); place = place } ∷ below)
called_same m n place at this f below None there = absurd cc
called_same m n place at this f below (Some method) there =
    λ j. Running (code_frame_at m method this (sym (taken_is n f.operands) j) at ∷ record f { operands = dropped_more n f.operands j; place = place } ∷ below)

-- what is done to the parts of a state leads to the state that the outcome leads to
pub deed_taken : (P : Program) (t : ℕ) (slots : List Value) (s new : StateOf CodeFrame) (f : CodeFrame) (below : List CodeFrame) (d : Deed) → is_own d ≡ true → Can P (seen_by t s) t slots d
    → new.heap ≡ deed_heap P (seen_by t s) t f.operands d s.heap → new.locks ≡ deed_locks (seen_by t s) t d s.locks
    → new.threads ≡ slice_set s.threads t (deed_thread P (seen_by t s) t d (Running (f ∷ below))) → new.output ≡ deed_output d s.output
    → IsTaken t (Ok tt) new s (done P (seen_by t s) t f below d)
deed_taken P t slots s new f below (deed.Fails kind) own can heap locks threads output = absurd cc
deed_taken P t slots s new f below (deed.Goes drops gives place) own can heap locks threads output = λ j. record { heap = heap j; locks = locks j; threads = threads j; output = output j }
deed_taken P t slots s new f below (deed.Stores x v place) own can heap locks threads output = λ j. record { heap = heap j; locks = locks j; threads = threads j; output = output j }
deed_taken P t slots s new f below (deed.Reads a x v place) own can heap locks threads output = λ j. record { heap = heap j; locks = locks j; threads = threads j; output = output j }
deed_taken P t slots s new f below (deed.Writes a x index v place) own can heap locks threads output = λ j. record { heap = heap j; locks = locks j; threads = threads j; output = output j }
deed_taken P t slots s new f below (deed.Makes c n place) own can heap locks threads output =
    let made = heap ∙ ap (λ ops. finite.insert s.heap (next_object (seen_by t s) t) (record { class = c; values = new_values P (fields_of (slice_get P.classes c)) ops })) (sym (taken_is n f.operands)) in
    λ j. record { heap = made j; locks = locks j; threads = threads j; output = output j }
deed_taken P t slots s new f below (deed.Enters m n a place at most) own can heap locks threads output =
    let called = threads ∙ ap (slice_set s.threads t) (called_same m n place at (value.Ref a) f below (slice_get P.methods m) can) in
    λ j. record { heap = heap j; locks = locks j; threads = called j; output = output j }
deed_taken P t slots s new f below (deed.Takes a again place) own can heap locks threads output = λ j. record { heap = heap j; locks = locks j; threads = threads j; output = output j }
deed_taken P t slots s new f below (deed.Waits a holder) own can heap locks threads output = absurd cc
deed_taken P t slots s new f below (deed.Gives a frees place) own can heap locks threads output = λ j. record { heap = heap j; locks = locks j; threads = threads j; output = output j }
deed_taken P t slots s new f [] (deed.Returns gives) own can heap locks threads output = λ j. record { heap = heap j; locks = locks j; threads = threads j; output = output j }
deed_taken P t slots s new f (g ∷ more) (deed.Returns gives) own can heap locks threads output = λ j. record { heap = heap j; locks = locks j; threads = threads j; output = output j }
deed_taken P t slots s new f below (deed.Prints n place) own can heap locks threads output = λ j. record { heap = heap j; locks = locks j; threads = threads j; output = output j }
deed_taken P t slots s new f below (deed.Starts a m place) own can heap locks threads output = absurd cc

-- where memory is wanting, what would be done was a step
pub does_reason : (P : Program) (see : Shared) (t : ℕ) (f : CodeFrame) (below : List CodeFrame) (d : Deed) → is_own d ≡ true → IsReason ends.NoMemory (done P see t f below d)
does_reason P see t f below (deed.Fails kind) own = absurd cc
does_reason P see t f below (deed.Goes drops gives place) own = refl
does_reason P see t f below (deed.Stores x v place) own = refl
does_reason P see t f below (deed.Reads a x v place) own = refl
does_reason P see t f below (deed.Writes a x index v place) own = refl
does_reason P see t f below (deed.Makes c n place) own = refl
does_reason P see t f below (deed.Enters m n a place at most) own = refl
does_reason P see t f below (deed.Takes a again place) own = refl
does_reason P see t f below (deed.Waits a holder) own = absurd cc
does_reason P see t f below (deed.Gives a frees place) own = refl
does_reason P see t f below (deed.Returns gives) own = refl
does_reason P see t f below (deed.Prints n place) own = refl
does_reason P see t f below (deed.Starts a m place) own = refl
