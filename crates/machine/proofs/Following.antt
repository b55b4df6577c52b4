-- What a deed leaves, for the instruction by which it was decided.
use Rattle.std.proofs.Common.{◌≡◌, ◌⊎◌, inl, inr, ℕ, zero, suc, ◌+◌, ◌-◌, List, [], ◌∷◌, length, refl, sym, ap, subst, ◌∙◌, add-one, arith}
use Rattle.std.specs.Prelude.{Bool, true, false, ◌==◌, ◌<◌, nat_lt, Option, Some, None, is_some, slice_get, if◌then◌else◌, All, get_or}
use Rattle.std.proofs.lemmas.Bool.{eqb-true}
use Rattle.std.proofs.lemmas.Option.{none-some, slice_get-get_or}
use Rattle.std.proofs.lemmas.List.Elements.{All-head, All-tail}
use Rattle.core_program.specs.Core.{Program, Class, Method}
use Rattle.core_program.specs.Dispatch.{partner, targets_in, target_of, Overrides}
use Rattle.core_program.specs.Typed.{IsTyped}
use Rattle.core_program.proofs.Running.{itself_or_over}
use Rattle.state.specs.declared.value.Address.{Address}
use Rattle.state.specs.declared.value.Value.{Value}
use Rattle.state.specs.Values.{top, under, dropped, as_truth, address_of, binary_value}
use Rattle.state.specs.Memory.{Hold}
use Rattle.state.specs.Frames.{frame_given, first_frame}
use Rattle.compile.specs.declared.stack.Instr.{Instr}
use Rattle.compile.specs.declared.stack.Instr.TheVariants as i
use Rattle.compile.specs.Rooms.{at_next, other_place, arguments_of_new, arguments_of_call, after_call, with_result_of}
use Rattle.semantics.specs.Step.{Shared, value_at, unless_final, index_of, object_class, target_at, run_of, class_finals, most_frames}
use Rattle.machine.specs.declared.deed.Deed.{Deed}
use Rattle.machine.specs.declared.deed.Deed.TheVariants as deed
use Rattle.machine.specs.CodeMachine as C
use Rattle.machine.specs.CodeMachine.{deed_of}
use Rattle.machine.specs.Lean.{instr_takes}
use Rattle.machine.specs.Rooms.{HasRoomOf}

under_length : (ops : List Value) → length (under ops) ≡ length ops - 1
under_length [] = refl
under_length (v ∷ ops) = omega arith

dropped_length : (k : ℕ) (ops : List Value) → length (dropped k ops) ≡ length ops - k
dropped_length zero ops = omega arith
dropped_length (suc k) [] = omega (arith, dropped_length k [])
dropped_length (suc k) (v ∷ ops) = omega (arith, dropped_length k ops)

-- the method that runs for another leaves as many operands as that one
abbrev pub SameLeft : Program → Type 0
SameLeft P = (c m n k : ℕ) → target_of P c m ≡ Some n → after_call (slice_get P.methods n) k ≡ after_call (slice_get P.methods m) k

-- a method that has a partner is there
partner_there : (count : ℕ) (ps : List (ℕ × ℕ)) (m k : ℕ) → All (λ p. (p.0 < count) × (p.1 < count)) ps → partner ps m ≡ Some k → m < count
partner_there count [] m k all is = absurd (none-some k is)
partner_there count (p ∷ ps) m k all is = by_first (p.0 == m) refl (partner_there count ps m k (All-tail (λ p. (p.0 < count) × (p.1 < count)) p ps all))
  where
    by_first : (b : Bool) → (p.0 == m) ≡ b → (partner ps m ≡ Some k → m < count) → m < count
    by_first true same later = subst (λ x. x < count) (eqb-true p.0 m same) (All-head (λ p. (p.0 < count) × (p.1 < count)) p ps all).0
    by_first false other later = later (sym (ap (λ b. if b then Some p.1 else partner ps m) other) ∙ is)

module _ (P : Program) (typed : IsTyped P) where
  target_there : (c m n : ℕ) → target_of P c m ≡ Some n → m < length P.methods
  target_there c m n runs = in_class (slice_get P.classes c) refl
    where
      in_class : (o : Option Class) → slice_get P.classes c ≡ o → m < length P.methods
      in_class None none = absurd (none-some n (sym (ap (λ x. partner (targets_in x) m) none) ∙ runs))
      in_class (Some class) there = partner_there (length P.methods) class.targets m n (typed.classes c class there).targets.ids (sym (ap (λ x. partner (targets_in x) m) there) ∙ runs)

  -- what runs for a method is that method or overrides it, and then has its result
  pub same_left : SameLeft P
  same_left c m n k runs = elim (itself_or_over P typed c m n runs) [
    | inl same ↦ ap (λ x. after_call (slice_get P.methods x) k) same
    | inr over ↦ by_method over (slice_get P.methods m) refl
  ]
    where
      by_method : Overrides P n m → (o : Option Method) → slice_get P.methods m ≡ o → after_call (slice_get P.methods n) k ≡ after_call (slice_get P.methods m) k
      by_method over None none = absurd (none-some (get_or P.methods m over.method) (sym none ∙ slice_get-get_or P.methods m over.method (target_there c m n runs)))
      by_method over (Some method) there =
          ap (λ o. after_call o k) over.is ∙ ap (λ r. with_result_of r k) (typed.overriding n m over.method method over over.is there).result ∙ sym (ap (λ o. after_call o k) there)

module _ (P : Program) (entry room : List ℕ) (see : Shared) (t : ℕ) (slots ops : List Value) (locks : List Address) (depth next : ℕ) where
  -- the place is reached with so many operands by the instruction, from this frame
  abbrev pub Leads : Instr → (place k : ℕ) → Type 0
  Leads instr place k = ((place ≡ next) × (at_next P instr (length ops) ≡ Some k)) ⊎ ((other_place instr ≡ Some place) × (k ≡ length ops - 1))

  abbrev pub Follows : Instr → Deed → Type 0
  Follows instr (deed.Fails kind) = Unit {0}
  Follows instr (deed.Goes drops gives place) = Leads instr place (length (frame_given gives (dropped drops ops)))
  Follows instr (deed.Stores x v place) = Leads instr place (length (under ops))
  Follows instr (deed.Reads a x v place) = Leads instr place (suc (length (under ops)))
  Follows instr (deed.Writes a x index v place) = Leads instr place (length (under (under ops)))
  Follows instr (deed.Makes c n place) = Leads instr place (suc (length (dropped n ops))) × (instr_takes instr ≡ true)
  Follows instr (deed.Enters m n a place at most) =
      (SameLeft P → Leads instr place (after_call (slice_get P.methods m) (length (under (dropped n ops))))) × (instr_takes instr ≡ true) × (slice_get entry m ≡ Some at) × (slice_get room m ≡ Some most)
  Follows instr (deed.Takes a again place) = Leads instr place (length (under ops)) × (instr_takes instr ≡ true)
  Follows instr (deed.Waits a holder) = Unit {0}
  Follows instr (deed.Gives a frees place) = Leads instr place (length ops)
  Follows instr (deed.Returns gives) = (result : Bool) × (instr ≡ i.Ret result) × (is_some gives ≡ result)
  Follows instr (deed.Prints n place) = Leads instr place (length (under ops)) × (instr_takes instr ≡ true)
  Follows instr (deed.Starts a m place) = Leads instr place (length (under ops)) × (instr_takes instr ≡ true)

  abbrev one_less : Some (length ops - 1) ≡ Some (length (under ops))
  one_less = ap Some (sym (under_length ops))

  abbrev replaced : Some (length ops - 1 + 1) ≡ Some (suc (length (under ops)))
  replaced = ap Some (omega (arith, under_length ops))

  pushes : (instr : Instr) (o : Option Value) → at_next P instr (length ops) ≡ Some (length ops + 1) → Follows instr (C.pushes next o)
  pushes instr None is = tt
  pushes instr (Some v) is = inl (refl, is ∙ ap Some (add-one (length ops)))

  stores : (v : Value) (x : ℕ) (o : Option Value) → Follows (i.Store x) (C.stores next v x o)
  stores v x None = tt
  stores v x (Some old) = inl (refl, one_less)

  combines : (instr : Instr) (o : Option Value) → at_next P instr (length ops) ≡ Some (length ops - 2 + 1) → Follows instr (C.combines next o)
  combines instr None is = tt
  combines instr (Some v) is = inl (refl, is ∙ ap Some (omega (arith, dropped_length 2 ops)))

  and_then : (other : ℕ) (b : Bool) → Follows (i.AndThen other) (C.branches_and next other b)
  and_then other true = inr (refl, under_length ops)
  and_then other false = inl (refl, replaced)

  or_else : (other : ℕ) (b : Bool) → Follows (i.OrElse other) (C.branches_or next other b)
  or_else other true = inl (refl, replaced)
  or_else other false = inr (refl, under_length ops)

  branches : (other : ℕ) (b : Bool) → Follows (i.Branch other) (C.branches next other b)
  branches other true = inl (refl, one_less)
  branches other false = inr (refl, under_length ops)

  read : (x : ℕ) (a : Address) (o : Option Value) → Follows (i.Get x) (C.reads_value next a x o)
  read x a None = tt
  read x a (Some v) = inl (refl, replaced)

  reads : (x : ℕ) (o : Option Address) → Follows (i.Get x) (C.reads P see t next x o)
  reads x None = tt
  reads x (Some a) = read x a (value_at P see t a x)

  write : (x index : ℕ) (v : Value) (a : Address) (o : Option Value) → Follows (i.Put x) (C.writes_value next v a x index o)
  write x index v a None = tt
  write x index v a (Some old) = inl (refl, ap Some (omega (arith, under_length ops, under_length (under ops))))

  writes : (x : ℕ) (v : Value) (o : Option Address) → Follows (i.Put x) (C.writes P see t next v x o)
  writes x v None = tt
  writes x v (Some a) = write x (index_of (slice_get P.fields x)) v a (unless_final (slice_get P.fields x) (value_at P see t a x))

  makes : (c : ℕ) (o : Option Class) → slice_get P.classes c ≡ o → Follows (i.New c) (C.makes next c o)
  makes c None there = tt
  makes c (Some class) there =
      (inl (refl, ap (λ x. Some (length ops - arguments_of_new x + 1)) there ∙ ap Some (omega (arith, dropped_length (class_finals class) ops))), refl)

  module _ (m : ℕ) (method : Method) (called : slice_get P.methods m ≡ Some method) where
    enters_at : (c n : ℕ) → target_of P c m ≡ Some n → (a : Address) (o p : Option ℕ) → slice_get entry n ≡ o → slice_get room n ≡ p → Follows (i.Call m) (C.enters_at (length method.params) next n a o p)
    enters_at c n runs a None p begins wants = tt
    enters_at c n runs a (Some place) None begins wants = tt
    enters_at c n runs a (Some place) (Some most) begins wants = (
      λ same. inl (
        refl,
        ap (λ k. Some (after_call (slice_get P.methods m) k))
            (ap (λ x. length ops - arguments_of_call x - 1) called ∙ omega (arith, under_length (dropped (length method.params) ops), dropped_length (length method.params) ops))
            ∙ ap Some (sym (same c m n (length (under (dropped (length method.params) ops))) runs)),
      ),
      refl,
      begins,
      wants,
    )

    enters : (c n : ℕ) → target_of P c m ≡ Some n → (a : Address) (b : Bool) → Follows (i.Call m) (C.enters entry room (length method.params) next n a b)
    enters c n runs a false = tt
    enters c n runs a true = enters_at c n runs a (slice_get entry n) (slice_get room n) refl refl

    enters_some : (c n : ℕ) → target_of P c m ≡ Some n → (o : Option Method) (a : Address) → Follows (i.Call m) (C.enters_some entry room depth (length method.params) next n o a)
    enters_some c n runs None a = tt
    enters_some c n runs (Some running) a = enters c n runs a (nat_lt depth most_frames)

    dispatches : (c o : Option ℕ) → target_at P m c ≡ o → (a : Address) → Follows (i.Call m) (C.dispatches P entry room depth (length method.params) next o a)
    dispatches c None runs a = tt
    dispatches None (Some n) runs a = absurd (let e : None ≡ Some n = runs in cc)
    dispatches (Some c) (Some n) runs a = enters_some c n runs (slice_get P.methods n) a

    calls_on : (o : Option Address) → Follows (i.Call m) (C.calls_on P see entry room depth (length method.params) next m o)
    calls_on None = tt
    calls_on (Some a) = dispatches (object_class (see.object_at a)) (target_at P m (object_class (see.object_at a))) refl a

  calls : (m : ℕ) (o : Option Method) → slice_get P.methods m ≡ o → Follows (i.Call m) (C.call_deed P see entry room depth next ops m o)
  calls m None there = tt
  calls m (Some method) there = calls_on m method there (address_of (top (dropped (length method.params) ops)))

  takes_held : (a : Address) (hold : Hold) (b : Bool) → Follows i.Acquire (C.takes_held next a hold b)
  takes_held a hold true = (inl (refl, one_less), refl)
  takes_held a hold false = tt

  takes : (a : Address) (o : Option Hold) → Follows i.Acquire (C.takes_lock t next a o)
  takes a None = (inl (refl, one_less), refl)
  takes a (Some hold) = takes_held a hold (hold.holder == t)

  acquires : (o : Option Address) → Follows i.Acquire (C.acquires see t next o)
  acquires None = tt
  acquires (Some a) = takes a (see.lock_at a)

  gives_held : (a : Address) (hold : Hold) (b : Bool) → Follows i.Release (C.gives_held next a hold b)
  gives_held a hold false = tt
  gives_held a hold true = inl (refl, refl)

  gives : (a : Address) (o : Option Hold) → Follows i.Release (C.gives_lock t next a o)
  gives a None = tt
  gives a (Some hold) = gives_held a hold (hold.holder == t)

  releases : (o : Option Address) → Follows i.Release (C.releases see t next o)
  releases None = tt
  releases (Some a) = gives a (see.lock_at a)

  returns : (v : Value) (b : Bool) → Follows (i.Ret b) (C.returns v b)
  returns v true = (true, refl, refl)
  returns v false = (false, refl, refl)

  starts_run : (a : Address) (o : Option ℕ) → Follows i.Start (C.starts_run next a o)
  starts_run a None = tt
  starts_run a (Some m) = (inl (refl, one_less), refl)

  starts : (o : Option Address) → Follows i.Start (C.starts_thread P see next o)
  starts None = tt
  starts (Some a) = starts_run a (run_of P (object_class (see.object_at a)))

  pub follows : (instr : Instr) → Follows instr (deed_of P entry room see t slots ops locks depth next instr)
  follows (i.Push v) = inl (refl, ap Some (add-one (length ops)))
  follows (i.Load x) = pushes (i.Load x) (slice_get slots x) refl
  follows (i.Store x) = stores (top ops) x (slice_get slots x)
  follows i.Drop = inl (refl, one_less)
  follows (i.Unary op) = inl (refl, replaced)
  follows (i.Binary op) = combines (i.Binary op) (binary_value op (top (under ops)) (top ops)) refl
  follows (i.AndThen other) = and_then other (as_truth (top ops))
  follows (i.OrElse other) = or_else other (as_truth (top ops))
  follows (i.Branch other) = branches other (as_truth (top ops))
  follows (i.Get x) = reads x (address_of (top ops))
  follows (i.Put x) = writes x (top ops) (address_of (top (under ops)))
  follows (i.New c) = makes c (slice_get P.classes c) refl
  follows (i.Call m) = calls m (slice_get P.methods m) refl
  follows i.Acquire = acquires (address_of (top ops))
  follows i.Release = releases (first_frame locks)
  follows (i.Ret result) = returns (top ops) result
  follows i.Print = (inl (refl, one_less), refl)
  follows i.Start = starts (address_of (top ops))

  -- a method is entered with the room that is its
  pub room_followed : (instr : Instr) (d : Deed) → Follows instr d → HasRoomOf room d
  room_followed instr (deed.Fails kind) is = tt
  room_followed instr (deed.Goes drops gives place) is = tt
  room_followed instr (deed.Stores x v place) is = tt
  room_followed instr (deed.Reads a x v place) is = tt
  room_followed instr (deed.Writes a x index v place) is = tt
  room_followed instr (deed.Makes c n place) is = tt
  room_followed instr (deed.Enters m n a place at most) is = is.3
  room_followed instr (deed.Takes a again place) is = tt
  room_followed instr (deed.Waits a holder) is = tt
  room_followed instr (deed.Gives a frees place) is = tt
  room_followed instr (deed.Returns gives) is = tt
  room_followed instr (deed.Prints n place) is = tt
  room_followed instr (deed.Starts a m place) is = tt
