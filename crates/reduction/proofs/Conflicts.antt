-- Which steps can't pass each other: two accesses to one field of which one writes, two steps on one lock.
use Rattle.std.proofs.Common.{◌≡◌, ◌≢◌, ℕ, ◌-◌, Bool, true, false, ◌||◌, List, [], ◌∷◌, refl, sym, ap, subst, ◌∙◌, Some, None, IsSome}
use Rattle.std.specs.Prelude.{Option, is_some, slice_get, option_and_then, cond, nat_lt, if◌then◌else◌}
use Rattle.std.specs.FinMap as M
use Rattle.std.proofs.lemmas.Bool.{eqb-true}
use Rattle.std.proofs.lemmas.Option.{same_Some}
use Rattle.base.proofs.Options.{some_there}
use Rattle.paths.specs.Paths.{PathData}
use Rattle.core_program.specs.Core.{Program, Field, Class}
use Rattle.state.specs.declared.value.Address.{Address}
use Rattle.state.specs.declared.value.Value.{Value}
use Rattle.state.specs.declared.value.Value.TheVariants as value
use Rattle.state.specs.declared.value.StepKind.{StepKind}
use Rattle.state.specs.declared.value.StepKind.TheVariants.{Both, Right, Left, Other}
use Rattle.state.specs.Memory.{Object, Hold, Heap, Locks, lists, field_value, value_in, with_field, with_lock, IsNumbered}
use Rattle.state.proofs.Addresses.{alike}
use Rattle.state.proofs.MemoryLemmas.{lists_is, value_in-with_field_same}
use Rattle.semantics.specs.Step.{Change, FieldIs, LockIs, index_of, unless_final, holds_object, some_address, next_at, followed, mutable_kind, access_kind}
use Rattle.semantics.specs.Locking.{holds, guarded_kind, taken_again, given_back, release_kind}
use Rattle.semantics.specs.Asks.{Ask, Alone, Reads, Writes, Counts, Takes, Gives, Runs}
use Rattle.reduction.specs.Changes.{IsApart, Did, quiet, was_read, was_written, was_made, was_taken, taken_more, was_given, was_started, was_printed}
use Rattle.reduction.specs.Guards.{HasFinalGuards}
use Rattle.reduction.specs.Orderly.{see_in}
use Rattle.reduction.specs.Parts.{on_heap, on_locks}
use Rattle.reduction.specs.Swapped.{MayPass}
use Rattle.reduction.proofs.Chains.{has_value}
use Rattle.reduction.proofs.Commute.{get_locks}
use Rattle.reduction.proofs.Stable.{written_kind}

-- neither two steps of kind Other nor a Left and a Right step pass
pub others_stay : MayPass Other Other → ⊥
others_stay p = absurd (let e : false ≡ true = p.passes in cc)

left_right_stay : MayPass Left Right → ⊥
left_right_stay p = absurd (let e : false ≡ true = p.passes in cc)

-- two guarded accesses of which one writes don't pass, where not both threads hold the guard's lock
guarded_stay : (writes_only w r ht hu : Bool) → (ht ≡ true → hu ≡ true → ⊥) → (w || r) ≡ true → MayPass (guarded_kind writes_only w ht) (guarded_kind writes_only r hu) → ⊥
guarded_stay false w r false hu one some p = p.not_bare refl
guarded_stay false w r true false one some p = p.also_not_bare refl
guarded_stay false w r true true one some p = one refl refl
guarded_stay true true r false hu one some p = p.not_bare refl
guarded_stay true true r true true one some p = one refl refl
guarded_stay true true false true false one some p = others_stay p
guarded_stay true true true true false one some p = p.also_not_bare refl
guarded_stay true false false ht hu one some p = absurd cc
guarded_stay true false true ht false one some p = p.also_not_bare refl
guarded_stay true false true true true one some p = one refl refl
guarded_stay true false true false true one some p = others_stay p

-- one lock has one holder
one_holder : (t u : ℕ) → (t ≡ u → ⊥) → (o : Option Hold) → holds t o ≡ true → holds u o ≡ true → ⊥
one_holder t u other None a b = absurd cc
one_holder t u other (Some hold) a b = other (sym (eqb-true hold.holder t a) ∙ eqb-true hold.holder u b)

module _ (P : Program) (heap : Heap) (locks : Locks) (t u : ℕ) where
  -- values lead on the same for both threads
  next_any : (v : Value) (x : ℕ) → next_at P (see_in t heap locks) t v x ≡ next_at P (see_in u heap locks) u v x
  next_any (value.Int n) x = refl
  next_any (value.Truth b) x = refl
  next_any value.Null x = refl
  next_any (value.Ref a) x = refl

  along : (xs : List ℕ) → ((v : Value) → followed P (see_in t heap locks) t v xs ≡ followed P (see_in u heap locks) u v xs) → (o : Option Value)
      → option_and_then (λ next. followed P (see_in t heap locks) t next xs) o ≡ option_and_then (λ next. followed P (see_in u heap locks) u next xs) o
  along xs later None = refl
  along xs later (Some v) = later v

  followed_any : (xs : List ℕ) (v : Value) → followed P (see_in t heap locks) t v xs ≡ followed P (see_in u heap locks) u v xs
  followed_any [] v = refl
  followed_any (x ∷ xs) v = along xs (followed_any xs) (next_at P (see_in t heap locks) t v x) ∙ ap (option_and_then (λ next. followed P (see_in u heap locks) u next xs)) (next_any v x)

  module _ (other : t ≡ u → ⊥) where
    one_guard : (o : Option Value) → holds_object P (see_in t heap locks) t (some_address P (see_in t heap locks) t o) ≡ true → holds_object P (see_in u heap locks) u (some_address P (see_in u heap locks) u o) ≡ true → ⊥
    one_guard None a b = absurd cc
    one_guard (Some (value.Int n)) a b = absurd cc
    one_guard (Some (value.Truth c)) a b = absurd cc
    one_guard (Some value.Null) a b = absurd cc
    one_guard (Some (value.Ref g)) a b = one_holder t u other (M.get locks g) a b

    mutable_stay : (writes_only w r : Bool) (a : Address) (o : Option PathData) → (w || r) ≡ true → MayPass (mutable_kind P (see_in t heap locks) t writes_only w a o) (mutable_kind P (see_in u heap locks) u writes_only r a o) → ⊥
    mutable_stay writes_only w r a None some p = others_stay p
    mutable_stay writes_only w r a (Some guard) some p =
        guarded_stay writes_only w r _ _ (λ x y. one_guard (followed P (see_in u heap locks) u (value.Ref a) guard.fields)
        (sym (ap (λ v. holds_object P (see_in t heap locks) t (some_address P (see_in t heap locks) t v)) (followed_any guard.fields (value.Ref a))) ∙ x) y) some p

    -- two accesses to one mutable field of which one writes don't pass
    pub accesses_stay : (w r : Bool) (a : Address) (f : Field) → f.is_final ≡ false → (w || r) ≡ true → MayPass (access_kind P (see_in t heap locks) t w a (Some f)) (access_kind P (see_in u heap locks) u r a (Some f)) → ⊥
    accesses_stay w r a f mutable some p = mutable_stay f.writes_only w r a f.guard some
        (subst (λ (b : Bool). MayPass (if b then Both else mutable_kind P (see_in t heap locks) t f.writes_only w a f.guard) (if b then Both else mutable_kind P (see_in u heap locks) u f.writes_only r a f.guard)) mutable p)

-- two fields with values at one index of one object are one
module _ (P : Program) (heap : Heap) (a : Address) where
  listed : (x : ℕ) (o : Object) (g : Option Field) (v : Value) → field_value P x (Some o) g ≡ Some v → lists (slice_get P.classes o.class) (index_of g) x ≡ true
  listed x o None v e = absurd cc
  listed x o (Some g) v e = has_value (lists (slice_get P.classes o.class) g.index x) (slice_get o.values g.index) v e

  two_listed : (c : Option Class) (i x y : ℕ) → lists c i x ≡ true → lists c i y ≡ true → y ≡ x
  two_listed c i x y p r =
      let one = lists_is c i x p in
      let two = lists_is c i y r in
      let class : Some one.0 ≡ Some two.0 = sym one.1 ∙ two.1 in
      let same : one.0 ≡ two.0 = cc in
      let fields : Some y ≡ Some x = sym two.2 ∙ sym (ap (λ (k : Class). slice_get k.fields i) same) ∙ one.2 in
      cc

  pub one_field : (x y : ℕ) → IsSome (value_in P heap a x) → IsSome (value_in P heap a y) → index_of (slice_get P.fields y) ≡ index_of (slice_get P.fields x) → y ≡ x
  one_field x y hx hy e = by (M.get heap a) refl
    where
      by : (o : Option Object) → M.get heap a ≡ o → y ≡ x
      by None at = absurd (let c : false ≡ true = sym (ap (λ k. is_some (field_value P x k (slice_get P.fields x))) at) ∙ hx in cc)
      by (Some o) at =
          let vx = some_there (value_in P heap a x) hx in
          let vy = some_there (value_in P heap a y) hy in
          two_listed (slice_get P.classes o.class) (index_of (slice_get P.fields x)) x y
          (listed x o (slice_get P.fields x) vx.0 (sym (ap (λ k. field_value P x k (slice_get P.fields x)) at) ∙ vx.1))
          (subst (λ i. lists (slice_get P.classes o.class) i y ≡ true) e (listed y o (slice_get P.fields y) vy.0 (sym (ap (λ k. field_value P y k (slice_get P.fields y)) at) ∙ vy.1)))

  -- where a field has a value, there is an object
  pub object_there : (x : ℕ) → IsSome (value_in P heap a x) → M.get heap a ≢ None
  object_there x has none = absurd (let c : false ≡ true = sym (ap (λ k. is_some (field_value P x k (slice_get P.fields x))) none) ∙ has in cc)

-- a lock after a change of it
lock_after : (a : Address) (hold : Option Hold) (locks : Locks) → M.get (with_lock a hold locks) a ≡ hold
lock_after a hold locks = get_locks (LockIs a hold) locks a ∙ ap (λ k. cond k hold (M.get locks a)) (alike a)

module _ (P : Program) (guards : HasFinalGuards P) (heap : Heap) (locks : Locks) (numbered : IsNumbered heap) (t u : ℕ) (other : t ≡ u → ⊥) where
  -- the first step wrote a field; the second asks about the heap after it
  module _ (a : Address) (x : ℕ) (f : Field) (is : slice_get P.fields x ≡ Some f) (mutable : f.is_final ≡ false) (old v : Value) (has : value_in P heap a x ≡ Some old) where
    field_at : (b : Address) (y : ℕ) → a ≡ b → index_of (slice_get P.fields y) ≡ f.index → IsSome (value_in P heap b y) → y ≡ x
    field_at b y e i some = one_field P heap a x y (ap is_some has) (subst (λ k. IsSome (value_in P heap k y)) (sym e) some) (i ∙ sym (ap index_of is))

    value_after : (b : Address) (y : ℕ) → a ≡ b → y ≡ x → value_in P (with_field a f.index v heap) b y ≡ Some v
    value_after b y e s = subst (λ k. value_in P (with_field a f.index v heap) k y ≡ Some v) e (subst (λ z. value_in P (with_field a f.index v heap) a z ≡ Some v) (sym s) (value_in-with_field_same P heap x f is a old v has))

    -- the second's kind at the same field is that before the write
    pass_before : (r : Bool) (b : Address) (y : ℕ) (g : Field) → slice_get P.fields y ≡ Some g → a ≡ b → y ≡ x
        → MayPass (access_kind P (see_in t heap locks) t true a (Some f)) (access_kind P (see_in u (with_field a f.index v heap) locks) u r b (Some g)) → ⊥
    pass_before r b y g is_g e s p =
        let fields : g ≡ f = same_Some g f (sym is_g ∙ ap (slice_get P.fields) s ∙ is) in
        let kind : access_kind P (see_in u (with_field a f.index v heap) locks) u r b (Some g) ≡ access_kind P (see_in u heap locks) u r a (Some f) =
        ap (λ k. access_kind P (see_in u (with_field a f.index v heap) locks) u r k (Some g)) (sym e)
        ∙ ap (access_kind P (see_in u (with_field a f.index v heap) locks) u r a) (sym is_g ∙ ap (slice_get P.fields) s)
        ∙ sym (written_kind P guards u heap locks numbered a x f is mutable old v has r a x)
        ∙ ap (access_kind P (see_in u heap locks) u r a) is in
        accesses_stay P heap locks t u other true r a f mutable refl (subst (MayPass (access_kind P (see_in t heap locks) t true a (Some f))) kind p)

    written_apart : (ask : Ask) (l : StepKind) (d : Change) → Did P (see_in u (with_field a f.index v heap) locks) u ask l d → MayPass (access_kind P (see_in t heap locks) t true a (Some f)) l → IsApart P heap (FieldIs a f.index v) ask
    written_apart _ _ _ (quiet (Reads b y) idle) p = λ e i some. absurd (let c : Some v ≡ None = sym (value_after b y e (field_at b y e i some)) ∙ idle in cc)
    written_apart _ _ _ (quiet (Writes b y) idle) p = λ e i some.
        let s = field_at b y e i some in
        let value = value_after b y e s in
        absurd (let c : Some v ≡ None = sym value ∙ sym (ap (λ (k : Bool). if k then None else value_in P (with_field a f.index v heap) b y) mutable) ∙ sym (ap (λ g. unless_final g (value_in P (with_field a f.index v heap) b y)) (ap (slice_get P.fields) s ∙ is)) ∙ idle in cc)
    written_apart _ _ _ (quiet Alone idle) p = tt
    written_apart _ _ _ (quiet Counts idle) p = tt
    written_apart _ _ _ (quiet (Takes b) idle) p = tt
    written_apart _ _ _ (quiet (Gives b) idle) p = tt
    written_apart _ _ _ (quiet (Runs b) idle) p = tt
    written_apart _ _ _ (was_read {a = b} {x = y} g w is_g has_g) p = λ e i some. pass_before false b y g is_g e (field_at b y e i some) p
    written_apart _ _ _ (was_written {a = b} {x = y} g o w is_g mutable_g has_g) p = λ e i some. pass_before true b y g is_g e (field_at b y e i some) p
    written_apart _ _ _ (was_made o) p = tt
    written_apart _ _ _ (was_taken free) p = tt
    written_apart _ _ _ (taken_more hold held by) p = tt
    written_apart _ _ _ (was_given hold held by) p = tt
    written_apart _ _ _ (was_started m) p = tt
    written_apart _ _ _ (was_printed n) p = tt

  -- the first step changed a lock that it holds afterwards, or freed it
  abbrev AfterLock : Address → Option Hold → StepKind → Type 0
  AfterLock a hold k = ((h : Hold) → hold ≡ Some h → h.holder ≡ t) × (hold ≡ None → k ≡ Left)

  lock_apart : (a : Address) (hold : Option Hold) (k : StepKind) → AfterLock a hold k → (ask : Ask) (l : StepKind) (d : Change) → Did P (see_in u heap (with_lock a hold locks)) u ask l d → MayPass k l → IsApart P heap (LockIs a hold) ask
  lock_apart a hold k after _ _ _ (quiet Alone idle) p = tt
  lock_apart a hold k after _ _ _ (quiet (Reads b y) idle) p = tt
  lock_apart a hold k after _ _ _ (quiet (Writes b y) idle) p = tt
  lock_apart a hold k after _ _ _ (quiet Counts idle) p = tt
  lock_apart a hold k after _ _ _ (quiet (Takes b) idle) p = absurd idle
  lock_apart a hold k after _ _ _ (quiet (Gives b) idle) p = tt
  lock_apart a hold k after _ _ _ (quiet (Runs b) idle) p = tt
  lock_apart a hold k after _ _ _ (was_read g w is_g has_g) p = tt
  lock_apart a hold k after _ _ _ (was_written g o w is_g mutable_g has_g) p = tt
  lock_apart a hold k after _ _ _ (was_made o) p = tt
  lock_apart a hold k after _ _ _ (was_taken {a = b} free) p = λ e. left_right_stay (subst (λ z. MayPass z Right) (after.1 (sym (lock_after a hold locks) ∙ ap (M.get (with_lock a hold locks)) e ∙ free)) p)
  lock_apart a hold k after _ _ _ (taken_more {a = b} h held by) p = λ e. other (sym (after.0 h (sym (lock_after a hold locks) ∙ ap (M.get (with_lock a hold locks)) e ∙ held)) ∙ by)
  lock_apart a hold k after _ _ _ (was_given h held by) p = tt
  lock_apart a hold k after _ _ _ (was_started m) p = tt
  lock_apart a hold k after _ _ _ (was_printed n) p = tt

  given_after : (a : Address) (hold : Hold) → hold.holder ≡ t → AfterLock a (given_back hold) (release_kind (given_back hold))
  given_after a hold by = cases (record hold { count = hold.count - 1 }) by (nat_lt 1 hold.count)
    where
      cases : (lesser : Hold) → lesser.holder ≡ t → (b : Bool) → ((h : Hold) → (if b then Some lesser else None) ≡ Some h → h.holder ≡ t) × ((if b then Some lesser else None) ≡ None → release_kind (if b then Some lesser else None) ≡ Left)
      cases lesser its true = (λ h e. sym (ap (λ (k : Hold). k.holder) (same_Some _ h e)) ∙ its, λ e. absurd cc)
      cases lesser its false = (λ h e. absurd cc, λ e. refl)

  -- the first step's change is apart from what the second asks
  pub first_apart : (asked : Ask) (k : StepKind) (c : Change) → Did P (see_in t heap locks) t asked k c → (ask : Ask) (l : StepKind) (d : Change) → Did P (see_in u (on_heap c heap) (on_locks c locks)) u ask l d → MayPass k l → IsApart P heap c ask
  first_apart _ _ _ (quiet asked idle) ask l d second p = tt
  first_apart _ _ _ (was_read g w is_g has_g) ask l d second p = tt
  first_apart _ _ _ (was_written {a = a} {x = x} f old v is mutable has) ask l d second p = written_apart a x f is mutable old v has ask l d second p
  first_apart _ _ _ (was_made o) ask l d second p = tt
  first_apart _ _ _ (was_taken {a = a} free) ask l d second p = lock_apart a (Some (record { holder = t; count = 1 })) Right (λ h e. sym (ap (λ (k : Hold). k.holder) (same_Some _ h e)), λ e. absurd cc) ask l d second p
  first_apart _ _ _ (taken_more {a = a} hold held by) ask l d second p = lock_apart a (Some (taken_again hold)) Both (λ h e. sym (ap (λ (k : Hold). k.holder) (same_Some _ h e)) ∙ by, λ e. absurd cc) ask l d second p
  first_apart _ _ _ (was_given {a = a} hold held by) ask l d second p = lock_apart a (given_back hold) (release_kind (given_back hold)) (given_after a hold by) ask l d second p
  first_apart _ _ _ (was_started m) ask l d second p = tt
  first_apart _ _ _ (was_printed n) ask l d second p = tt
