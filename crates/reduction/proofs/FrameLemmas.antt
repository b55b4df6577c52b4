-- Frames: in smaller phases and grown memories, counts of releases, slots and objects.
use Rattle.std.proofs.Common.{◌≡◌, ◌≢◌, ℕ, ◌+◌, Bool, true, false, ◌||◌, ◌==◌, List, [], ◌∷◌, Some, None, refl, sym, ap, ◌∙◌, arith}
use Rattle.std.specs.Prelude.{Option, slice_get, slice_set, unwrap_or, nat_lt, if◌then◌else◌}
use Rattle.std.proofs.lemmas.Bool.Decides.{nat_tests}
use Rattle.std.proofs.lemmas.Bool.{eqb-true, and_parts}
use Rattle.base.proofs.Options.{if_taken}
use Rattle.base.proofs.Lists.{set_other}
use Rattle.core_program.specs.Core as core
use Rattle.core_program.specs.Core.{Program}
use Rattle.core_program.specs.Locks.{leads_on}
use Rattle.state.specs.declared.value.Address.{Address}
use Rattle.state.specs.declared.value.Value.{Value}
use Rattle.state.specs.declared.value.Value.TheVariants as value
use Rattle.state.specs.Values.{address_eq}
use Rattle.state.specs.Memory.{Object, lists, field_value, with_value}
use Rattle.state.proofs.MemoryLemmas.{lists_is, set_same}
use Rattle.state.specs.Work as W
use Rattle.state.specs.Work.{Item, Ex, St, Act}
use Rattle.state.specs.States.{Frame}
use Rattle.reduction.specs.Leads.{env_of, with_slot, machine_memory, Grows}
use Rattle.reduction.specs.Fits.{has_release, count_release}
use Rattle.reduction.specs.Safe.{releases_in_work, count_frames}
use Rattle.semantics.specs.Changes.{object_with}
use Rattle.semantics.proofs.Changed.{other_number, same_address}

-- Releases.

one_counts : (b : Bool) (h : Bool) (n : ℕ) → h ≡ nat_lt 0 n → (b || h) ≡ nat_lt 0 (if b then 1 + n else n)
one_counts true h n e = grind (arith, nat_tests)
one_counts false h n e = e

-- a release stands in a list where there is at least one
pub release_counts : (a : Address) (more : List Item) → has_release a more ≡ nat_lt 0 (count_release a more)
release_counts a [] = refl
release_counts a (Ex e ∷ more) = release_counts a more
release_counts a (St s ∷ more) = release_counts a more
release_counts a (Act (W.Release b) ∷ more) = one_counts (address_eq a b) (has_release a more) (count_release a more) (release_counts a more)
release_counts a (Act (W.Push v) ∷ more) = release_counts a more
release_counts a (Act (W.Load x) ∷ more) = release_counts a more
release_counts a (Act (W.Store x) ∷ more) = release_counts a more
release_counts a (Act W.Drop ∷ more) = release_counts a more
release_counts a (Act (W.Unary op) ∷ more) = release_counts a more
release_counts a (Act (W.Binary op) ∷ more) = release_counts a more
release_counts a (Act (W.AndThen e) ∷ more) = release_counts a more
release_counts a (Act (W.OrElse e) ∷ more) = release_counts a more
release_counts a (Act (W.Choose t u) ∷ more) = release_counts a more
release_counts a (Act (W.Loop c t) ∷ more) = release_counts a more
release_counts a (Act (W.Get f) ∷ more) = release_counts a more
release_counts a (Act (W.Put f) ∷ more) = release_counts a more
release_counts a (Act (W.New c) ∷ more) = release_counts a more
release_counts a (Act (W.Call m) ∷ more) = release_counts a more
release_counts a (Act (W.Acquire t) ∷ more) = release_counts a more
release_counts a (Act W.Ret ∷ more) = release_counts a more
release_counts a (Act W.Print ∷ more) = release_counts a more
release_counts a (Act W.Start ∷ more) = release_counts a more

both_count : (x y : Bool) (n m : ℕ) → x ≡ nat_lt 0 n → y ≡ nat_lt 0 m → (x || y) ≡ nat_lt 0 (n + m)
both_count true y n m e k = grind (arith, nat_tests)
both_count false y n m e k = grind (arith, nat_tests)

pub frames_count : (a : Address) (fs : List Frame) → releases_in_work fs a ≡ nat_lt 0 (count_frames a fs)
frames_count a [] = refl
frames_count a (f ∷ fs) = both_count (has_release a f.work) (releases_in_work fs a) (count_release a f.work) (count_frames a fs) (release_counts a f.work) (frames_count a fs)

pub held_counts : (a : Address) (more : List Item) (fs : List Frame) → (has_release a more || releases_in_work fs a) ≡ nat_lt 0 (count_release a more + count_frames a fs)
held_counts a more fs = both_count (has_release a more) (releases_in_work fs a) (count_release a more) (count_frames a fs) (release_counts a more) (frames_count a fs)

-- Slots.

slot_at : (slots : List Value) (x y : ℕ) (v old : Value) → slice_get slots x ≡ Some old → (b : Bool) → (x == y) ≡ b → unwrap_or (slice_get (slice_set slots x v) y) value.Null ≡ (if b then v else env_of slots y)
slot_at slots x y v old is true same =
    ap (λ o. unwrap_or o value.Null) (ap (λ z. slice_get (slice_set slots x v) z) (sym (eqb-true x y same)) ∙ set_same slots x v old is)
slot_at slots x y v old is false other = ap (λ o. unwrap_or o value.Null) (set_other slots x y v (other_number x y other))

-- a stored slot
pub stored : (slots : List Value) (x : ℕ) (v old : Value) → slice_get slots x ≡ Some old → env_of (slice_set slots x v) ≡ with_slot (env_of slots) x v
stored slots x v old is = λ i y. slot_at slots x y v old is (x == y) refl i

-- Objects.

final_leads : (x : core.Field) → leads_on (Some x) ≡ true → x.is_final ≡ true
final_leads x e = (and_parts x.is_final _ e).0

module _ (P : Program) where
  -- the fields of one object at one place are one
  pub one_field : (o : Object) (f g : ℕ) (x y : core.Field) (v w : Value) → field_value P f (Some o) (Some x) ≡ Some v → field_value P g (Some o) (Some y) ≡ Some w → x.index ≡ y.index → f ≡ g
  one_field o f g x y v w first second same =
      let a = lists_is (slice_get P.classes o.class) x.index f (if_taken (lists (slice_get P.classes o.class) x.index f) (slice_get o.values x.index) v first).0 in
      let b = lists_is (slice_get P.classes o.class) y.index g (if_taken (lists (slice_get P.classes o.class) y.index g) (slice_get o.values y.index) w second).0 in
      let class : a.0 ≡ b.0 = some_same (sym a.1 ∙ b.1) in
      some_same (sym a.2 ∙ ap (λ n. slice_get a.0.fields n) same ∙ ap (λ (c : core.Class). slice_get c.fields y.index) class ∙ b.2)
    where
      some_same : {A : Type 0} {x y : A} → Some x ≡ Some y → x ≡ y
      some_same {A = A} {x = x} e = ap (λ o. unwrap_or o x) e

  field_kept : (o : Object) (g : ℕ) (y : core.Field) (index : ℕ) (v w : Value) → y.index ≢ index → field_value P g (Some o) (Some y) ≡ Some w → field_value P g (Some (with_value index v o)) (Some y) ≡ Some w
  field_kept o g y index v w other is = ap (λ x. if lists (slice_get P.classes o.class) y.index g then x else None) (set_other o.values index y.index v other) ∙ is

  -- a written field that isn't final leads nowhere
  put_keeps : (f : ℕ) (x : core.Field) (v old : Value) → slice_get P.fields f ≡ Some x → x.is_final ≡ false → (found : Option Object) → field_value P f found (Some x) ≡ Some old
      → (g : ℕ) (field : Option core.Field) (w : Value) → slice_get P.fields g ≡ field → leads_on field ≡ true → field_value P g found field ≡ Some w → field_value P g (object_with x.index v found) field ≡ Some w
  put_keeps f x v old is mutable None has g field w at on leads = absurd (let e : None ≡ Some old = has in cc)
  put_keeps f x v old is mutable (Some o) has g None w at on leads = absurd (let e : false ≡ true = on in cc)
  put_keeps f x v old is mutable (Some o) has g (Some y) w at on leads =
      field_kept o g y x.index v w (λ same.
      let one = one_field o g f y x w old leads has same in
      let e : Some y ≡ Some x = sym at ∙ ap (λ n. slice_get P.fields n) one ∙ is in
      let final : y.is_final ≡ x.is_final = ap (λ z. is_final_or z) e in
      let both : true ≡ false = sym (final_leads y on) ∙ final ∙ mutable in absurd cc) leads
    where
      is_final_or : Option core.Field → Bool
      is_final_or None = false
      is_final_or (Some z) = z.is_final

  module _ (object_at : Address → Option Object) where
    put_at : (a b : Address) (f : ℕ) (x : core.Field) (v old : Value) → slice_get P.fields f ≡ Some x → x.is_final ≡ false → field_value P f (object_at a) (Some x) ≡ Some old
        → (g : ℕ) (w : Value) → leads_on (slice_get P.fields g) ≡ true → machine_memory P object_at b g ≡ Some w
        → (t : Bool) → address_eq a b ≡ t → field_value P g (if t then object_with x.index v (object_at a) else object_at b) (slice_get P.fields g) ≡ Some w
    put_at a b f x v old is mutable has g w on leads true same =
        put_keeps f x v old is mutable (object_at a) has g (slice_get P.fields g) w refl on (ap (λ c. field_value P g (object_at c) (slice_get P.fields g)) (same_address a b same) ∙ leads)
    put_at a b f x v old is mutable has g w on leads false other = leads

    pub put_grows : (a : Address) (f : ℕ) (x : core.Field) (v old : Value) → slice_get P.fields f ≡ Some x → x.is_final ≡ false → field_value P f (object_at a) (Some x) ≡ Some old
        → Grows P (machine_memory P object_at) (machine_memory P (λ b. if address_eq a b then object_with x.index v (object_at a) else object_at b))
    put_grows a f x v old is mutable has b g w on leads = put_at a b f x v old is mutable has g w on leads (address_eq a b) refl

    no_object : (g : ℕ) (o : Option Object) (field : Option core.Field) (w : Value) → o ≡ None → field_value P g o field ≡ Some w → ⊥
    no_object g None field w none leads = let e : None ≡ Some w = leads in absurd cc
    no_object g (Some o) field w none leads = absurd cc

    made_at : (a b : Address) (o : Object) (g : ℕ) (w : Value) → object_at a ≡ None → machine_memory P object_at b g ≡ Some w → (t : Bool) → address_eq a b ≡ t → field_value P g (if t then Some o else object_at b) (slice_get P.fields g) ≡ Some w
    made_at a b o g w none leads true same = absurd (no_object g (object_at b) (slice_get P.fields g) w (ap object_at (sym (same_address a b same)) ∙ none) leads)
    made_at a b o g w none leads false other = leads

    pub made_grows : (a : Address) (o : Object) → object_at a ≡ None → Grows P (machine_memory P object_at) (machine_memory P (λ b. if address_eq a b then Some o else object_at b))
    made_grows a o none b g w on leads = made_at a b o g w none leads (address_eq a b) refl
