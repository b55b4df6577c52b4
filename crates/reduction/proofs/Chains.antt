-- Values and kinds that another thread's change leaves as they are.
use Rattle.std.proofs.Common.{◌≡◌, ◌≢◌, ℕ, ◌==◌, Bool, true, false, List, [], ◌∷◌, refl, sym, ap, subst, ◌∙◌, Some, None, arith}
use Rattle.std.proofs.lemmas.Bool.Decides.{nat_tests}
use Rattle.std.specs.Prelude.{Option, slice_get, option_and_then, if◌then◌else◌}
use Rattle.std.specs.FinMap as M
use Rattle.std.specs.Ordering.{eq_by_cmp}
use Rattle.std.proofs.lemmas.Bool.{ne_eqb, eqb-true}
use Rattle.paths.specs.Paths.{PathData}
use Rattle.core_program.specs.Core.{Program, Field, Class}
use Rattle.state.specs.declared.value.Address.{Address}
use Rattle.state.specs.declared.value.Value.{Value}
use Rattle.state.specs.declared.value.Value.TheVariants as value
use Rattle.state.specs.Memory.{Object, Heap, address_cmp, is_field, lists, field_value, value_in, with_value, with_object, with_field}
use Rattle.state.proofs.Addresses.{tied, alike}
use Rattle.state.proofs.MemoryLemmas.{get-insert_same, listed_is, value_in-with_field_at, value_in-with_field_other}
use Rattle.semantics.specs.Step.{Shared, next_at, followed, holds_object, some_address, mutable_kind, access_kind}
use Rattle.semantics.specs.Locking.{holds, guarded_kind}
use Rattle.reduction.specs.Guards.{AreFinal, HasFinalGuards}

no_field : (P : Program) (x : ℕ) (o : Option Object) → field_value P x o None ≡ None
no_field P x None = refl
no_field P x (Some o) = refl

pub has_value : (b : Bool) (v : Option Value) (old : Value) → (if b then v else None) ≡ Some old → b ≡ true
has_value true v old e = refl
has_value false v old e = absurd cc

no_lists : (P : Program) (c : Option Class) (i x y : ℕ) → lists c i x ≡ true → y ≢ x → lists c i y ≡ false
no_lists P None i x y e other = absurd cc
no_lists P (Some class) i x y e other = ap (is_field y) (listed_is x (slice_get class.fields i) e) ∙ ne_eqb x y (λ s. other (sym s))

-- Of one object: a write to one field of it leaves each other.
module _ (P : Program) (x : ℕ) (f : Field) (is : slice_get P.fields x ≡ Some f) (v : Value) where
  unlisted : (y : ℕ) (o : Object) (g : Field) → lists (slice_get P.classes o.class) g.index y ≡ false → field_value P y (Some (with_value f.index v o)) (Some g) ≡ field_value P y (Some o) (Some g)
  unlisted y o g e = ap (λ (b : Bool). if b then slice_get (with_value f.index v o).values g.index else None) e ∙ sym (ap (λ (b : Bool). if b then slice_get o.values g.index else None) e)

  listed_at : (o : Object) (old : Value) → field_value P x (Some o) (slice_get P.fields x) ≡ Some old → lists (slice_get P.classes o.class) f.index x ≡ true
  listed_at o old has = has_value (lists (slice_get P.classes o.class) f.index x) (slice_get o.values f.index) old (sym (ap (field_value P x (Some o)) is) ∙ has)

  -- at the written object, of a field at the same index
  same_index : (heap : Heap) (a : Address) (old : Value) → value_in P heap a x ≡ Some old → (y : ℕ) (g : Field) → slice_get P.fields y ≡ Some g → y ≢ x → g.index ≡ f.index
      → (found : Option Object) → M.get heap a ≡ found → value_in P (with_object a found (with_value f.index v) heap) a y ≡ value_in P heap a y
  same_index heap a old has y g is_g other e None at = refl
  same_index heap a old has y g is_g other e (Some o) at =
      let here : lists (slice_get P.classes o.class) f.index x ≡ true = listed_at o old (sym (ap (λ b. field_value P x b (slice_get P.fields x)) at) ∙ has) in
      let none : lists (slice_get P.classes o.class) g.index y ≡ false = subst (λ i. lists (slice_get P.classes o.class) i y ≡ false) (sym e) (no_lists P (slice_get P.classes o.class) f.index x y here other) in
      ap (λ b. field_value P y b (slice_get P.fields y)) (get-insert_same heap a (with_value f.index v o))
      ∙ ap (field_value P y (Some (with_value f.index v o))) is_g ∙ unlisted y o g none
      ∙ sym (ap (field_value P y (Some o)) is_g) ∙ sym (ap (λ b. field_value P y b (slice_get P.fields y)) at)

  module _ (heap : Heap) (a : Address) (old : Value) (has : value_in P heap a x ≡ Some old) where
    by_field : (y : ℕ) → y ≢ x → (g : Option Field) → slice_get P.fields y ≡ g → value_in P (with_field a f.index v heap) a y ≡ value_in P heap a y
    by_field y other None is_g = ap (field_value P y (M.get (with_field a f.index v heap) a)) is_g ∙ no_field P y _ ∙ sym (no_field P y _) ∙ sym (ap (field_value P y (M.get heap a)) is_g)
    by_field y other (Some g) is_g = by (g.index == f.index) refl
      where
        by : (b : Bool) → (g.index == f.index) ≡ b → value_in P (with_field a f.index v heap) a y ≡ value_in P heap a y
        by true e = same_index heap a old has y g is_g other (eqb-true g.index f.index e) (M.get heap a) refl
        by false e = value_in-with_field_at P heap y g is_g a a f.index v (λ s. absurd (let c : true ≡ false = sym (ap (λ n. n == f.index) s ∙ itself f.index) ∙ e in cc))
          where
            itself : (n : ℕ) → (n == n) ≡ true
            itself n = grind (arith, nat_tests)

    -- a write leaves every other field of every object
    pub written_other : (b : Address) (y : ℕ) → (b ≡ a → y ≡ x → ⊥) → value_in P (with_field a f.index v heap) b y ≡ value_in P heap b y
    written_other b y other = by (eq_by_cmp address_cmp b a) refl
      where
        by : (t : Bool) → eq_by_cmp address_cmp b a ≡ t → value_in P (with_field a f.index v heap) b y ≡ value_in P heap b y
        by true e = subst (λ k. value_in P (with_field a f.index v heap) k y ≡ value_in P heap k y) (sym (tied b a e)) (by_field y (other (tied b a e)) (slice_get P.fields y) refl)
        by false e = value_in-with_field_other P heap a b f.index v y (λ s. absurd (let c : true ≡ false = sym (alike a) ∙ sym (ap (λ k. eq_by_cmp address_cmp k a) s) ∙ e in cc))

-- Chains of final fields.
module _ (P : Program) (u : ℕ) (see other : Shared) (Good : Value → Type 0)
    (same : (v : Value) (x : ℕ) (f : Field) → Good v → slice_get P.fields x ≡ Some f → f.is_final ≡ true → next_at P see u v x ≡ next_at P other u v x)
    (stays : (v : Value) (x : ℕ) (w : Value) → Good v → next_at P see u v x ≡ Some w → Good w) where
  next_followed : (xs : List ℕ) → ((w : Value) → Good w → followed P see u w xs ≡ followed P other u w xs) → (v : Value) (x : ℕ) → Good v → (o : Option Value) → next_at P see u v x ≡ o
      → option_and_then (λ next. followed P see u next xs) o ≡ option_and_then (λ next. followed P other u next xs) o
  next_followed xs later v x good None e = refl
  next_followed xs later v x good (Some w) e = later w (stays v x w good e)

  pub followed_same : (v : Value) (xs : List ℕ) → Good v → AreFinal P xs → followed P see u v xs ≡ followed P other u v xs
  followed_same v [] good final = refl
  followed_same v (x ∷ xs) good final = next_followed xs (λ w g. followed_same w xs g final.3) v x good _ refl ∙ ap (option_and_then (λ next. followed P other u next xs)) (same v x final.0 good final.1 final.2)

  module _ (guards : HasFinalGuards P) (locks : (g : Address) → holds u (see.lock_at g) ≡ holds u (other.lock_at g)) where
    held_same : (o : Option Address) → holds_object P see u o ≡ holds_object P other u o
    held_same None = refl
    held_same (Some g) = locks g

    guard_same : (writes_only writes : Bool) (a : Address) (o : Option PathData) → Good (value.Ref a) → ((guard : PathData) → o ≡ Some guard → AreFinal P guard.fields)
        → mutable_kind P see u writes_only writes a o ≡ mutable_kind P other u writes_only writes a o
    guard_same writes_only writes a None good final = refl
    guard_same writes_only writes a (Some guard) good final =
        ap (guarded_kind writes_only writes) (held_same _ ∙ ap (λ x. holds_object P other u (some_address P other u x)) (followed_same (value.Ref a) guard.fields good (final guard refl)))

    final_same : (f : Field) (writes : Bool) (a : Address) (b : Bool) → Good (value.Ref a) → ((guard : PathData) → f.guard ≡ Some guard → AreFinal P guard.fields)
        → (if b then Rattle.state.specs.declared.value.StepKind.TheVariants.Both else mutable_kind P see u f.writes_only writes a f.guard) ≡ (if b then Rattle.state.specs.declared.value.StepKind.TheVariants.Both else mutable_kind P other u f.writes_only writes a f.guard)
    final_same f writes a true good final = refl
    final_same f writes a false good final = guard_same f.writes_only writes a f.guard good final

    pub kind_same : (writes : Bool) (a : Address) (x : ℕ) (o : Option Field) → slice_get P.fields x ≡ o → Good (value.Ref a) → access_kind P see u writes a o ≡ access_kind P other u writes a o
    kind_same writes a x None is good = refl
    kind_same writes a x (Some f) is good = final_same f writes a f.is_final good (λ guard e. guards x f guard is e)
