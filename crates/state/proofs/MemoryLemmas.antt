-- Reads after writes.
use Rattle.std.proofs.Common.{◌≡◌, ◌≢◌, ℕ, zero, suc, ◌+◌, Bool, true, false, List, [], ◌∷◌, Some, None, refl, sym, ap, subst, ◌∙◌, arith}
use Rattle.std.specs.Prelude.{Option, length, slice_get, slice_set, cond, if◌then◌else◌}
use Rattle.std.specs.FinMap as M
use Rattle.std.specs.FinMap.{get-insert}
use Rattle.std.specs.Ordering.{eq_by_cmp}
use Rattle.std.proofs.lemmas.Option.{none-some}
use Rattle.std.proofs.lemmas.Bool.{eqb-true}
use Rattle.base.proofs.Lists.{set_other}
use Rattle.core_program.specs.Core.{Program, Class, Field}
use Rattle.state.specs.declared.value.Address.{Address}
use Rattle.state.specs.declared.value.Value.{Value}
use Rattle.state.specs.Values.{popped, top, under}
use Rattle.state.specs.Memory.{Heap, Object, address_cmp, is_field, lists, field_value, value_in, with_value, with_object, with_field}
use Rattle.state.proofs.Addresses.{address_total, apart, alike, tied, differ}

pub length-taken : (n : ℕ) (found ops : List Value) → length (popped n found ops) ≡ n + length found
length-taken zero found ops = omega arith
length-taken (suc n) found ops = length-taken n (top ops ∷ found) (under ops) ∙ omega arith

-- at another address a map is as before
pub get-insert_other : {X : Type 0} (m : M.FinMap address_cmp X) (a b : Address) (x : X) → b ≢ a → M.get (M.insert m a x) b ≡ M.get m b
get-insert_other m a b x other = get-insert address_total m a x b ∙ ap (λ t. cond t (Some x) (M.get m b)) (apart a b other)

pub get-insert_same : {X : Type 0} (m : M.FinMap address_cmp X) (a : Address) (x : X) → M.get (M.insert m a x) a ≡ Some x
get-insert_same m a x = get-insert address_total m a x a ∙ ap (λ t. cond t (Some x) (M.get m a)) (alike a)

module _ (P : Program) (heap : Heap) where
  pub value_in-insert_other : (a b : Address) (o : Object) (f : ℕ) → b ≢ a → value_in P (M.insert heap a o) b f ≡ value_in P heap b f
  value_in-insert_other a b o f other = ap (λ x. field_value P f x (slice_get P.fields f)) (get-insert_other heap a b o other)

  object_other : (a b : Address) (found : Option Object) (change : Object → Object) (f : ℕ) → b ≢ a → value_in P (with_object a found change heap) b f ≡ value_in P heap b f
  object_other a b None change f other = refl
  object_other a b (Some o) change f other = value_in-insert_other a b (change o) f other

  pub value_in-with_field_other : (a b : Address) (index : ℕ) (v : Value) (f : ℕ) → b ≢ a → value_in P (with_field a index v heap) b f ≡ value_in P heap b f
  value_in-with_field_other a b index v f other = object_other a b _ (with_value index v) f other

-- the field that a class lists at an index is one
pub listed_is : (x : ℕ) (o : Option ℕ) → is_field x o ≡ true → o ≡ Some x
listed_is x None e = absurd cc
listed_is x (Some y) e = ap Some (eqb-true y x e)

pub lists_is : (c : Option Class) (i x : ℕ) → lists c i x ≡ true → (class : Class) × (c ≡ Some class) × (slice_get class.fields i ≡ Some x)
lists_is None i x e = absurd cc
lists_is (Some class) i x e = (class, refl, listed_is x (slice_get class.fields i) e)

pub set_same : {A : Type 0} (xs : List A) (i : ℕ) (x y : A) → slice_get xs i ≡ Some y → slice_get (slice_set xs i x) i ≡ Some x
set_same [] i x y e = absurd (none-some y e)
set_same (z ∷ zs) zero x y e = refl
set_same (z ∷ zs) (suc i) x y e = set_same zs i x y e

-- of one object: another field is as before, and the written one as written
value_other : (P : Program) (f : ℕ) (o : Object) (field : Field) (index : ℕ) (v : Value) → field.index ≢ index → field_value P f (Some (with_value index v o)) (Some field) ≡ field_value P f (Some o) (Some field)
value_other P f o field index v other = ap (λ x. if lists (slice_get P.classes o.class) field.index f then x else None) (set_other o.values index field.index v other)

if_written : (t : Bool) (values : List Value) (i : ℕ) (old v : Value) → (if t then slice_get values i else None) ≡ Some old → (if t then slice_get (slice_set values i v) i else None) ≡ Some v
if_written true values i old v e = set_same values i v old e
if_written false values i old v e = absurd (none-some old e)

value_written : (P : Program) (f : ℕ) (o : Object) (field : Field) (old v : Value) → field_value P f (Some o) (Some field) ≡ Some old → field_value P f (Some (with_value field.index v o)) (Some field) ≡ Some v
value_written P f o field old v e = if_written (lists (slice_get P.classes o.class) field.index f) o.values field.index old v e

module _ (P : Program) (heap : Heap) (f : ℕ) (field : Field) (is : slice_get P.fields f ≡ Some field) where
  -- at the written object
  same_object : (a : Address) (index : ℕ) (v : Value) → field.index ≢ index → (found : Option Object) → M.get heap a ≡ found → value_in P (with_object a found (with_value index v) heap) a f ≡ value_in P heap a f
  same_object a index v other None e = refl
  same_object a index v other (Some o) e =
      ap (λ x. field_value P f x (slice_get P.fields f)) (get-insert_same heap a (with_value index v o))
      ∙ ap (field_value P f (Some (with_value index v o))) is ∙ value_other P f o field index v other
      ∙ sym (ap (field_value P f (Some o)) is) ∙ sym (ap (λ x. field_value P f x (slice_get P.fields f)) e)

  pub value_in-with_field_at : (a b : Address) (index : ℕ) (v : Value) → field.index ≢ index → value_in P (with_field a index v heap) b f ≡ value_in P heap b f
  value_in-with_field_at a b index v other =
      elim (eq_by_cmp address_cmp b a) as (λ t. eq_by_cmp address_cmp b a ≡ t → value_in P (with_field a index v heap) b f ≡ value_in P heap b f) [
        | true ↦ λ e. subst (λ x. value_in P (with_field a index v heap) x f ≡ value_in P heap x f) (sym (tied b a e)) (same_object a index v other _ refl)
        | false ↦ λ e. value_in-with_field_other P heap a b index v f (λ same. differ (sym (alike a) ∙ ap (λ x. eq_by_cmp address_cmp x a) (sym same) ∙ e))
      ] refl

  written_object : (a : Address) (old v : Value) → (found : Option Object) → M.get heap a ≡ found → value_in P heap a f ≡ Some old → value_in P (with_object a found (with_value field.index v) heap) a f ≡ Some v
  written_object a old v None e has = absurd (none-some old (sym (ap (λ x. field_value P f x (slice_get P.fields f)) e) ∙ has))
  written_object a old v (Some o) e has =
      ap (λ x. field_value P f x (slice_get P.fields f)) (get-insert_same heap a (with_value field.index v o))
      ∙ ap (field_value P f (Some (with_value field.index v o))) is
      ∙ value_written P f o field old v (sym (ap (field_value P f (Some o)) is) ∙ sym (ap (λ x. field_value P f x (slice_get P.fields f)) e) ∙ has)

  pub value_in-with_field_same : (a : Address) (old v : Value) → value_in P heap a f ≡ Some old → value_in P (with_field a field.index v heap) a f ≡ Some v
  value_in-with_field_same a old v has = written_object a old v _ refl has
