-- Maps that are made of sorted entries: these compute where maps don't.
use Rattle.std.proofs.Common.{◌≡◌, ℕ, ◌==◌, List, Some, None, refl, ap, ◌∙◌}
use Rattle.std.specs.Prelude.{Option, map, count_by, T}
use Rattle.std.specs.FinMap as M
use Rattle.std.specs.FinMap.{find, is_sorted, from_sorted, get-from_sorted, entries-from_sorted}
use Rattle.state.specs.declared.value.Address.{Address}
use Rattle.state.specs.declared.value.Value.{Value}
use Rattle.state.specs.Memory.{address_cmp, Object, made_by, with_value, with_object, with_field}
use Rattle.semantics.proofs.PlainRuns.{insert-from_sorted, plain_object}

module _ {X : Type 0} (es : List (Address × X)) (rising : T (is_sorted address_cmp es)) where
  pub get_is : (a : Address) → M.get (from_sorted {R = address_cmp} es) a ≡ find address_cmp a es
  get_is a = get-from_sorted address_cmp es a rising

module _ (es : List (Address × Object)) (rising : T (is_sorted address_cmp es)) where
  object_is : (a : Address) (o : Option Object) (change : Object → Object) → with_object a o change (from_sorted es) ≡ from_sorted (plain_object a o change es)
  object_is a None change = refl
  object_is a (Some o) change = insert-from_sorted es a (change o) rising

  pub field_is : (a : Address) (index : ℕ) (v : Value) → with_field a index v (from_sorted es) ≡ from_sorted (plain_object a (find address_cmp a es) (with_value index v) es)
  field_is a index v = ap (λ o. with_object a o (with_value index v) (from_sorted es)) (get_is es rising a) ∙ object_is a _ (with_value index v)

  pub made_is : (t : ℕ) → made_by t (from_sorted es) ≡ count_by (λ a. a.thread == t) (map (λ e. e.0) es)
  made_is t = ap (λ (all : List (Address × Object)). count_by (λ a. a.thread == t) (map (λ e. e.0) all)) (entries-from_sorted address_cmp es rising)
