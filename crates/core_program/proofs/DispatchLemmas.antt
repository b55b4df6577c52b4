-- Kinds of classes, and the pairs of a class.
use Rattle.std.proofs.Common.{◌≡◌, ◌<◌, ℕ, zero, suc, Bool, true, false, ◌==◌, ◌||◌, List, [], ◌∷◌, length, nat_cmp, Option, Some, None, refl, sym, ap, subst, ◌∙◌, arith, if◌then◌else◌}
use Rattle.std.specs.Prelude.{IsSome, slice_get}
use Rattle.std.specs.Option.{option_and_then}
use Rattle.std.specs.List.Sorted.{IsStrictlySortedBy}
use Rattle.std.proofs.lemmas.Bool.{eqb-true, eq-eqb}
use Rattle.std.proofs.lemmas.Option.{none-some, same_Some}
use Rattle.std.proofs.lemmas.List.Elements.{All-cons}
use Rattle.base.specs.Ancestors.{steps_up, reaches, IsAncestor}
use Rattle.core_program.specs.declared.types.CoreOp.{CoreOp}
use Rattle.core_program.specs.declared.types.CoreOp.TheVariants.{Eq, Ne, Lt, Le, Gt, Ge, Add, Sub, Mul, Div, Rem}
use Rattle.core_program.specs.declared.types.CoreType.{CoreType}
use Rattle.core_program.specs.declared.types.CoreType.TheVariants as type
use Rattle.core_program.specs.Core.{Program, Class}
use Rattle.core_program.specs.Dispatch.{above_of, is_kind_of, partner, targets_in, IsOwn, Overrides}
use Rattle.core_program.specs.Types.{NodeType, ValueT, NullT, VoidT, type_fits, fits, of_equals, binary_type}
use Rattle.core_program.specs.Typed.{own, AreTargets}

reaches_itself : (above : ℕ → Option ℕ) (n c : ℕ) → reaches above n (Some c) c ≡ true
reaches_itself above zero c = eq-eqb c c refl
reaches_itself above (suc n) c = ap (λ b. b || reaches above n (above c) c) (eq-eqb c c refl)

-- each class is of its own kind
pub kind_itself : (P : Program) (c : ℕ) → is_kind_of P c c ≡ true
kind_itself P c = reaches_itself (above_of P) (length P.classes) c

pub kind_same : (P : Program) (c d : ℕ) → c ≡ d → is_kind_of P c d ≡ true
kind_same P c d same = subst (λ x. is_kind_of P c x ≡ true) same (kind_itself P c)

-- ---- a test that finds more kinds lets more types fit

module _ (some more : ℕ → ℕ → Bool) (wider : (c d : ℕ) → some c d ≡ true → more c d ≡ true) where
  type_fits_more : (t u : CoreType) → type_fits some t u ≡ true → type_fits more t u ≡ true
  type_fits_more type.Int type.Int h = refl
  type_fits_more type.Boolean type.Boolean h = refl
  type_fits_more (type.Class c) (type.Class d) h = wider c d h
  type_fits_more type.Int type.Boolean h = h
  type_fits_more type.Int (type.Class d) h = h
  type_fits_more type.Boolean type.Int h = h
  type_fits_more type.Boolean (type.Class d) h = h
  type_fits_more (type.Class c) type.Int h = h
  type_fits_more (type.Class c) type.Boolean h = h

  pub fits_more : (T U : NodeType) → fits some T U ≡ true → fits more T U ≡ true
  fits_more (ValueT t) (ValueT u) h = type_fits_more t u h
  fits_more (ValueT t) NullT h = h
  fits_more (ValueT t) VoidT h = h
  fits_more NullT (ValueT u) h = h
  fits_more NullT NullT h = h
  fits_more NullT VoidT h = h
  fits_more VoidT (ValueT u) h = h
  fits_more VoidT NullT h = h
  fits_more VoidT VoidT h = h

  either_more : (a b c d : Bool) (T : NodeType) → (a ≡ true → c ≡ true) → (b ≡ true → d ≡ true) → of_equals (a || b) ≡ Some T → of_equals (c || d) ≡ Some T
  either_more true b c d T first second h = ap (λ x. of_equals (x || d)) (first refl) ∙ h
  either_more false true true d T first second h = h
  either_more false true false d T first second h = ap of_equals (second refl) ∙ h
  either_more false false c d T first second h = absurd (none-some T h)

  pub binary_more : (op : CoreOp) (A B T : NodeType) → binary_type some op A B ≡ Some T → binary_type more op A B ≡ Some T
  binary_more Add A B T h = h
  binary_more Sub A B T h = h
  binary_more Mul A B T h = h
  binary_more Div A B T h = h
  binary_more Rem A B T h = h
  binary_more Lt A B T h = h
  binary_more Le A B T h = h
  binary_more Gt A B T h = h
  binary_more Ge A B T h = h
  binary_more Eq A B T h = either_more (fits some A B) (fits some B A) (fits more A B) (fits more B A) T (fits_more A B) (fits_more B A) h
  binary_more Ne A B T h = either_more (fits some A B) (fits some B A) (fits more A B) (fits more B A) T (fits_more A B) (fits_more B A) h

-- ---- pairs

-- of one pair, the partner
one_partner : (k m n : ℕ) (b : Bool) → (k == m) ≡ b → (if b then Some k else None) ≡ Some n → (m ≡ k) × (n ≡ k)
one_partner k m n true same h = (sym (eqb-true k m same), sym (same_Some k n h))
one_partner k m n false same h = absurd (none-some n h)

one_ascends : (k : ℕ) → IsStrictlySortedBy nat_cmp (k ∷ [])
unfolding IsStrictlySortedBy
one_ascends k = (tt, tt)

-- where each method runs for itself, none overrides another
pub none_overrides : (P : Program) → ((c : ℕ) (class : Class) → slice_get P.classes c ≡ Some class → (m n : ℕ) → partner class.targets m ≡ Some n → n ≡ m) → (over m : ℕ) → Overrides P over m → ⊥
none_overrides P themselves over m o = in_class (slice_get P.classes o.method.class) refl o.runs
  where
    in_class : (x : Option Class) → slice_get P.classes o.method.class ≡ x → partner (targets_in (slice_get P.classes o.method.class)) m ≡ Some over → ⊥
    in_class None none is = none-some over (sym (ap (λ y. partner (targets_in y) m) none) ∙ is)
    in_class (Some class) there is = o.differs (themselves o.method.class class there m over (sym (ap (λ y. partner (targets_in y) m) there) ∙ is))

-- where no class extends another, none has an ancestor
pub none_above : (P : Program) → ((c : ℕ) → above_of P c ≡ None) → (c d : ℕ) → IsAncestor (above_of P) c d → ⊥
none_above P none c d (n, is) = none-some d (sym (ap (λ o. option_and_then (λ x. steps_up (above_of P) n x) o) (none c)) ∙ is)

-- a class that extends none and has one method
pub one_target : (P : Program) (c k : ℕ) (fields finals : List ℕ) (run : Option ℕ) → IsOwn P c k → ((m : ℕ) → IsOwn P c m → m ≡ k) → k < length P.methods
    → AreTargets P c (record { fields = fields; finals = finals; run = run; above = None; targets = (k, k) ∷ [] })
one_target P c k fields finals run mine only there = record {
  ascend = one_ascends k;
  each = λ m n is. let p = one_partner k m n (k == m) refl is in own (subst (IsOwn P c) (sym p.0) mine) (p.1 ∙ sym p.0);
  all_own = λ m is. ap (λ b. Rattle.std.specs.Option.is_some (if b then Some k else None)) (eq-eqb k m (sym (only m is)));
  all_inherited = λ m some. absurd (none-inherited m some);
  ids = All-cons (λ p. (p.0 < length P.methods) × (p.1 < length P.methods)) (k, k) [] (there, there) (λ j d below. absurd (omega arith));
}
  where
    none-inherited : (m : ℕ) → IsSome {T = ℕ} None → ⊥
    none-inherited m some = let e : false ≡ true = some in cc
