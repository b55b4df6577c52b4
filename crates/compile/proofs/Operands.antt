-- How many operands stand after parts of these types.
use Rattle.std.proofs.Common.{◌≡◌, ℕ, suc, ◌+◌, List, [], ◌∷◌, length, refl, sym, ap, subst}
use Rattle.std.specs.Prelude.{Bool, true, false, ◌||◌, map, filter, Option, Some, None, slice_get}
use Rattle.core_program.specs.declared.types.CoreOp.{CoreOp}
use Rattle.core_program.specs.declared.types.CoreOp.TheVariants.{Eq, Ne, Lt, Le, Gt, Ge, Add, Sub, Mul, Div, Rem}
use Rattle.core_program.specs.declared.types.CoreType.{CoreType}
use Rattle.core_program.specs.declared.types.CoreType.TheVariants as type
use Rattle.core_program.specs.Core.{Program, Class, Field}
use Rattle.core_program.specs.Types.{NodeType, ValueT, NullT, VoidT, boolean_type, int_type, result_type, fits, of_ints, of_equals, binary_type, field_types}
use Rattle.core_program.specs.Typed.{IsTyped, gives_value, is_final_at}
use Rattle.compile.specs.Rooms.{with_result_of}

-- how many operands stand after an expression of a type
abbrev pub after : NodeType → ℕ → ℕ
after (ValueT t) n = n + 1
after NullT n = n + 1
after VoidT n = n

-- a type that fits a value's is that of a value
pub fits_value : (kind : ℕ → ℕ → Bool) (T : NodeType) (t : CoreType) (n : ℕ) → fits kind T (ValueT t) ≡ true → after T n ≡ n + 1
fits_value kind (ValueT u) t n h = refl
fits_value kind NullT t n h = refl
fits_value kind VoidT t n h = absurd (let no : false ≡ true = h in cc)

ints_values : (r A B T : NodeType) (n : ℕ) → of_ints r A B ≡ Some T → (after A n ≡ n + 1) × (after B n ≡ n + 1) × (r ≡ T)
ints_values r (ValueT type.Int) (ValueT type.Int) T n h = (refl, refl, cc)
ints_values r _ _ T n h = absurd (let no : None ≡ Some T = h in cc)

equals_values : (kind : ℕ → ℕ → Bool) (A B T : NodeType) (n : ℕ) → of_equals (fits kind A B || fits kind B A) ≡ Some T → (after A n ≡ n + 1) × (after B n ≡ n + 1) × (boolean_type ≡ T)
equals_values kind A B T n h = elim (fits kind A B || fits kind B A) as (λ b. fits kind A B || fits kind B A ≡ b → of_equals b ≡ Some T → (after A n ≡ n + 1) × (after B n ≡ n + 1) × (boolean_type ≡ T)) [
  | true ↦ λ e g. (first A B e, second A B e, cc)
  | false ↦ λ e g. absurd (let no : None ≡ Some T = g in cc)
] refl h
  where
    first : (A B : NodeType) → fits kind A B || fits kind B A ≡ true → after A n ≡ n + 1
    first (ValueT u) B e = refl
    first NullT B e = refl
    first VoidT (ValueT u) e = absurd (let no : false ≡ true = e in cc)
    first VoidT NullT e = absurd (let no : false ≡ true = e in cc)
    first VoidT VoidT e = absurd (let no : false ≡ true = e in cc)

    second : (A B : NodeType) → fits kind A B || fits kind B A ≡ true → after B n ≡ n + 1
    second A (ValueT u) e = refl
    second A NullT e = refl
    second (ValueT type.Int) VoidT e = absurd (let no : false ≡ true = e in cc)
    second (ValueT type.Boolean) VoidT e = absurd (let no : false ≡ true = e in cc)
    second (ValueT (type.Class c)) VoidT e = absurd (let no : false ≡ true = e in cc)
    second NullT VoidT e = absurd (let no : false ≡ true = e in cc)
    second VoidT VoidT e = absurd (let no : false ≡ true = e in cc)

-- both parts of an operator and its result are values
pub binary_values : (kind : ℕ → ℕ → Bool) (op : CoreOp) (A B T : NodeType) (n : ℕ) → binary_type kind op A B ≡ Some T → (after A n ≡ n + 1) × (after B (n + 1) ≡ n + 1 + 1) × (after T n ≡ n + 1)
binary_values kind op A B T n h = let p = parts op n h in let q = parts op (n + 1) h in (p.0, q.1, p.2)
  where
    of_int : (n : ℕ) → of_ints int_type A B ≡ Some T → (after A n ≡ n + 1) × (after B n ≡ n + 1) × (after T n ≡ n + 1)
    of_int n h = let p = ints_values int_type A B T n h in (p.0, p.1, subst (λ t. after t n ≡ n + 1) p.2 refl)

    of_truth : (n : ℕ) → of_ints boolean_type A B ≡ Some T → (after A n ≡ n + 1) × (after B n ≡ n + 1) × (after T n ≡ n + 1)
    of_truth n h = let p = ints_values boolean_type A B T n h in (p.0, p.1, subst (λ t. after t n ≡ n + 1) p.2 refl)

    of_equal : (n : ℕ) → of_equals (fits kind A B || fits kind B A) ≡ Some T → (after A n ≡ n + 1) × (after B n ≡ n + 1) × (after T n ≡ n + 1)
    of_equal n h = let p = equals_values kind A B T n h in (p.0, p.1, subst (λ t. after t n ≡ n + 1) p.2 refl)

    parts : (op : CoreOp) (n : ℕ) → binary_type kind op A B ≡ Some T → (after A n ≡ n + 1) × (after B n ≡ n + 1) × (after T n ≡ n + 1)
    parts Eq n h = of_equal n h
    parts Ne n h = of_equal n h
    parts Lt n h = of_truth n h
    parts Le n h = of_truth n h
    parts Gt n h = of_truth n h
    parts Ge n h = of_truth n h
    parts Add n h = of_int n h
    parts Sub n h = of_int n h
    parts Mul n h = of_int n h
    parts Div n h = of_int n h
    parts Rem n h = of_int n h

-- what a call leaves, by its result
pub after_result : (r : Option CoreType) (n : ℕ) → with_result_of r n ≡ after (result_type r) n
after_result None n = refl
after_result (Some t) n = refl

pub length_parameters : {A B : Type 0} (ps : List (A × B)) → length (map (λ p. p.1) ps) ≡ length ps
length_parameters [] = refl
length_parameters (p ∷ ps) = ap suc (length_parameters ps)

-- a dropped result is one
pub kept : (T : NodeType) → true ≡ gives_value T → after T 0 ≡ 1
kept (ValueT t) e = refl
kept NullT e = refl
kept VoidT e = absurd (let no : true ≡ false = e in cc)

pub void : (T : NodeType) → false ≡ gives_value T → after T 0 ≡ 0
void (ValueT t) e = absurd (let no : false ≡ true = e in cc)
void NullT e = absurd (let no : false ≡ true = e in cc)
void VoidT e = refl

module _ (P : Program) (typed : IsTyped P) where
  one_final : (f : ℕ) (fs : List ℕ) (o : Option Field) → slice_get P.fields f ≡ o
      → length (field_types P (filter (λ f. is_final_at (slice_get P.fields f)) fs)) ≡ length (filter (λ f. is_final_at (slice_get P.fields f)) fs)
      → length (field_types P (filter (λ f. is_final_at (slice_get P.fields f)) (f ∷ fs))) ≡ length (filter (λ f. is_final_at (slice_get P.fields f)) (f ∷ fs))
  one_final f fs None is rest = rw is rest
  one_final f fs (Some g) is rest =
      elim g.is_final as (λ b. g.is_final ≡ b → length (field_types P (filter (λ f. is_final_at (slice_get P.fields f)) (f ∷ fs))) ≡ length (filter (λ f. is_final_at (slice_get P.fields f)) (f ∷ fs))) [
        | true ↦ λ e. rw (is, e, is) (ap suc rest)
        | false ↦ λ e. rw (is, e) rest
      ] refl

  final_types : (fs : List ℕ) → length (field_types P (filter (λ f. is_final_at (slice_get P.fields f)) fs)) ≡ length (filter (λ f. is_final_at (slice_get P.fields f)) fs)
  final_types [] = refl
  final_types (f ∷ fs) = one_final f fs (slice_get P.fields f) refl (final_types fs)

  -- a class has as many types of final fields as final fields
  pub finals_typed : (c : ℕ) (class : Class) → slice_get P.classes c ≡ Some class → length (field_types P class.finals) ≡ length class.finals
  finals_typed c class there = subst (λ fs. length (field_types P fs) ≡ length fs) (sym (typed.classes c class there).finals) (final_types class.fields)
