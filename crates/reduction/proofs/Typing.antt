-- Typed expressions are tidy.
use Rattle.std.proofs.Common.{◌≡◌, ℕ, suc, ◌+◌, Bool, true, false, ◌&&◌, ◌||◌, List, [], ◌∷◌, Some, None, refl, sym, ap, ◌∙◌, arith}
use Rattle.std.specs.Prelude.{Option, slice_get, length, filter, cond, is_some, if◌then◌else◌}
use Rattle.std.specs.List.{cons_option}
use Rattle.std.proofs.lemmas.List.{length-map}
use Rattle.std.proofs.lemmas.Option.{same_Some}
use Rattle.paths.specs.Paths.{extended_some}
use Rattle.core_program.specs.declared.types.CoreOp.{CoreOp}
use Rattle.core_program.specs.declared.types.CoreOp.TheVariants.{Eq, Ne, Lt, Le, Gt, Ge, Add, Sub, Mul, Div, Rem}
use Rattle.core_program.specs.declared.types.CoreType.{CoreType}
use Rattle.core_program.specs.declared.types.CoreType.TheVariants as type
use Rattle.core_program.specs.Core as core
use Rattle.core_program.specs.Core.{Program, Expr, Exprs, IntE, TruthE, NullE, ThisE, VarE, NotE, NegE, BinaryE, AndE, OrE, GetE, CallE, NewE, no_exprs, and_expr}
use Rattle.core_program.specs.Dispatch.{is_kind_of}
use Rattle.core_program.specs.Locks.{is_class, leads_on, path_of}
use Rattle.core_program.specs.Types.{NodeType, ValueT, NullT, VoidT, int_type, boolean_type, class_type, result_type, fits, of_ints, of_equals, binary_type, Variable, field_type, field_types, parameter_types, HasType, FitEach}
use Rattle.core_program.specs.Typed.{gives_value, is_final_at, IsTyped}
use Rattle.semantics.specs.Step.{has_result}
use Rattle.reduction.specs.Fits.{arity_of, final_field_count, argument_count, valued, TidyE, TidyEach}

-- Types that give a value.

ints_give : (result A B T : NodeType) → of_ints result A B ≡ Some T → (gives_value A ≡ true) × (gives_value B ≡ true) × (result ≡ T)
ints_give result (ValueT type.Int) (ValueT type.Int) T e = (refl, refl, same_Some _ _ e)
ints_give result (ValueT type.Int) (ValueT type.Boolean) T e = absurd (let k : None ≡ Some T = e in cc)
ints_give result (ValueT type.Int) (ValueT (type.Class c)) T e = absurd (let k : None ≡ Some T = e in cc)
ints_give result (ValueT type.Int) NullT T e = absurd (let k : None ≡ Some T = e in cc)
ints_give result (ValueT type.Int) VoidT T e = absurd (let k : None ≡ Some T = e in cc)
ints_give result (ValueT type.Boolean) B T e = absurd (let k : None ≡ Some T = e in cc)
ints_give result (ValueT (type.Class c)) B T e = absurd (let k : None ≡ Some T = e in cc)
ints_give result NullT B T e = absurd (let k : None ≡ Some T = e in cc)
ints_give result VoidT B T e = absurd (let k : None ≡ Some T = e in cc)

equal_true : (b : Bool) (T : NodeType) → of_equals b ≡ Some T → (b ≡ true) × (boolean_type ≡ T)
equal_true true T e = (refl, same_Some _ _ e)
equal_true false T e = absurd (let k : None ≡ Some T = e in cc)

pub fits_gives : (kind : ℕ → ℕ → Bool) (A B : NodeType) → fits kind A B ≡ true → (gives_value A ≡ true) × (gives_value B ≡ true)
fits_gives kind (ValueT t) (ValueT u) e = (refl, refl)
fits_gives kind (ValueT t) NullT e = absurd (let k : false ≡ true = e in cc)
fits_gives kind (ValueT t) VoidT e = absurd (let k : false ≡ true = e in cc)
fits_gives kind NullT (ValueT u) e = (refl, refl)
fits_gives kind NullT NullT e = (refl, refl)
fits_gives kind NullT VoidT e = absurd (let k : false ≡ true = e in cc)
fits_gives kind VoidT (ValueT u) e = absurd (let k : false ≡ true = e in cc)
fits_gives kind VoidT NullT e = absurd (let k : false ≡ true = e in cc)
fits_gives kind VoidT VoidT e = absurd (let k : false ≡ true = e in cc)

either_gives : (kind : ℕ → ℕ → Bool) (A B : NodeType) (x y : Bool) → fits kind A B ≡ x → fits kind B A ≡ y → (x || y) ≡ true → (gives_value A ≡ true) × (gives_value B ≡ true)
either_gives kind A B true y first second e = fits_gives kind A B first
either_gives kind A B false true first second e = let r = fits_gives kind B A second in (r.1, r.0)
either_gives kind A B false false first second e = absurd (let k : false ≡ true = e in cc)

equals_give : (kind : ℕ → ℕ → Bool) (A B T : NodeType) → of_equals (fits kind A B || fits kind B A) ≡ Some T → (gives_value A ≡ true) × (gives_value B ≡ true) × (boolean_type ≡ T)
equals_give kind A B T e =
    let t = equal_true (fits kind A B || fits kind B A) T e in
    let g = either_gives kind A B (fits kind A B) (fits kind B A) refl refl t.0 in
    (g.0, g.1, t.1)

binary_gives : (kind : ℕ → ℕ → Bool) (op : CoreOp) (A B T : NodeType) → binary_type kind op A B ≡ Some T → (gives_value A ≡ true) × (gives_value B ≡ true) × (gives_value T ≡ true)
binary_gives kind Add A B T e = let r = ints_give int_type A B T e in (r.0, r.1, ap gives_value (sym r.2))
binary_gives kind Sub A B T e = let r = ints_give int_type A B T e in (r.0, r.1, ap gives_value (sym r.2))
binary_gives kind Mul A B T e = let r = ints_give int_type A B T e in (r.0, r.1, ap gives_value (sym r.2))
binary_gives kind Div A B T e = let r = ints_give int_type A B T e in (r.0, r.1, ap gives_value (sym r.2))
binary_gives kind Rem A B T e = let r = ints_give int_type A B T e in (r.0, r.1, ap gives_value (sym r.2))
binary_gives kind Lt A B T e = let r = ints_give boolean_type A B T e in (r.0, r.1, ap gives_value (sym r.2))
binary_gives kind Le A B T e = let r = ints_give boolean_type A B T e in (r.0, r.1, ap gives_value (sym r.2))
binary_gives kind Gt A B T e = let r = ints_give boolean_type A B T e in (r.0, r.1, ap gives_value (sym r.2))
binary_gives kind Ge A B T e = let r = ints_give boolean_type A B T e in (r.0, r.1, ap gives_value (sym r.2))
binary_gives kind Eq A B T e = let r = equals_give kind A B T e in (r.0, r.1, ap gives_value (sym r.2))
binary_gives kind Ne A B T e = let r = equals_give kind A B T e in (r.0, r.1, ap gives_value (sym r.2))

result_gives : (r : Option CoreType) → gives_value (result_type r) ≡ is_some r
result_gives None = refl
result_gives (Some t) = refl

-- Final fields of a class are fields with a type.

some_type : (P : Program) (f : ℕ) (o : Option core.Field) → slice_get P.fields f ≡ o → is_final_at o ≡ true → (t : CoreType) × (field_type (slice_get P.fields f) ≡ Some t)
some_type P f None is final = absurd (let k : false ≡ true = final in cc)
some_type P f (Some x) is final = (x.ty, ap field_type is)

module _ (P : Program) where
  abbrev finals_in : List ℕ → List ℕ
  finals_in fs = filter (λ f. is_final_at (slice_get P.fields f)) fs

  with_type : (f : ℕ) (fs : List ℕ) (t : CoreType) → field_type (slice_get P.fields f) ≡ Some t → length (field_types P fs) ≡ length fs → length (field_types P (f ∷ fs)) ≡ length (f ∷ fs)
  with_type f fs t is same = ap (λ o. length (cons_option o (field_types P fs))) is ∙ ap suc same

  by_final : (f : ℕ) (fs : List ℕ) (b : Bool) → is_final_at (slice_get P.fields f) ≡ b → length (field_types P fs) ≡ length fs → length (field_types P (cond b (f ∷ fs) fs)) ≡ length (cond b (f ∷ fs) fs)
  by_final f fs true is same = let t = some_type P f (slice_get P.fields f) refl is in with_type f fs t.0 t.1 same
  by_final f fs false is same = same

  final_count : (fs : List ℕ) → length (field_types P (finals_in fs)) ≡ length (finals_in fs)
  final_count [] = refl
  final_count (f ∷ fs) = by_final f (finals_in fs) (is_final_at (slice_get P.fields f)) refl (final_count fs)

module _ (P : Program) (typed : IsTyped P) (class : ℕ) (scope : List Variable) where
  -- what has a type of a value leaves an operand
  pub valued_is : (e : Expr) (T : NodeType) → HasType P class scope e T → gives_value T ≡ true → valued P e ≡ true
  valued_is (IntE n) T h g = refl
  valued_is (TruthE b) T h g = refl
  valued_is NullE T h g = refl
  valued_is ThisE T h g = refl
  valued_is (VarE x is_final ty) T h g = refl
  valued_is (NotE e) T h g = refl
  valued_is (NegE e) T h g = refl
  valued_is (BinaryE op a b) T h g = refl
  valued_is (AndE a b) T h g = refl
  valued_is (OrE a b) T h g = refl
  valued_is (GetE e f) T h g = refl
  valued_is (CallE e m args) T (method, is, receives, each, result) g = ap has_result is ∙ sym (result_gives method.result) ∙ sym (ap gives_value result) ∙ g
  valued_is (NewE c args) T h g = refl

  -- the same, in both directions
  pub gives_is : (e : Expr) (T : NodeType) → HasType P class scope e T → gives_value T ≡ valued P e
  gives_is (IntE n) T h = ap gives_value h
  gives_is (TruthE b) T h = ap gives_value h
  gives_is NullE T h = ap gives_value h
  gives_is ThisE T h = ap gives_value h
  gives_is (VarE x is_final ty) T h = ap gives_value h.1
  gives_is (NotE e) T h = ap gives_value h.1
  gives_is (NegE e) T h = ap gives_value h.1
  gives_is (BinaryE op a b) T (A, B, first, second, is) = (binary_gives (is_kind_of P) op A B T is).2
  gives_is (AndE a b) T h = ap gives_value h.2
  gives_is (OrE a b) T h = ap gives_value h.2
  gives_is (GetE e f) T (field, is, receives, ty) = ap gives_value ty
  gives_is (CallE e m args) T (method, is, receives, each, result) = ap gives_value result ∙ result_gives method.result ∙ sym (ap has_result is)
  gives_is (NewE c args) T (made, is, each, ty) = ap gives_value ty

  no_boolean : (c : ℕ) → boolean_type ≡ class_type c → ⊥
  no_boolean c e = let k : true ≡ false = ap is_boolean e in absurd cc
    where
      is_boolean : NodeType → Bool
      is_boolean (ValueT type.Boolean) = true
      is_boolean _ = false

  unled : (x : core.Field) → boolean_type ≡ ValueT x.ty → leads_on (Some x) ≡ false
  unled x e = both_false x.is_final (is_class x.ty) (sym (ap type_class e))
    where
      type_class : NodeType → Bool
      type_class (ValueT t) = is_class t
      type_class NullT = false
      type_class VoidT = false

      both_false : (a b : Bool) → b ≡ false → (a && b) ≡ false
      both_false true b e = e
      both_false false b e = refl

  -- a boolean has no path
  no_path : (e : Expr) → HasType P class scope e boolean_type → path_of P e ≡ None
  no_path ThisE h = absurd (no_boolean class h)
  no_path (VarE x true (type.Class c)) h = absurd (no_boolean c h.1)
  no_path (VarE x true type.Int) h = refl
  no_path (VarE x true type.Boolean) h = refl
  no_path (VarE x false ty) h = refl
  no_path (GetE e f) (field, is, receives, ty) = ap (λ b. if b then extended_some (path_of P e) (f ∷ []) else None) (ap leads_on is ∙ unled field ty)
  no_path (IntE n) h = refl
  no_path (TruthE b) h = refl
  no_path NullE h = refl
  no_path (NotE e) h = refl
  no_path (NegE e) h = refl
  no_path (BinaryE op a b) h = refl
  no_path (AndE a b) h = refl
  no_path (OrE a b) h = refl
  no_path (CallE e m args) h = refl
  no_path (NewE c args) h = refl

  fit_count : (es : Exprs) (ts : List CoreType) → FitEach P class scope es ts → length ts ≡ argument_count es
  fit_count no_exprs [] h = refl
  fit_count no_exprs (t ∷ ts) h = absurd h
  fit_count (and_expr e es) [] h = absurd h
  fit_count (and_expr e es) (t ∷ ts) h = counts (length ts) (argument_count es) (fit_count es ts h.1)
    where
      counts : (n m : ℕ) → n ≡ m → suc n ≡ 1 + m
      counts n m e = omega (arith, e)

  mutual
    pub typed_tidy : (e : Expr) (T : NodeType) → HasType P class scope e T → TidyE P e
    typed_tidy (IntE n) T h = tt
    typed_tidy (TruthE b) T h = tt
    typed_tidy NullE T h = tt
    typed_tidy ThisE T h = tt
    typed_tidy (VarE x is_final ty) T h = tt
    typed_tidy (NotE e) T h = (valued_is e boolean_type h.0 refl, typed_tidy e boolean_type h.0)
    typed_tidy (NegE e) T h = (valued_is e int_type h.0 refl, typed_tidy e int_type h.0)
    typed_tidy (BinaryE op a b) T (A, B, first, second, is) =
        let g = binary_gives (is_kind_of P) op A B T is in
        (valued_is a A first g.0, typed_tidy a A first, valued_is b B second g.1, typed_tidy b B second)
    typed_tidy (AndE a b) T h = (valued_is a boolean_type h.0 refl, typed_tidy a boolean_type h.0, valued_is b boolean_type h.1 refl, typed_tidy b boolean_type h.1, no_path b h.1)
    typed_tidy (OrE a b) T h = (valued_is a boolean_type h.0 refl, typed_tidy a boolean_type h.0, valued_is b boolean_type h.1 refl, typed_tidy b boolean_type h.1, no_path b h.1)
    typed_tidy (GetE e f) T (field, is, (c, receives, kind), ty) = (valued_is e (class_type c) receives refl, typed_tidy e (class_type c) receives)
    typed_tidy (CallE e m args) T (method, is, (c, receives, kind), each, result) = (
      valued_is e (class_type c) receives refl,
      typed_tidy e (class_type c) receives,
      each_tidy args (parameter_types method) each,
      ap arity_of is ∙ sym (length-map method.params (λ p. p.1)) ∙ fit_count args (parameter_types method) each,
    )
    typed_tidy (NewE c args) T (made, is, each, ty) = (
      each_tidy args (field_types P made.finals) each,
      ap final_field_count is ∙ ap length (typed.classes c made is).finals
          ∙ sym (final_count P made.fields) ∙ ap (λ fs. length (field_types P fs)) (sym (typed.classes c made is).finals) ∙ fit_count args (field_types P made.finals) each,
    )

    each_tidy : (es : Exprs) (ts : List CoreType) → FitEach P class scope es ts → TidyEach P es
    each_tidy no_exprs ts h = tt
    each_tidy (and_expr e es) [] h = absurd h
    each_tidy (and_expr e es) (t ∷ ts) ((T, has, fit), rest) = (valued_is e T has (fits_gives (is_kind_of P) T (ValueT t) fit).0, typed_tidy e T has, each_tidy es ts rest)
