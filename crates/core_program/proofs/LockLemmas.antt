-- The path of a typed expression of class type is that of a lock.
use Rattle.std.proofs.Common.{◌≡◌, ◌≤◌, ◌<◌, ℕ, zero, suc, Bool, true, false, ◌&&◌, List, [], ◌∷◌, ◌++◌, length, Some, None, refl, sym, ap, subst, ◌∙◌, arith}
use Rattle.std.specs.Prelude.{Option, slice_get, Contains, nat_le, unwrap_or, if◌then◌else◌}
use Rattle.std.proofs.lemmas.Bool.Decides.{nat_tests}
use Rattle.paths.specs.Paths.{PathData, extended_some, most_fields}
use Rattle.core_program.specs.declared.types.CoreType.{CoreType}
use Rattle.core_program.specs.declared.types.CoreType.TheVariants as type
use Rattle.core_program.specs.Core as core
use Rattle.core_program.specs.Core.{Program, Expr, IntE, TruthE, NullE, ThisE, VarE, NotE, NegE, BinaryE, AndE, OrE, GetE, CallE, NewE}
use Rattle.core_program.specs.Dispatch.{is_kind_of}
use Rattle.core_program.specs.Locks.{is_class, leads_on, path_of}
use Rattle.core_program.specs.Types.{NodeType, ValueT, class_type, Variable, HasType}
use Rattle.core_program.specs.Typed.{IsRoot, LeadsOn, IsLock}

some_same : {A : Type 0} {x y : A} → Some x ≡ Some y → x ≡ y
some_same {A = A} {x = x} e = ap (λ o. unwrap_or o x) e

abbrev type_or : NodeType → CoreType
type_or (ValueT t) = t
type_or _ = type.Int

abbrev number_or : CoreType → ℕ
number_or (type.Class c) = c
number_or _ = 0

class_same : (c : ℕ) (t : CoreType) → class_type c ≡ ValueT t → t ≡ type.Class c
class_same c t e = ap type_or (sym e)

pub number_same : (c d : ℕ) → type.Class c ≡ type.Class d → c ≡ d
number_same c d e = ap number_or e

module _ (P : Program) (class : ℕ) (scope : List Variable) (above : (v : Variable) → Contains scope v → 0 < v.slot) where
  -- from a class these fields lead to another
  abbrev EndsAt : ℕ → List ℕ → ℕ → Type 0
  EndsAt c [] d = c ≡ d
  EndsAt c (f ∷ fs) d = (field : core.Field) × (e : ℕ) × (slice_get P.fields f ≡ Some field) × (is_kind_of P c field.class ≡ true) × (field.is_final ≡ true) × (field.ty ≡ type.Class e) × EndsAt e fs d

  one_more : (c : ℕ) (fs : List ℕ) (d f : ℕ) (field : core.Field) (e : ℕ) → EndsAt c fs d → slice_get P.fields f ≡ Some field → is_kind_of P d field.class ≡ true → field.is_final ≡ true → field.ty ≡ type.Class e → EndsAt c (fs ++ f ∷ []) e
  one_more c [] d f field e ends is of_class final ty = (field, e, is, subst (λ x. is_kind_of P x field.class ≡ true) (sym ends) of_class, final, ty, refl)
  one_more c (g ∷ fs) d f field e (first, mid, at, of_first, final_first, ty_first, rest) is of_class final ty = (first, mid, at, of_first, final_first, ty_first, one_more mid fs d f field e rest is of_class final ty)

  leads : (c : ℕ) (fs : List ℕ) (d : ℕ) → EndsAt c fs d → LeadsOn P c fs
  leads c [] d ends = tt
  leads c (f ∷ fs) d (field, e, is, of_class, final, ty, rest) = (field, e, is, of_class, final, ty, leads e fs d rest)

  record Reaches (p : PathData) (d : ℕ) : Type 0 where
    root_class : ℕ
    root : IsRoot class scope p.root root_class
    ends : EndsAt root_class p.fields d
    short : length p.fields ≤ most_fields

  root_var : (x c : ℕ) → Contains scope (record { slot = x; is_final = true; ty = type.Class c }) → IsRoot class scope x c
  root_var zero c has = absurd (let a = above (record { slot = zero; is_final = true; ty = type.Class c }) has in omega (arith, a))
  root_var (suc x) c has = has

  both_parts : (a b : Bool) → (a && b) ≡ true → (a ≡ true) × (b ≡ true)
  both_parts true b e = (refl, e)
  both_parts false b e = absurd cc

  if_some : {A : Type 0} (b : Bool) (o : Option A) (x : A) → (if b then o else None) ≡ Some x → (b ≡ true) × (o ≡ Some x)
  if_some true o x e = (refl, e)
  if_some false o x e = absurd (let k : None ≡ Some x = e in cc)

  extended_parts : (o : Option PathData) (fs : List ℕ) (p : PathData) → extended_some o fs ≡ Some p → (r : PathData) × (o ≡ Some r) × (record { root = r.root; fields = r.fields ++ fs } ≡ p) × (length (r.fields ++ fs) ≤ most_fields)
  extended_parts None fs p e = absurd (let k : None ≡ Some p = e in cc)
  extended_parts (Some r) fs p e =
      let parts = if_some (nat_le (length (r.fields ++ fs)) most_fields) (Some (record { root = r.root; fields = r.fields ++ fs })) p e in
      (r, refl, some_same parts.1, is_short (length (r.fields ++ fs)) parts.0)
    where
      is_short : (n : ℕ) → nat_le n most_fields ≡ true → n ≤ most_fields
      is_short n e = grind (arith, nat_tests)

  path_reaches : (e : Expr) (c : ℕ) (p : PathData) → HasType P class scope e (class_type c) → path_of P e ≡ Some p → Reaches p c
  path_reaches ThisE c p h is = subst (λ q. Reaches q c) (some_same is)
      (record { root_class = class; root = refl; ends = number_same class c (ap type_or (sym h)); short = omega arith })
  path_reaches (VarE x true (type.Class d)) c p h is = subst (λ q. Reaches q c) (some_same is)
      (record { root_class = d; root = root_var x d h.0; ends = number_same d c (class_same c (type.Class d) h.1); short = omega arith })
  path_reaches (VarE x true type.Int) c p h is = absurd (let k : None ≡ Some p = is in cc)
  path_reaches (VarE x true type.Boolean) c p h is = absurd (let k : None ≡ Some p = is in cc)
  path_reaches (VarE x false ty) c p h is = absurd (let k : None ≡ Some p = is in cc)
  path_reaches (GetE e f) c p (field, at, (d, receives, kind), ty) is =
      let parts = if_some (leads_on (slice_get P.fields f)) (extended_some (path_of P e) (f ∷ [])) p is in
      let tests = both_parts field.is_final (is_class field.ty) (ap leads_on (sym at) ∙ parts.0) in
      let r = extended_parts (path_of P e) (f ∷ []) p parts.1 in
      let before = path_reaches e d r.0 receives r.1 in
      subst (λ q. Reaches q c) r.2 (record {
        root_class = before.root_class;
        root = before.root;
        ends = one_more before.root_class (r.0).fields d f field c before.ends at kind tests.0 (class_same c field.ty ty);
        short = r.3;
      })
  path_reaches (IntE n) c p h is = absurd (let k : None ≡ Some p = is in cc)
  path_reaches (TruthE b) c p h is = absurd (let k : None ≡ Some p = is in cc)
  path_reaches NullE c p h is = absurd (let k : None ≡ Some p = is in cc)
  path_reaches (NotE e) c p h is = absurd (let k : None ≡ Some p = is in cc)
  path_reaches (NegE e) c p h is = absurd (let k : None ≡ Some p = is in cc)
  path_reaches (BinaryE op a b) c p h is = absurd (let k : None ≡ Some p = is in cc)
  path_reaches (AndE a b) c p h is = absurd (let k : None ≡ Some p = is in cc)
  path_reaches (OrE a b) c p h is = absurd (let k : None ≡ Some p = is in cc)
  path_reaches (CallE e m args) c p h is = absurd (let k : None ≡ Some p = is in cc)
  path_reaches (NewE d args) c p h is = absurd (let k : None ≡ Some p = is in cc)

  lock_of : (p : PathData) (c : ℕ) → Reaches p c → IsLock P class scope p
  lock_of p c r = record { root_class = r.root_class; root = r.root; fields = leads r.root_class p.fields c r.ends; short = r.short }

pub path_is_lock : (P : Program) (class : ℕ) (scope : List Variable) → ((v : Variable) → Contains scope v → 0 < v.slot) → (e : Expr) (c : ℕ) (p : PathData) → HasType P class scope e (class_type c) → path_of P e ≡ Some p → IsLock P class scope p
path_is_lock P class scope above e c p has is = lock_of P class scope above p c (path_reaches P class scope above e c p has is)
