-- The path of a lock expression is that of a lock of the core program.
use Rattle.std.proofs.Common.{◌≡◌, ℕ, ◌<◌, ◌≤◌, zero, suc, Bool, true, false, List, [], ◌∷◌, ◌++◌, length, Option, Some, None, Ok, refl, sym, ◌∙◌, subst, ◌&&◌, Contains, slice_get, arith, if◌then◌else◌}
use Rattle.std.specs.Prelude.{ok_or, nat_le}
use Rattle.std.proofs.lemmas.Bool.Decides.{nat_tests}
use Rattle.std.proofs.lemmas.Option.{same_Some}
use Rattle.std.proofs.lemmas.Bool.{and_parts}
use Rattle.paths.specs.Paths.{PathData, extended, extended_some, most_fields}
use Rattle.syntax.specs.declared.tree.Name.{Name}
use Rattle.syntax.specs.Trees.{LockTree}
use Rattle.core_program.specs.declared.types.CoreType.{CoreType}
use Rattle.core_program.specs.declared.types.CoreType.TheVariants as type
use Rattle.core_program.specs.Core.{Program, Field}
use Rattle.core_program.specs.Dispatch.{is_kind_of}
use Rattle.core_program.specs.Locks.{slot_path, is_class}
use Rattle.core_program.specs.Types.{Variable}
use Rattle.core_program.specs.Typed.{IsRoot, LeadsOn, IsLock}
use Rattle.core_program.proofs.LockLemmas.{number_same}
use Rattle.classes.specs.Table.{TableData}
use Rattle.classes.specs.Seen.{FieldData}
use Rattle.typing.specs.declared.fault.TypeFault.TheVariants.{UnknownName, NotALock}
use Rattle.typing.specs.Rulings.{demand, then_rule}
use Rattle.typing.specs.Scopes.{Scope, variable, this_variable}
use Rattle.typing.specs.Rules.{class_of_core_type, field_of_class}
use Rattle.typing.specs.Locks.{Reach, reach_of, one_field_further, lock_field, path_along, lock_end, root_rule, lock_rule}
use Rattle.typing.proofs.Inversions.{same_ok, demand_of, then_of, ok_or_of}
use Rattle.typing.proofs.TypedExprs.{IsFieldOf, Agrees, Seen, class_in_of}

-- from an object of a class along final fields to an object of another
abbrev LeadsTo : Program → ℕ → List ℕ → ℕ → Type 0
LeadsTo P c [] d = c ≡ d
LeadsTo P c (f ∷ fs) d =
    (field : Field) × (e : ℕ) × (slice_get P.fields f ≡ Some field) × (is_kind_of P c field.class ≡ true) × (field.is_final ≡ true) × (field.ty ≡ type.Class e) × LeadsTo P e fs d

leads_on : (P : Program) (c : ℕ) (fs : List ℕ) (d : ℕ) → LeadsTo P c fs d → LeadsOn P c fs
leads_on P c [] d h = tt
leads_on P c (f ∷ fs) d (field, e, is, of_class, final_is, ty, rest) = (field, e, is, of_class, final_is, ty, leads_on P e fs d rest)

leads_more : (P : Program) (c : ℕ) (fs : List ℕ) (d f : ℕ) (field : Field) (e : ℕ) → LeadsTo P c fs d → slice_get P.fields f ≡ Some field
    → is_kind_of P d field.class ≡ true → field.is_final ≡ true → field.ty ≡ type.Class e → LeadsTo P c (fs ++ f ∷ []) e
leads_more P c [] d f field e h is of_class final_is ty = (field, e, is, subst (λ x. is_kind_of P x field.class ≡ true) (sym h) of_class, final_is, ty, refl)
leads_more P c (g ∷ fs) d f field e (other, b, is_other, of_other, final_other, ty_other, rest) is of_class final_is ty =
    (other, b, is_other, of_other, final_other, ty_other, leads_more P b fs d f field e rest is of_class final_is ty)

-- what an extension is
pub extension_of : (q : PathData) (fs : List ℕ) (p : PathData) → extended q fs ≡ Some p
    → (record { root = q.root; fields = q.fields ++ fs } ≡ p) × (length (q.fields ++ fs) ≤ most_fields)
extension_of q fs p =
    elim (nat_le (length (q.fields ++ fs)) most_fields)
    as (λ b. nat_le (length (q.fields ++ fs)) most_fields ≡ b
    → (if b then Some (record { root = q.root; fields = q.fields ++ fs }) else None) ≡ Some p
    → (record { root = q.root; fields = q.fields ++ fs } ≡ p) × (length (q.fields ++ fs) ≤ most_fields)) [
      | true ↦ λ is h. (same_Some _ p h, short_of (length (q.fields ++ fs)) is)
      | false ↦ λ is h. absurd (let e : None ≡ Some p = h in cc)
    ] refl
  where
    short_of : (n : ℕ) → nat_le n most_fields ≡ true → n ≤ most_fields
    short_of n h = grind (arith, nat_tests)

pub class_of : (ty : CoreType) → is_class ty ≡ true → (c : ℕ) × (ty ≡ type.Class c)
class_of (type.Class c) h = (c, refl)
class_of type.Int h = absurd (let e : false ≡ true = h in cc)
class_of type.Boolean h = absurd (let e : false ≡ true = h in cc)

module _ (t : TableData) (P : Program) (agrees : Agrees t P) (class : ℕ) (vars : List Variable) where
  -- a path from a root in scope to an object of a class
  record IsWalk (p : PathData) (c : ℕ) : Type 0 where
    root_class : ℕ
    root : IsRoot class vars p.root root_class
    leads : LeadsTo P root_class p.fields c
    short : length p.fields ≤ most_fields

  -- where all is final, the path is one
  abbrev Walks : Reach → Type 0
  Walks r = (p : PathData) (c : ℕ) → r.is_final ≡ true → r.path ≡ Some p → r.ty ≡ type.Class c → IsWalk p c

  -- where a variable is final and has a class type, it is a root
  abbrev CanRoot : Variable → Type 0
  CanRoot v = (c : ℕ) → v.is_final ≡ true → v.ty ≡ type.Class c → IsRoot class vars v.slot c

  walks_root : (v : Variable) → CanRoot v → Walks (reach_of v)
  walks_root v can p c final_is path ty =
      let e : slot_path v.slot ≡ p = same_Some (slot_path v.slot) p path in
      subst (λ q. IsWalk q c) e (record { root_class = c; root = can c final_is ty; leads = refl; short = omega arith })

  walks_through : (r : Reach) (d : ℕ) (f : ℕ × FieldData) → Walks r → r.ty ≡ type.Class d → IsFieldOf P d f → Walks (one_field_further r f)
  walks_through r d f walks of_class is p c final_is path ty =
      let finals = and_parts r.is_final f.1.is_final final_is in
      more r.path refl finals.0 finals.1 path
    where
      more : (o : Option PathData) → r.path ≡ o → r.is_final ≡ true → f.1.is_final ≡ true → extended_some o (f.0 ∷ []) ≡ Some p → IsWalk p c
      more None same first_final last_final h = absurd (let e : None ≡ Some p = h in cc)
      more (Some q) same first_final last_final h =
          let e = extension_of q (f.0 ∷ []) p h in
          let w = walks q d first_final same of_class in
          subst (λ z. IsWalk z c) e.0 (record {
            root_class = w.root_class;
            root = w.root;
            leads = leads_more P w.root_class q.fields d f.0 is.field c w.leads is.is is.of_class (is.finality ∙ last_final) (is.ty ∙ ty);
            short = e.1;
          })

  walks_along : (at : ℕ) (r : Reach) (ns : List Name) (s : Reach) → Walks r → path_along t at r ns ≡ Ok s → Walks s
  walks_along at r [] s walks h = subst Walks (same_ok r s h) walks
  walks_along at r (n ∷ ns) s walks h =
      let f = then_of (lock_field t at r n) (λ f. path_along t at (one_field_further r f) ns) s h in
      let c = then_of (ok_or (class_of_core_type r.ty) (NotALock at)) (λ c. ok_or (field_of_class t c n.text) (UnknownName n.at)) f.0 f.1 in
      let of_class = class_in_of r.ty c.0 (ok_or_of (class_of_core_type r.ty) (NotALock at) c.0 c.1) in
      let is = agrees.fields c.0 n.text f.0 (ok_or_of (field_of_class t c.0 n.text) (UnknownName n.at) f.0 c.2) in
      walks_along at (one_field_further r f.0) ns s (walks_through r c.0 f.0 walks of_class is) f.2

  lock_of : (p : PathData) (c : ℕ) → IsWalk p c → IsLock P class vars p
  lock_of p c w = record { root_class = w.root_class; root = w.root; fields = leads_on P w.root_class p.fields c w.leads; short = w.short }

  end_is_lock : (at : ℕ) (r : Reach) (p : PathData) → Walks r → lock_end at r ≡ Ok p → IsLock P class vars p
  end_is_lock at r p walks h =
      let o = then_of (demand (r.is_final && is_class r.ty) (NotALock at) r.path) (λ q. ok_or q (NotALock at)) p h in
      let d = demand_of (r.is_final && is_class r.ty) (NotALock at) r.path o.0 o.1 in
      let b = and_parts r.is_final (is_class r.ty) d.0 in
      let c = class_of r.ty b.1 in
      lock_of p c.0 (walks p c.0 b.0 (d.1 ∙ ok_or_of o.0 (NotALock at) p o.2) c.1)

  this_can : CanRoot (this_variable class)
  this_can c final_is ty = sym (number_same class c ty)

  seen_can : (slot : ℕ) (final_is : Bool) (ty : CoreType) → Contains vars (record { slot = slot; is_final = final_is; ty = ty }) → 0 < slot
      → CanRoot (record { slot = slot; is_final = final_is; ty = ty })
  seen_can zero b ty seen above c is_final_ is_ty = absurd (omega (arith, above))
  seen_can (suc x) b ty seen above c is_final_ is_ty =
      subst (λ z. Contains vars (record { slot = suc x; is_final = true; ty = z })) is_ty
      (subst (λ z. Contains vars (record { slot = suc x; is_final = z; ty = ty })) is_final_ seen)

  root_can : (scope : Scope) → Seen scope vars → (root : Option Name) (v : Variable) → root_rule class scope root ≡ Ok v → CanRoot v
  root_can scope seen None v h = subst CanRoot (same_ok (this_variable class) v h) this_can
  root_can scope seen (Some n) v h =
      let is = ok_or_of (variable scope n.text) (UnknownName n.at) v h in
      seen_can v.slot v.is_final v.ty (seen.seen n.text v is) (seen.above n.text v is)

  -- a lock that has a path is one of the core program
  pub lock_holds : (scope : Scope) → Seen scope vars → (l : LockTree) (p : PathData) → lock_rule t class scope l ≡ Ok p → IsLock P class vars p
  lock_holds scope seen l p h =
      let v = then_of (root_rule class scope l.root) (λ v. then_rule (path_along t l.at (reach_of v) l.fields) (lock_end l.at)) p h in
      let r = then_of (path_along t l.at (reach_of v.0) l.fields) (lock_end l.at) p v.2 in
      end_is_lock l.at r.0 p (walks_along l.at (reach_of v.0) l.fields r.0 (walks_root v.0 (root_can scope seen l.root v.0 v.1)) r.1) r.2
