-- The required paths of a typed method are among its relevant ones.
use Rattle.std.proofs.Common.{◌≡◌, ℕ, zero, suc, ◌+◌, ◌<◌, ◌≤◌, Bool, true, false, List, [], ◌∷◌, length, get_or, slice_get, Some, None, sym, ap, subst, arith, inl, inr}
use Rattle.std.specs.Prelude.{Contains}
use Rattle.std.specs.List.{AllByRecursion}
use Rattle.std.proofs.lemmas.List.Elements.{recursion_from_All}
use Rattle.std.proofs.lemmas.Option.{slice_get-get_or, slice_get_within}
use Rattle.std.proofs.lemmas.Bool.{or_cases}
use Rattle.paths.specs.Paths.{PathData, path_eq}
use Rattle.paths.proofs.PathOrder.{eq_is}
use Rattle.algebra.specs.HeldPaths.{has_path}
use Rattle.core_program.specs.declared.types.CoreType.{CoreType}
use Rattle.core_program.specs.declared.types.CoreType.TheVariants as type
use Rattle.core_program.specs.Core.{Program, Method}
use Rattle.core_program.specs.Types.{Variable}
use Rattle.core_program.specs.Typed.{IsTyped, IsLock, IsRoot, parameters, parameters_in_scope}
use Rattle.rules.specs.Near.{required, MethodPaths, AreRelevant, rel_of, rel_paths, IsRel}
use Rattle.rules.specs.Rules.{IsSubset}
use Rattle.rules.proofs.NearOnly.{contains_here, contains_later}

-- a path of the list, with what holds of each path of it
has_with : (L : PathData → Type 0) (ps : List PathData) (q : PathData) → AllByRecursion L ps → has_path ps q ≡ true → Contains ps q × L q
has_with L [] q each e = absurd (let k : false ≡ true = e in cc)
has_with L (p ∷ ps) q each e = elim (or_cases (path_eq p q) (has_path ps q) e) as (λ _. Contains (p ∷ ps) q × L q) [
  | inl same ↦ (subst (Contains (p ∷ ps)) (eq_is p q same) (contains_here p ps), subst L (eq_is p q same) each.0)
  | inr other ↦ let rest = has_with L ps q each.1 other in (contains_later p q ps rest.0, rest.1)
]

-- parameters have the slots from the first one on
slot_low : (ps : List (Bool × CoreType)) (x : ℕ) (v : Variable) (k : ℕ) → k < length (parameters_in_scope x ps) → get_or (parameters_in_scope x ps) k v ≡ v → v.slot < x + length ps
slot_low [] x v k below at = absurd (omega arith)
slot_low (p ∷ ps) x v zero below at = let e : x ≡ v.slot = ap (λ w. w.slot) at in omega arith
slot_low (p ∷ ps) x v (suc k) below at = let r = slot_low ps (x + 1) v k (omega arith) at in omega arith

root_outer : (class c : ℕ) (ps : List (Bool × CoreType)) (x : ℕ) → IsRoot class (parameters_in_scope 1 ps) x c → x ≤ length ps
root_outer class c ps zero root = omega arith
root_outer class c ps (suc x) root = let s = slot_low ps 1 (record { slot = suc x; is_final = true; ty = type.Class c }) root.0 root.1 root.2 in omega arith

module _ (P : Program) (sets : List MethodPaths) (relevant : AreRelevant P sets) where
  sets_at : (m : ℕ) (method : Method) → slice_get P.methods m ≡ Some method → (paths : MethodPaths) × (slice_get sets m ≡ Some paths)
  sets_at m method is =
      let within = slice_get_within P.methods m method is in
      let none : MethodPaths = record { rel = []; loc = [] } in
      (get_or sets m none, slice_get-get_or sets m none (omega (arith, within, relevant.count)))

  rel_has : (m : ℕ) (method : Method) → slice_get P.methods m ≡ Some method → (q : PathData) → IsRel P m q → has_path (rel_of sets m) q ≡ true
  rel_has m method is q rel =
      let at = sets_at m method is in
      subst (λ o. has_path (rel_paths o) q ≡ true) (sym at.1) (((relevant.each m at.0 at.1).rel q).1 rel)

  -- a method that isn't there has no relevant paths
  pub rel_none : (m : ℕ) → slice_get sets m ≡ None → rel_of sets m ≡ []
  rel_none m e = ap rel_paths e

  -- the required paths are relevant
  pub required_in_rel : IsTyped P → (m : ℕ) (method : Method) → slice_get P.methods m ≡ Some method → IsSubset (has_path method.requires_) (has_path (rel_of sets m))
  required_in_rel typed m method is q has =
      let L = IsLock P method.class (parameters method) in
      let found = has_with L method.requires_ q (recursion_from_All L method.requires_ ((typed.methods m method is).locks)) has in
      rel_has m method is q (required (method, is, found.0), (method, is, root_outer method.class found.1.root_class method.params q.root found.1.root))
