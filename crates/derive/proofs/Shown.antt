-- Trees that show the least closed assignment keep its rules.
use Rattle.std.proofs.Common.{◌≡◌, ℕ, ◌<◌, ◌≤◌, ◌&&◌, ◌⊎◌, inl, inr, List, length, Some, None, slice_get, get_or, refl, sym, ◌∙◌, ap, subst, arith}
use Rattle.std.proofs.lemmas.Option.{slice_get_within, slice_get_cases}
use Rattle.paths.specs.Paths.{PathData}
use Rattle.algebra.specs.declared.basic.Basic.{Basic}
use Rattle.algebra.specs.declared.basic.Basic.TheVariants.{Const, Mover, Atomic, Cmpd, Error}
use Rattle.algebra.specs.HeldPaths.{Held, has_path}
use Rattle.core_program.specs.Core.{Program, Method}
use Rattle.conditions.specs.Conditions.{Cond, value_of}
use Rattle.rules.specs.Effect.{Assignment, effect}
use Rattle.rules.specs.Rules.{IsSubset, AtMost, held_in, declared_bound}
use Rattle.rules.proofs.BasicLemmas.{below_itself, below_chain}
use Rattle.rules.proofs.EffectRises.{stmt_rises}
use Rattle.infer.specs.Least.{IsLeast}
use Rattle.infer.specs.Verdicts.{HoldBounds}
use Rattle.book_check.specs.Conclusions.{tree_value}
use Rattle.derive.specs.Derived.{KeepsRules}
use Rattle.derive.specs.Bases.{trees_assign}
use Rattle.derive.proofs.ConcludeLemmas.{some_at}

const_below : (b : Basic) → AtMost Const b
const_below Const = refl
const_below Mover = refl
const_below Atomic = refl
const_below Cmpd = refl
const_below Error = refl

-- a method has a tree, or there is none
abbrev Has : List Cond → ℕ → Type 0
Has trees m = ((t : Cond) × (m < length trees) × (slice_get trees m ≡ Some t) × (get_or trees m t ≡ t)) ⊎ ((length trees ≤ m) × (slice_get trees m ≡ None))

module _ (P : Program) (rel : ℕ → List PathData) (A : Assignment) (trees : List Cond) (least : IsLeast P rel A) (bounds : HoldBounds P A) (count : length trees ≡ length P.methods)
    (values : (m : ℕ) (tree : Cond) → slice_get trees m ≡ Some tree → (H : Held) → value_of tree H ≡ A m H) where
  shows : (m : ℕ) (t : Cond) → slice_get trees m ≡ Some t → (H : Held) → trees_assign trees m H ≡ A m H
  shows m t at H = ap (λ o. tree_value o H) at ∙ values m t at H

  none : (m : ℕ) → slice_get trees m ≡ None → (H : Held) → trees_assign trees m H ≡ Const
  none m at H = ap (λ o. tree_value o H) at

  below : (m : ℕ) (H : Held) → Has trees m → AtMost (trees_assign trees m H) (A m H)
  below m H (inl f) = subst (λ z. AtMost z (A m H)) (sym (shows m f.0 f.2 H)) (below_itself (A m H))
  below m H (inr p) = subst (λ z. AtMost z (A m H)) (sym (none m p.1 H)) (const_below (A m H))

  falls : (m : ℕ) (H K : Held) → IsSubset K (has_path (rel m)) → IsSubset H K → Has trees m → AtMost (trees_assign trees m K) (trees_assign trees m H)
  falls m H K within part (inl f) =
      subst (λ z. AtMost z (trees_assign trees m H)) (sym (shows m f.0 f.2 K)) (subst (λ z. AtMost (A m K) z) (sym (shows m f.0 f.2 H)) (least.falling m H K within part))
  falls m H K within part (inr p) = subst (λ z. AtMost z (trees_assign trees m H)) (sym (none m p.1 K)) (const_below (trees_assign trees m H))

  looks : (m : ℕ) (H : Held) → Has trees m → trees_assign trees m H ≡ trees_assign trees m (λ q. has_path (rel m) q && H q)
  looks m H (inl f) = shows m f.0 f.2 H ∙ least.relevant m H ∙ sym (shows m f.0 f.2 (λ q. has_path (rel m) q && H q))
  looks m H (inr p) = none m p.1 H ∙ sym (none m p.1 (λ q. has_path (rel m) q && H q))

  -- a method that is there has a tree
  tree_of : (m : ℕ) (method : Method) → slice_get P.methods m ≡ Some method → (t : Cond) × (slice_get trees m ≡ Some t)
  tree_of m method is = some_at trees m (omega (arith, count, slice_get_within P.methods m method is))

  pub keeps_rules : KeepsRules P rel (trees_assign trees)
  keeps_rules = record {
    falling = λ m H K within part. falls m H K within part (slice_get_cases trees m).1;
    closed = record {
      bodies = λ m method is H within required.
          let t = tree_of m method is in
          below_chain (effect P rel (trees_assign trees) method.body H) (effect P rel A method.body H) (trees_assign trees m H)
          (stmt_rises P rel (trees_assign trees) A (λ k K part. below k K (slice_get_cases trees k).1) method.body H)
          (subst (λ z. AtMost (effect P rel A method.body H) z) (sym (shows m t.0 t.1 H)) (least.closed.bodies m method is H within required));
      overrides = λ m over method is o H within required.
          let t = tree_of m method is in
          below_chain (trees_assign trees over (held_in (rel over) H)) (A over (held_in (rel over) H)) (trees_assign trees m H)
          (below over (held_in (rel over) H) (slice_get_cases trees over).1)
          (subst (λ z. AtMost (A over (held_in (rel over) H)) z) (sym (shows m t.0 t.1 H)) (least.closed.overrides m over method is o H within required));
    };
    relevant = λ m H. looks m H (slice_get_cases trees m).1;
    bounds = λ m method is.
        let t = tree_of m method is in
        subst (λ z. AtMost z (declared_bound method.annotated)) (sym (shows m t.0 t.1 (has_path method.requires_))) (bounds m method is);
  }
