-- A program has one list of relevant sets.
use Rattle.std.proofs.Common.{◌≡◌, ℕ, suc, true, false, List, [], ◌∷◌, length, Some, refl, sym, subst, ◌∙◌, arith, inl, inr}
use Rattle.std.specs.Prelude.{slice_get}
use Rattle.std.specs.List.Sorted.{IsStrictlySortedBy}
use Rattle.std.specs.declared.cmp.Ordering.TheVariants.{Less, Equal, Greater}
use Rattle.std.proofs.lemmas.Map.Keys.{sorted_head, sorted_tail}
use Rattle.std.proofs.lemmas.Bool.{or_cases, or_left, or_right}
use Rattle.paths.specs.Paths.{PathData, path_order, path_eq}
use Rattle.paths.proofs.PathOrder.{equal_is, eq_is, eq_itself, greater_turned, less_chain, never_less}
use Rattle.algebra.specs.HeldPaths.{has_path}
use Rattle.core_program.specs.Core.{Program}
use Rattle.rules.specs.Near.{MethodPaths, AreRelevant}
use Rattle.rules.proofs.LimitLemmas.{after_head}

-- a path that is less than the first of an ascending list isn't in it
not_before : (x y : PathData) (ys : List PathData) → IsStrictlySortedBy path_order (y ∷ ys) → path_order x y ≡ Less → has_path (y ∷ ys) x ≡ true → ⊥
not_before x y ys b less has = elim (or_cases (path_eq y x) (has_path ys x) has) as (λ _. ⊥) [
  | inl same ↦ never_less x (subst (λ q. path_order x q ≡ Less) (eq_is y x same) less)
  | inr later ↦ never_less x (less_chain x y x less (after_head y ys x (sorted_head path_order y ys b) later))
]

pub first_has : (x : PathData) (xs : List PathData) → has_path (x ∷ xs) x ≡ true
first_has x xs = or_left (path_eq x x) (has_path xs x) (eq_itself x)

-- a later path of one list is a later one of the other, where their first ones are equal
in_rest : (x y : PathData) (xs ys : List PathData) → x ≡ y → IsStrictlySortedBy path_order (x ∷ xs) → ((p : PathData) → has_path (x ∷ xs) p ≡ true → has_path (y ∷ ys) p ≡ true) → (p : PathData) → has_path xs p ≡ true → has_path ys p ≡ true
in_rest x y xs ys is a part p has = elim (or_cases (path_eq y p) (has_path ys p) (part p (or_right (path_eq x p) (has_path xs p) has))) as (λ _. has_path ys p ≡ true) [
  | inl same ↦ absurd (never_less x (subst (λ q. path_order x q ≡ Less) (sym (is ∙ eq_is y p same)) (after_head x xs p (sorted_head path_order x xs a) has)))
  | inr later ↦ later
]

same_paths : (xs ys : List PathData) → IsStrictlySortedBy path_order xs → IsStrictlySortedBy path_order ys → ((p : PathData) → has_path xs p ≡ true → has_path ys p ≡ true) → ((p : PathData) → has_path ys p ≡ true → has_path xs p ≡ true) → xs ≡ ys
same_paths [] [] a b part back = refl
same_paths [] (y ∷ ys) a b part back = absurd (let e : false ≡ true = back y (first_has y ys) in cc)
same_paths (x ∷ xs) [] a b part back = absurd (let e : false ≡ true = part x (first_has x xs) in cc)
same_paths (x ∷ xs) (y ∷ ys) a b part back = elim (path_order x y) as (λ o. path_order x y ≡ o → x ∷ xs ≡ y ∷ ys) [
  | Less ↦ λ e. absurd (not_before x y ys b e (part x (first_has x xs)))
  | Equal ↦ λ e.
      let is = equal_is x y e in
      let rest = same_paths xs ys (sorted_tail path_order x xs a) (sorted_tail path_order y ys b) (in_rest x y xs ys is a part) (in_rest y x ys xs (sym is) b back) in
      λ i. is i ∷ rest i
  | Greater ↦ λ e. absurd (not_before y x xs a (greater_turned x y e) (back y (first_has y ys)))
] refl

same_sets : (s t : List MethodPaths) → length s ≡ length t → ((m : ℕ) (a b : MethodPaths) → slice_get s m ≡ Some a → slice_get t m ≡ Some b → a ≡ b) → s ≡ t
same_sets [] [] e at = refl
same_sets [] (b ∷ t) e at = absurd (omega arith)
same_sets (a ∷ s) [] e at = absurd (omega arith)
same_sets (a ∷ s) (b ∷ t) e at =
    let first = at 0 a b refl refl in
    let rest = same_sets s t (omega arith) (λ m x y. at (suc m) x y) in
    λ i. first i ∷ rest i

pub unique_sets : (P : Program) (s t : List MethodPaths) → AreRelevant P s → AreRelevant P t → s ≡ t
unique_sets P s t first second = same_sets s t (first.count ∙ sym second.count) (λ m a b at also.
    let f = first.each m a at in
    let g = second.each m b also in
    let rel = same_paths a.rel b.rel f.rel_ascends g.rel_ascends (λ p h. (g.rel p).1 ((f.rel p).0 h)) (λ p h. (f.rel p).1 ((g.rel p).0 h)) in
    let loc = same_paths a.loc b.loc f.loc_ascends g.loc_ascends (λ p h. (g.loc p).1 ((f.loc p).0 h)) (λ p h. (f.loc p).1 ((g.loc p).0 h)) in
    λ i. record { rel = rel i; loc = loc i })
