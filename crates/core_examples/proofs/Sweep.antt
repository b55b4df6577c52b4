-- Relevant sets by computation: rows of paths in which nothing is missing that the rules give, and each of which is near.
use Rattle.std.proofs.Common.{◌≡◌, ℕ, zero, suc, ◌+◌, Bool, true, false, ◌==◌, ◌&&◌, List, [], ◌∷◌, length, Some, None, refl, sym, subst, arith, inl, inr}
use Rattle.std.specs.Prelude.{Option, Contains, slice_get, nat_le, if◌then◌else◌}
use Rattle.std.specs.List.{list_all, AllByRecursion}
use Rattle.std.specs.List.Sorted.{IsStrictlySortedBy}
use Rattle.std.specs.declared.cmp.Ordering.{Ordering}
use Rattle.std.specs.declared.cmp.Ordering.TheVariants.{Less, Equal, Greater}
use Rattle.std.proofs.lemmas.Bool.{and_parts, or_cases, eq-eqb, le-leb, false≢true}
use Rattle.std.proofs.lemmas.Option.{none-some, same_Some}
use Rattle.base.proofs.Lists.{all_at}
use Rattle.paths.specs.Paths.{PathData, path_order, path_eq, extended}
use Rattle.paths.specs.Renamings.{under_call}
use Rattle.paths.proofs.PathOrder.{eq_is}
use Rattle.algebra.specs.HeldPaths.{has_path}
use Rattle.core_program.specs.Core.{Program, Class, Method}
use Rattle.core_program.specs.Dispatch.{Overrides}
use Rattle.core_program.specs.Locks.{path_of}
use Rattle.rules.specs.Guards.{guard_of, guard_path}
use Rattle.rules.specs.Mentions.{Mention, Accesses, Calls, Locks, Names, mentions, paths_of}
use Rattle.rules.specs.Search.{row_at}
use Rattle.rules.specs.Limits.{parted_from}
use Rattle.rules.specs.Near.{begins_in, Near, required, locked, guarded, called, overriding, named, AreRelevant}
use Rattle.rules.proofs.Reaching.{partner_in, class_with}
use Rattle.rules.proofs.LimitLemmas.{relevant_sets}

all_paths : (f : PathData → Bool) (ps : List PathData) → list_all f ps ≡ true → (q : PathData) → has_path ps q ≡ true → f q ≡ true
all_paths f [] all q has = absurd (false≢true has)
all_paths f (p ∷ ps) all q has = elim (or_cases (path_eq p q) (has_path ps q) has) as (λ _. f q ≡ true) [
  | inl e ↦ subst (λ z. f z ≡ true) (eq_is p q e) (and_parts (f p) (list_all f ps) all).0
  | inr later ↦ all_paths f ps (and_parts (f p) (list_all f ps) all).1 q later
]

-- the same of elements with their places, the first of which is this
abbrev all_from : {A : Type 0} → (ℕ → A → Bool) → ℕ → List A → Bool
all_from f n [] = true
all_from f n (x ∷ xs) = f n x && all_from f (suc n) xs

at_place : {A : Type 0} (f : ℕ → A → Bool) (n : ℕ) (xs : List A) → all_from f n xs ≡ true → (k : ℕ) (x : A) → slice_get xs k ≡ Some x → f (n + k) x ≡ true
at_place f n [] all k x is = absurd (none-some x is)
at_place f n (y ∷ ys) all zero x is =
    subst (λ m. f m x ≡ true) (let e : n ≡ n + 0 = omega arith in e) (subst (λ z. f n z ≡ true) (same_Some y x is) (and_parts (f n y) _ all).0)
at_place f n (y ∷ ys) all (suc k) x is =
    subst (λ m. f m x ≡ true) (let e : suc n + k ≡ n + suc k = omega arith in e) (at_place f (suc n) ys (and_parts (f n y) _ all).1 k x is)

module _ (P : Program) where
  -- ---- nothing is missing from rows

  -- whether a path is rooted at `this` or a parameter of a method, if it is there
  abbrev is_outer : Option Method → PathData → Bool
  is_outer None p = false
  is_outer (Some m) p = nat_le p.root (length m.params)

  abbrev is_known : Option Method → PathData → Bool
  is_known None p = false
  is_known (Some m) p = begins_in P m.class p.root p.fields

  module _ (rows : List (List PathData)) where
    abbrev has : ℕ → Option PathData → Bool
    has m None = true
    has m (Some p) = has_path (row_at rows m) p

    abbrev has_named : ℕ → Option PathData → PathData → Bool
    has_named m None q = true
    has_named m (Some start) q = has m (extended start q.fields)

    abbrev has_mention : ℕ → Mention → Bool
    has_mention m (Accesses e f) = has m (guard_path (guard_of P f (path_of P e)))
    has_mention m (Calls e callee args) =
        list_all (λ q. if is_outer (slice_get P.methods callee) q then has m (under_call (path_of P e) (paths_of P args) q) else true) (row_at rows callee)
    has_mention m (Locks p) = has m (Some p)
    has_mention m (Names y e) = list_all (λ q. if q.root == y then has_named m (path_of P e) q else true) (row_at rows m)

    abbrev has_method : ℕ → Method → Bool
    has_method m method = list_all (λ p. has m (Some p)) method.requires_ && list_all (has_mention m) (mentions method.body)

    abbrev has_pair : ℕ × ℕ → Bool
    has_pair p = list_all (λ q. if is_outer (slice_get P.methods p.1) q && is_known (slice_get P.methods p.0) q then has p.0 (Some q) else true) (row_at rows p.1)

    abbrev has_class : ℕ → Class → Bool
    has_class c class = list_all has_pair class.targets

    abbrev has_all : Bool
    has_all = all_from has_method 0 P.methods && all_from has_class 0 P.classes

    where_true : (b x : Bool) → (if b then x else true) ≡ true → b ≡ true → x ≡ true
    where_true true x e is = e
    where_true false x e is = absurd (false≢true is)

    module _ (all : has_all ≡ true) where
      of_method : (m : ℕ) (method : Method) → slice_get P.methods m ≡ Some method → has_method m method ≡ true
      of_method m method is = subst (λ k. has_method k method ≡ true) (let e : 0 + m ≡ m = omega arith in e) (at_place has_method 0 P.methods (and_parts (all_from has_method 0 P.methods) _ all).0 m method is)

      of_mention : (m : ℕ) (method : Method) (x : Mention) → slice_get P.methods m ≡ Some method → Contains (mentions method.body) x → has_mention m x ≡ true
      of_mention m method x is mentioned = all_at (has_mention m) (mentions method.body) (and_parts (list_all (λ p. has m (Some p)) method.requires_) _ (of_method m method is)).1 x mentioned

      of_pair : (over m : ℕ) → Overrides P over m → has_pair (m, over) ≡ true
      of_pair over m o =
          let found = class_with (slice_get P.classes o.method.class) m over o.runs in
          all_at has_pair found.0.targets (at_place has_class 0 P.classes (and_parts (all_from has_method 0 P.methods) _ all).1 o.method.class found.0 found.1) (m, over) (partner_in found.0.targets m over found.2)

      all_near : (m : ℕ) (p : PathData) → Near P m p → has_path (row_at rows m) p ≡ true
      all_near m p (required r) = all_at (λ p. has m (Some p)) r.0.requires_ (and_parts (list_all (λ p. has m (Some p)) r.0.requires_) _ (of_method m r.0 r.1)).0 p r.2
      all_near m p (locked r) = of_mention m r.0 (Locks p) r.1 r.2
      all_near m p (guarded e f r guard) = subst (λ o. has m o ≡ true) guard (of_mention m r.0 (Accesses e f) r.1 r.2)
      all_near m p (called e callee args q r near outer under) =
          subst (λ o. has m o ≡ true) under
          (where_true (is_outer (slice_get P.methods callee) q) _
          (all_paths _ (row_at rows callee) (of_mention m r.0 (Calls e callee args) r.1 r.2) q (all_near callee q near))
          (subst (λ o. is_outer o q ≡ true) (sym outer.1) (le-leb _ _ outer.2)))
      all_near m p (overriding over o near outer known) =
          where_true (is_outer (slice_get P.methods over) p && is_known (slice_get P.methods m) p) _
          (all_paths _ (row_at rows over) (of_pair over m o) p (all_near over p near))
          (both_true _ _ (subst (λ o. is_outer o p ≡ true) (sym outer.1) (le-leb _ _ outer.2)) (subst (λ o. is_known o p ≡ true) (sym known.1) known.2))
        where
          both_true : (a b : Bool) → a ≡ true → b ≡ true → (a && b) ≡ true
          both_true true b first second = second
          both_true false b first second = absurd (false≢true first)
      all_near m p (named q e start near r path fits) =
          subst (λ o. has m o ≡ true) fits
          (subst (λ o. has_named m o q ≡ true) path
          (where_true (q.root == q.root) _ (all_paths _ (row_at rows m) (of_mention m r.0 (Names q.root e) r.1 r.2) q (all_near m q near)) (eq-eqb q.root q.root refl)))

  -- ---- each path is near

  abbrev pub AllNear : ℕ → List PathData → Type 0
  AllNear m [] = Unit {0}
  AllNear m (p ∷ ps) = Near P m p × AllNear m ps

  abbrev pub AreNear : ℕ → List (List PathData) → Type 0
  AreNear m [] = Unit {0}
  AreNear m (row ∷ rows) = AllNear m row × AreNear (suc m) rows

  one_near : (m : ℕ) (ps : List PathData) → AllNear m ps → (p : PathData) → has_path ps p ≡ true → Near P m p
  one_near m [] near p has = absurd (false≢true has)
  one_near m (q ∷ qs) near p has = elim (or_cases (path_eq q p) (has_path qs p) has) as (λ _. Near P m p) [
    | inl e ↦ subst (Near P m) (eq_is q p e) near.0
    | inr later ↦ one_near m qs near.1 p later
  ]

  row_near : (k : ℕ) (rows : List (List PathData)) → AreNear k rows → (m : ℕ) (p : PathData) → has_path (row_at rows m) p ≡ true → Near P (k + m) p
  row_near k [] near m p has = absurd (false≢true has)
  row_near k (row ∷ rows) near zero p has = subst (λ n. Near P n p) (let e : k ≡ k + 0 = omega arith in e) (one_near k row near.0 p has)
  row_near k (row ∷ rows) near (suc m) p has = subst (λ n. Near P n p) (let e : suc k + m ≡ k + suc m = omega arith in e) (row_near (suc k) rows near.1 m p has)

  -- ---- the sets

  abbrev is_less : Ordering → Bool
  is_less Less = true
  is_less Equal = false
  is_less Greater = false

  abbrev ascends : List PathData → Bool
  ascends [] = true
  ascends (p ∷ ps) = list_all (λ q. is_less (path_order p q)) ps && ascends ps

  less_is : (o : Ordering) → is_less o ≡ true → o ≡ Less
  less_is Less e = refl
  less_is Equal e = absurd (false≢true e)
  less_is Greater e = absurd (false≢true e)

  all_later : (p : PathData) (qs : List PathData) → list_all (λ q. is_less (path_order p q)) qs ≡ true → AllByRecursion (λ q. path_order p q ≡ Less) qs
  all_later p [] all = tt
  all_later p (q ∷ qs) all = let both = and_parts _ _ all in (less_is _ both.0, all_later p qs both.1)

  sorted : (ps : List PathData) → ascends ps ≡ true → IsStrictlySortedBy path_order ps
  unfolding IsStrictlySortedBy
  sorted [] is = tt
  sorted (p ∷ ps) is = let both = and_parts _ (ascends ps) is in (all_later p ps both.0, sorted ps both.1)

  row_ascends : (rows : List (List PathData)) → list_all ascends rows ≡ true → (m : ℕ) → ascends (row_at rows m) ≡ true
  row_ascends [] all m = refl
  row_ascends (row ∷ rows) all zero = (and_parts (ascends row) (list_all ascends rows) all).0
  row_ascends (row ∷ rows) all (suc m) = row_ascends rows (and_parts (ascends row) (list_all ascends rows) all).1 m

  -- where nothing is missing from these rows and each path of them is near, they are the relevant sets
  pub relevant_rows : (rows : List (List PathData)) → has_all rows ≡ true → list_all ascends rows ≡ true → AreNear 0 rows → AreRelevant P (parted_from rows 0 P.methods)
  relevant_rows rows all rises near = relevant_sets P rows
      (λ m. sorted (row_at rows m) (row_ascends rows rises m))
      (λ m p. ((λ has. subst (λ n. Near P n p) (let e : 0 + m ≡ m = omega arith in e) (row_near 0 rows near m p has)), all_near rows all m p))
      (parted_from rows 0 P.methods) refl
