-- The sets that were found are the relevant sets; the limit, and the first method past it.
use Rattle.std.proofs.Common.{◌≡◌, ◌↔◌, ℕ, zero, suc, ◌+◌, ◌<◌, ◌≤◌, Bool, true, false, ◌||◌, List, [], ◌∷◌, ◌++◌, length, filter, map, drop, get_or, Some, None, refl, sym, ap, subst, ◌∙◌, arith, inl, inr, append_assoc}
use Rattle.std.specs.Prelude.{Option, Result, Ok, Err, IfOk, slice_get, nat_le, nat_lt, if◌then◌else◌}
use Rattle.std.specs.List.{AllByRecursion}
use Rattle.std.specs.List.Sorted.{IsStrictlySortedBy}
use Rattle.std.specs.declared.cmp.Ordering.TheVariants.{Less, Equal, Greater}
use Rattle.std.proofs.lemmas.Bool.Decides.{nat_tests}
use Rattle.std.proofs.lemmas.List.Kept.{IsStrictlySortedBy-filter}
use Rattle.std.proofs.lemmas.Option.{slice_get_within, slice_get_past, same_Some}
use Rattle.std.proofs.lemmas.Map.Keys.{sorted_head, sorted_tail}
use Rattle.std.proofs.lemmas.List.{map-append}
use Rattle.std.proofs.lemmas.Bool.{or_cases, or_left, or_right, or_parts, le-leb, lt-ltb, leb-true, ltb-true}
use Rattle.base.proofs.Lists.{get_below, next_drop}
use Rattle.paths.specs.Paths.{PathData, path_order, path_eq}
use Rattle.paths.proofs.PathOrder.{equal_is, eq_is, eq_itself, greater_turned, less_chain, never_less}
use Rattle.algebra.specs.HeldPaths.{has_path}
use Rattle.core_program.specs.Core.{Program, Method}
use Rattle.rules.specs.Near.{Near, IsOuter, IsInner, IsRel, IsLoc, MethodPaths, ArePathsOf, AreRelevant, AreFew, IsWellFormed, rel_of, loc_of, rel_paths, loc_paths, most_locks}
use Rattle.rules.specs.Passing.{GiveNear}
use Rattle.rules.specs.Search.{row_at, IsLeastFamily}
use Rattle.rules.specs.Limits.{AreMany, IsCrowded, HasFew, IsFirstCrowded, is_crowded, parted, parted_from}
use Rattle.core_program.specs.declared.program.CoreMethod.{CoreMethod}
use Rattle.core_program.specs.Views.{method_of}
use Rattle.rules.specs.declared.sets.PathsOfMethod.{PathsOfMethod}
use Rattle.rules.specs.declared.clauses.Clause.{Clause}
use Rattle.rules.specs.declared.relevance.RuleEnd.{RuleEnd}
use Rattle.rules.specs.declared.relevance.RuleEnd.TheVariants as end

-- By roots.

later_has : (f : PathData → Bool) (x : PathData) (xs : List PathData) (p : PathData) → (f p ≡ true) × (has_path xs p ≡ true) → (f p ≡ true) × (has_path (x ∷ xs) p ≡ true)
later_has f x xs p h = (h.0, or_right (path_eq x p) (has_path xs p) h.1)

has_filter_at : (f : PathData → Bool) (x : PathData) (xs : List PathData) (p : PathData) (b : Bool) → f x ≡ b → (has_path (filter f xs) p ≡ true → (f p ≡ true) × (has_path xs p ≡ true)) → has_path (if b then x ∷ filter f xs else filter f xs) p ≡ true → (f p ≡ true) × (has_path (x ∷ xs) p ≡ true)
has_filter_at f x xs p true passes rest h = elim (or_cases (path_eq x p) (has_path (filter f xs) p) h) as (λ _. (f p ≡ true) × (has_path (x ∷ xs) p ≡ true)) [
  | inl same ↦ (ap f (sym (eq_is x p same)) ∙ passes, or_left (path_eq x p) (has_path xs p) same)
  | inr later ↦ later_has f x xs p (rest later)
]
has_filter_at f x xs p false passes rest h = later_has f x xs p (rest h)

has_filter : (f : PathData → Bool) (xs : List PathData) (p : PathData) → has_path (filter f xs) p ≡ true → (f p ≡ true) × (has_path xs p ≡ true)
has_filter f [] p h = absurd (let e : false ≡ true = h in cc)
has_filter f (x ∷ xs) p h = has_filter_at f x xs p _ refl (has_filter f xs p) h

filter_has_at : (f : PathData → Bool) (x : PathData) (xs : List PathData) (p : PathData) (b : Bool) → f x ≡ b → f p ≡ true → (has_path xs p ≡ true → has_path (filter f xs) p ≡ true) → has_path (x ∷ xs) p ≡ true → has_path (if b then x ∷ filter f xs else filter f xs) p ≡ true
filter_has_at f x xs p true passes kept rest h = elim (or_cases (path_eq x p) (has_path xs p) h) as (λ _. has_path (x ∷ filter f xs) p ≡ true) [
  | inl same ↦ or_left (path_eq x p) (has_path (filter f xs) p) same
  | inr later ↦ or_right (path_eq x p) (has_path (filter f xs) p) (rest later)
]
filter_has_at f x xs p false passes kept rest h = elim (or_cases (path_eq x p) (has_path xs p) h) as (λ _. has_path (filter f xs) p ≡ true) [
  | inl same ↦ absurd (let e : false ≡ true = sym passes ∙ ap f (eq_is x p same) ∙ kept in cc)
  | inr later ↦ rest later
]

filter_has : (f : PathData → Bool) (xs : List PathData) (p : PathData) → f p ≡ true → has_path xs p ≡ true → has_path (filter f xs) p ≡ true
filter_has f [] p kept h = h
filter_has f (x ∷ xs) p kept h = filter_has_at f x xs p _ refl kept (filter_has f xs p kept) h

abbrev or_else : {A : Type 0} → Option A → A → A
or_else None d = d
or_else (Some a) d = a

-- The sets.

parted_length : (near : List (List PathData)) (m : ℕ) (methods : List Method) → length (parted_from near m methods) ≡ length methods
parted_length near m [] = refl
parted_length near m (method ∷ methods) = ap suc (parted_length near (m + 1) methods)

parted_at : (near : List (List PathData)) (m : ℕ) (methods : List Method) (k : ℕ) (paths : MethodPaths) → slice_get (parted_from near m methods) k ≡ Some paths → (method : Method) × (slice_get methods k ≡ Some method) × (paths ≡ parted (length method.params) (row_at near (m + k)))
parted_at near m [] k paths at = absurd cc
parted_at near m (method ∷ methods) zero paths at =
    let e : m ≡ m + 0 = omega arith in
    (method, refl, sym (same_Some _ paths at) ∙ ap (λ n. parted (length method.params) (row_at near n)) e)
parted_at near m (method ∷ methods) (suc k) paths at =
    let e : m + 1 + k ≡ m + suc k = omega arith in
    let h = parted_at near (m + 1) methods k paths at in
    (h.0, h.1, h.2 ∙ ap (λ n. parted (length h.0.params) (row_at near n)) e)

module _ (P : Program) (near : List (List PathData)) (ascends : (m : ℕ) → IsStrictlySortedBy path_order (row_at near m))
    (near_is : (m : ℕ) (p : PathData) → (has_path (row_at near m) p ≡ true) ↔ Near P m p) where
  method_of_outer : (m : ℕ) (method : Method) (p : PathData) → slice_get P.methods m ≡ Some method → IsOuter P m p → p.root ≤ length method.params
  method_of_outer m method p is (other, there, root) = subst (λ x. p.root ≤ length x.params) (same_Some other method (sym there ∙ is)) root

  method_of_inner : (m : ℕ) (method : Method) (p : PathData) → slice_get P.methods m ≡ Some method → IsInner P m p → length method.params < p.root
  method_of_inner m method p is (other, there, root) = subst (λ x. length x.params < p.root) (same_Some other method (sym there ∙ is)) root

  parted_are : (m : ℕ) (method : Method) → slice_get P.methods m ≡ Some method → ArePathsOf P m (parted (length method.params) (row_at near m))
  parted_are m method is = record {
    rel = λ p. (
      λ h. let k = has_filter (λ q. nat_le q.root (length method.params)) (row_at near m) p h in ((near_is m p).0 k.1, (method, is, leb-true _ _ k.0)),
      λ r. filter_has (λ q. nat_le q.root (length method.params)) (row_at near m) p (le-leb _ _ (method_of_outer m method p is r.1)) ((near_is m p).1 r.0),
    );
    loc = λ p. (
      λ h. let k = has_filter (λ q. nat_lt (length method.params) q.root) (row_at near m) p h in ((near_is m p).0 k.1, (method, is, ltb-true _ _ k.0)),
      λ r. filter_has (λ q. nat_lt (length method.params) q.root) (row_at near m) p (lt-ltb _ _ (method_of_inner m method p is r.1)) ((near_is m p).1 r.0),
    );
    rel_ascends = IsStrictlySortedBy-filter path_order (λ q. nat_le q.root (length method.params)) (row_at near m) (ascends m);
    loc_ascends = IsStrictlySortedBy-filter path_order (λ q. nat_lt (length method.params) q.root) (row_at near m) (ascends m);
  }

  pub relevant_sets : (sets : List MethodPaths) → sets ≡ parted_from near 0 P.methods → AreRelevant P sets
  relevant_sets sets is = record {
    count = ap length is ∙ parted_length near 0 P.methods;
    each = λ m paths at.
        let h = parted_at near 0 P.methods m paths (ap (λ s. slice_get s m) (sym is) ∙ at) in
        let e : 0 + m ≡ m = omega arith in
        subst (ArePathsOf P m) (sym (h.2 ∙ ap (λ n. parted (length h.0.params) (row_at near n)) e)) (parted_are m h.0 h.1);
  }

-- The limit.

pub after_head : (x : PathData) (xs : List PathData) (p : PathData) → AllByRecursion (λ y. path_order x y ≡ Less) xs → has_path xs p ≡ true → path_order x p ≡ Less
after_head x [] p all h = absurd (let e : false ≡ true = h in cc)
after_head x (y ∷ ys) p all h = elim (or_cases (path_eq y p) (has_path ys p) h) as (λ _. path_order x p ≡ Less) [
  | inl same ↦ subst (λ q. path_order x q ≡ Less) (eq_is y p same) all.0
  | inr later ↦ after_head x ys p all.1 later
]

-- a list of different paths that another has too is no longer
part_length : (ys xs : List PathData) → IsStrictlySortedBy path_order xs → IsStrictlySortedBy path_order ys → ((p : PathData) → has_path xs p ≡ true → has_path ys p ≡ true) → length xs ≤ length ys
part_length ys [] a b part = omega arith
part_length [] (x ∷ xs) a b part = absurd (let e : false ≡ true = part x (or_left (path_eq x x) (has_path xs x) (eq_itself x)) in cc)
part_length (y ∷ ys) (x ∷ xs) a b part = elim (path_order x y) as (λ o. path_order x y ≡ o → suc (length xs) ≤ suc (length ys)) [
  | Less ↦ λ e. absurd (elim (or_cases (path_eq y x) (has_path ys x) (part x (or_left (path_eq x x) (has_path xs x) (eq_itself x)))) as (λ _. ⊥) [
    | inl same ↦ never_less x (subst (λ q. path_order x q ≡ Less) (eq_is y x same) e)
    | inr later ↦ never_less x (less_chain x y x e (after_head y ys x (sorted_head path_order y ys b) later))
  ])
  | Equal ↦ λ e.
      let shorter = part_length ys xs (sorted_tail path_order x xs a) (sorted_tail path_order y ys b) (λ p h. elim (or_cases (path_eq y p) (has_path ys p) (part p (or_right (path_eq x p) (has_path xs p) h))) as (λ _. has_path ys p ≡ true) [
        | inl same ↦ absurd (never_less x (subst (λ q. path_order x q ≡ Less) (sym (equal_is x y e ∙ eq_is y p same)) (after_head x xs p (sorted_head path_order x xs a) h)))
        | inr later ↦ later
      ]) in omega arith
  | Greater ↦ λ e.
      let shorter = part_length ys (x ∷ xs) a (sorted_tail path_order y ys b) (λ p h. elim (or_cases (path_eq y p) (has_path ys p) (part p h)) as (λ _. has_path ys p ≡ true) [
        | inl same ↦ absurd (elim (or_cases (path_eq x p) (has_path xs p) h) as (λ _. ⊥) [
          | inl first ↦ never_less p (subst (λ q. path_order q p ≡ Less) (eq_is y p same) (subst (λ q. path_order y q ≡ Less) (eq_is x p first) (greater_turned x y e)))
          | inr rest ↦ never_less p (subst (λ q. path_order q p ≡ Less) (eq_is y p same) (less_chain y x p (greater_turned x y e) (after_head x xs p (sorted_head path_order x xs a) rest)))
        ])
        | inr later ↦ later
      ]) in omega arith
] refl

few_not_many : (N : PathData → Type 0) (paths : List PathData) → IsStrictlySortedBy path_order paths → ((p : PathData) → N p → has_path paths p ≡ true) → length paths ≤ most_locks → AreMany N → ⊥
few_not_many N paths ascends has few many =
    let shorter = part_length paths many.paths many.ascends ascends (λ p h. has p (many.each p h)) in
    let long = many.many in absurd (omega arith)

pub few_not_crowded : (P : Program) (m : ℕ) → HasFew P m → IsCrowded P m → ⊥
few_not_crowded P m few (inl many) = few_not_many (IsRel P m) few.paths.rel few.are.rel_ascends (λ p r. (few.are.rel p).1 r) few.rel many
few_not_crowded P m few (inr many) = few_not_many (IsLoc P m) few.paths.loc few.are.loc_ascends (λ p r. (few.are.loc p).1 r) few.loc many

not_past : (n m : ℕ) → nat_lt n m ≡ false → m ≤ n
not_past n m is = grind (arith, nat_tests)

abbrev crowded_in : Option MethodPaths → Bool
crowded_in o = nat_lt most_locks (length (rel_paths o)) || nat_lt most_locks (length (loc_paths o))

few_from : (P : Program) (m : ℕ) (o : Option MethodPaths) (paths : MethodPaths) → o ≡ Some paths → ArePathsOf P m paths → crowded_in o ≡ false → HasFew P m
few_from P m o paths at are under =
    let h = or_parts (nat_lt most_locks (length paths.rel)) (nat_lt most_locks (length paths.loc)) (subst (λ x. crowded_in x ≡ false) at under) in
    record { paths = paths; are = are; rel = not_past _ _ h.0; loc = not_past _ _ h.1 }

crowded_from : (P : Program) (m : ℕ) (o : Option MethodPaths) (paths : MethodPaths) → o ≡ Some paths → ArePathsOf P m paths → crowded_in o ≡ true → IsCrowded P m
crowded_from P m o paths at are over = elim (or_cases (nat_lt most_locks (length paths.rel)) (nat_lt most_locks (length paths.loc)) (subst (λ x. crowded_in x ≡ true) at over)) as (λ _. IsCrowded P m) [
  | inl many ↦ inl (record { paths = paths.rel; ascends = are.rel_ascends; each = λ p h. (are.rel p).0 h; many = ltb-true _ _ many })
  | inr many ↦ inr (record { paths = paths.loc; ascends = are.loc_ascends; each = λ p h. (are.loc p).0 h; many = ltb-true _ _ many })
]

pub first_from : (P : Program) (sets : List MethodPaths) (m count : ℕ) → AreRelevant P sets → count ≡ length P.methods → m < count → is_crowded sets m ≡ true → ((k : ℕ) → k < m → is_crowded sets k ≡ false) → IsFirstCrowded P m
first_from P sets m count relevant all below over before =
    let c = relevant.count in
    let g = get_below sets m (omega arith) in
    record {
      crowded = crowded_from P m (slice_get sets m) g.0 g.1 (relevant.each m g.0 g.1) over;
      before = λ k less.
          let f = get_below sets k (omega arith) in
          few_from P k (slice_get sets k) f.0 f.1 (relevant.each k f.0 f.1) (before k less);
    }

few_in : (o : Option MethodPaths) → crowded_in o ≡ false → (length (rel_paths o) ≤ most_locks) × (length (loc_paths o) ≤ most_locks)
few_in o under = let h = or_parts (nat_lt most_locks (length (rel_paths o))) (nat_lt most_locks (length (loc_paths o))) under in (not_past _ _ h.0, not_past _ _ h.1)

few_at : (sets : List MethodPaths) → ((k : ℕ) → k < length sets → is_crowded sets k ≡ false) → (m : ℕ) → (length (rel_of sets m) ≤ most_locks) × (length (loc_of sets m) ≤ most_locks)
few_at sets under m = elim (nat_lt m (length sets)) as (λ b. nat_lt m (length sets) ≡ b → (length (rel_of sets m) ≤ most_locks) × (length (loc_of sets m) ≤ most_locks)) [
  | true ↦ λ e. few_in (slice_get sets m) (under m (ltb-true m (length sets) e))
  | false ↦ λ e. subst (λ o. (length (rel_paths o) ≤ most_locks) × (length (loc_paths o) ≤ most_locks)) (sym (slice_get_past sets m (not_past m (length sets) e))) (omega arith, omega arith)
] refl

pub few_sets : (P : Program) (sets : List MethodPaths) (count : ℕ) → AreRelevant P sets → count ≡ length P.methods → ((k : ℕ) → k < count → is_crowded sets k ≡ false) → AreFew sets
few_sets P sets count relevant all under =
    let c = relevant.count in
    let h = few_at sets (λ k below. under k (omega arith)) in
    record { rel = λ m. (h m).0; loc = λ m. (h m).1 }

first_of : (xs : List PathData) → 0 < length xs → (p : PathData) × (has_path xs p ≡ true)
first_of [] some = absurd (omega arith)
first_of (x ∷ xs) some = (x, or_left (path_eq x x) (has_path xs x) (eq_itself x))

rooted : (P : Program) (m : ℕ) (N : PathData → Type 0) → AreMany N → ((p : PathData) → N p → (method : Method) × (slice_get P.methods m ≡ Some method)) → m < length P.methods
rooted P m N many at =
    let f = first_of many.paths (let l = many.many in omega arith) in
    let h = at f.0 (many.each f.0 f.1) in
    slice_get_within P.methods m h.0 h.1

crowded_method : (P : Program) (m : ℕ) → IsCrowded P m → m < length P.methods
crowded_method P m (inl many) = rooted P m (IsRel P m) many (λ p r. (r.1.0, r.1.1))
crowded_method P m (inr many) = rooted P m (IsLoc P m) many (λ p r. (r.1.0, r.1.1))

well_formed_few : (P : Program) (m : ℕ) → IsWellFormed P → m < length P.methods → HasFew P m
well_formed_few P m (sets, relevant, few) below =
    let g = get_below sets m (let c = relevant.count in omega arith) in
    record { paths = g.0; are = relevant.each m g.0 g.1; rel = subst (λ o. length (rel_paths o) ≤ most_locks) g.1 (few.rel m); loc = subst (λ o. length (loc_paths o) ≤ most_locks) g.1 (few.loc m) }

pub well_formed_first : (P : Program) (m : ℕ) → IsWellFormed P → IsFirstCrowded P m → ⊥
well_formed_first P m well first = few_not_crowded P m (well_formed_few P m well (crowded_method P m first.crowded)) first.crowded

pub first_is : (P : Program) (m n : ℕ) → IsFirstCrowded P m → IsFirstCrowded P n → m ≡ n
first_is P m n first second = elim (nat_lt m n) as (λ b. nat_lt m n ≡ b → m ≡ n) [
  | true ↦ λ e. absurd (few_not_crowded P m (second.before m (ltb-true m n e)) first.crowded)
  | false ↦ λ e. elim (nat_lt n m) as (λ b. nat_lt n m ≡ b → m ≡ n) [
    | true ↦ λ f. absurd (few_not_crowded P n (first.before n (ltb-true n m f)) second.crowded)
    | false ↦ λ f. let a = not_past m n e in let b = not_past n m f in omega arith
  ] refl
] refl

-- In memory.

pub sets_ok : {E : Type 0} (r : Result (List MethodPaths) E) (P : Program) (clauses read : List Clause) (near seen : List (List PathData)) → read ≡ clauses → GiveNear P clauses → IsLeastFamily P read near → seen ≡ near → IfOk r (λ sets. sets ≡ parted_from seen 0 P.methods) → IfOk r (λ sets. AreRelevant P sets)
sets_ok (Ok sets) P clauses read near seen same give least also h =
    let all : GiveNear P read = subst (GiveNear P) (sym same) give in
    relevant_sets P near least.ascends (λ m p. (λ has. (all m p).0 ((least.exact m p).0 has), λ n. (least.exact m p).1 ((all m p).1 n))) sets (h ∙ ap (λ n. parted_from n 0 P.methods) also)
sets_ok (Err e) P clauses read near seen same give least also h = tt

abbrev view_of : PathsOfMethod → MethodPaths
view_of m = record { rel = m.rel.items; loc = m.loc.items }

pub more_sets : (near : List (List PathData)) (methods : List CoreMethod) (place : ℕ) (method : CoreMethod) (params : ℕ) (row : List PathData) (now new : List PathsOfMethod) (part : PathsOfMethod) (whole : List MethodPaths) → place < length methods → method ≡ get_or methods place method → params ≡ length method.params.items → row ≡ row_at near place → new ≡ now ++ part ∷ [] → part.rel.items ≡ filter (λ p. nat_le p.root params) row → part.loc.items ≡ filter (λ p. nat_lt params p.root) row → map view_of now ++ parted_from near place (map method_of (drop place methods)) ≡ whole → map view_of new ++ parted_from near (place + 1) (map method_of (drop (place + 1) methods)) ≡ whole
more_sets near methods place method params row now new part whole below at few is_row pushed rel loc so_far =
    let is : view_of part ≡ parted (length method.params.items) (row_at near place) = λ i. record {
      rel = (rel ∙ (λ j. filter (λ p. nat_le p.root (few j)) (is_row j))) i;
      loc = (loc ∙ (λ j. filter (λ p. nat_lt (few j) p.root) (is_row j))) i;
    } in
    let rest = parted_from near (place + 1) (map method_of (drop (place + 1) methods)) in
    ap (λ l. map view_of l ++ rest) pushed
    ∙ ap (λ l. l ++ rest) (map-append view_of now (part ∷ []))
    ∙ append_assoc (map view_of now) (view_of part ∷ []) rest
    ∙ ap (λ x. map view_of now ++ x ∷ rest) is
    ∙ ap (λ l. map view_of now ++ parted_from near place (map method_of l)) (sym (next_drop methods place method below at))
    ∙ so_far

abbrev method_or : RuleEnd → ℕ → ℕ
method_or (end.TooManyLocks m) d = m
method_or end.NoMemory d = d

abbrev method_in : {A : Type 0} → Result A RuleEnd → ℕ → ℕ
method_in (Ok x) d = d
method_in (Err e) d = method_or e d

pub same_method : {A : Type 0} (r : Result A RuleEnd) (m n : ℕ) → r ≡ Err (end.TooManyLocks m) → r ≡ Err (end.TooManyLocks n) → m ≡ n
same_method r m n a b = sym (ap (λ x. method_in x m) a) ∙ ap (λ x. method_in x m) b
