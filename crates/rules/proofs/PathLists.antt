-- Ascending lists of paths: a path put at its place, and lists by method.
use Rattle.std.proofs.Common.{◌≡◌, ℕ, zero, suc, ◌<◌, ◌≤◌, Bool, true, false, ◌||◌, List, [], ◌∷◌, ◌++◌, length, take, drop, get_or, set, refl, sym, ap, subst, ◌∙◌, arith, ◌⊎◌, inl, inr}
use Rattle.std.specs.Prelude.{nat_lt, Vec}
use Rattle.std.specs.declared.alloc.Global.{Global}
use Rattle.std.specs.List.{insert, AllWithin}
use Rattle.std.specs.List.Sorted.{IsStrictlySortedBy, IsNonDecreasingBy, IsPartitionPoint}
use Rattle.std.specs.Ordering.{ordering_index}
use Rattle.std.specs.declared.cmp.Ordering.TheVariants.{Less, Equal, Greater}
use Rattle.std.proofs.lemmas.Bool.Decides.{nat_tests}
use Rattle.std.proofs.lemmas.List.Folds.{list_any-append}
use Rattle.std.proofs.lemmas.List.Elements.{All-append, All-cons, All-take, All-drop, All-from_recursion, recursion_from_All}
use Rattle.std.proofs.lemmas.Map.Keys.{Less-from_sorted}
use Rattle.std.proofs.lemmas.Bool.{false_from_ne_true, or_right}
use lib.ListN.{take-append-drop}
use Rattle.paths.specs.Paths.{PathData, path_order, path_eq}
use Rattle.paths.proofs.PathOrder.{equal_is, is_equal, less_turned, greater_turned, less_chain, eq_is, is_eq, less_not_eq}
use Rattle.algebra.specs.HeldPaths.{has_path}
use Rattle.rules.specs.Search.{row_at, rows_of}

greater_is_not : (y p : PathData) → path_order y p ≡ Greater → path_eq y p ≡ false
greater_is_not y p greater = false_from_ne_true (path_eq y p) (λ e. let k : Greater ≡ Equal = sym greater ∙ is_equal y p (eq_is y p e) in absurd cc)

index_below : (a b p : PathData) → path_order a b ≡ Less → ordering_index (path_order a p) ≤ ordering_index (path_order b p)
index_below a b p less = elim (path_order a p) as (λ o. path_order a p ≡ o → ordering_index o ≤ ordering_index (path_order b p)) [
  | Less ↦ λ e. omega arith
  | Equal ↦ λ e. let g : path_order b p ≡ Greater = less_turned p b (subst (λ x. path_order x b ≡ Less) (equal_is a p e) less) in subst (λ o. 1 ≤ ordering_index o) (sym g) (omega arith)
  | Greater ↦ λ e. let g : path_order b p ≡ Greater = less_turned p b (less_chain p a b (greater_turned a p e) less) in subst (λ o. 2 ≤ ordering_index o) (sym g) (omega arith)
] refl

le_split : (i j : ℕ) → i ≤ j → (i < j) ⊎ (i ≡ j)
le_split i j le = elim (nat_lt i j) as (λ b. nat_lt i j ≡ b → (i < j) ⊎ (i ≡ j)) [ true ↦ λ e. inl (grind (arith, nat_tests)) | false ↦ λ e. inr (grind (arith, nat_tests)) ] refl

pub non_decreasing : (p : PathData) (xs : List PathData) → IsStrictlySortedBy path_order xs → IsNonDecreasingBy (λ y. ordering_index (path_order y p)) xs
non_decreasing p xs ascends i j d le below = elim (le_split i j le) as (λ _. ordering_index (path_order (get_or xs i d) p) ≤ ordering_index (path_order (get_or xs j d) p)) [
  | inl less ↦ index_below (get_or xs i d) (get_or xs j d) p (Less-from_sorted path_order xs i j d ascends less below)
  | inr same ↦ subst (λ k. ordering_index (path_order (get_or xs i d) p) ≤ ordering_index (path_order (get_or xs k d) p)) same (omega arith)
]

-- at each place before i the path is less, from i on greater
before_tail : (x p : PathData) (xs : List PathData) (i : ℕ) → AllWithin (λ y. path_order y p ≡ Less) (x ∷ xs) 0 (suc i) → AllWithin (λ y. path_order y p ≡ Less) xs 0 i
before_tail x p xs i h k d low below = h (suc k) d (omega arith) (omega arith)

after_tail : (x p : PathData) (xs : List PathData) (i : ℕ) → AllWithin (λ y. path_order y p ≡ Greater) (x ∷ xs) (suc i) (length (x ∷ xs)) → AllWithin (λ y. path_order y p ≡ Greater) xs i (length xs)
after_tail x p xs i h k d low below = h (suc k) d (omega arith) (omega arith)

pub insert_ascends : (p : PathData) (xs : List PathData) (i : ℕ) → IsStrictlySortedBy path_order xs → i ≤ length xs → AllWithin (λ y. path_order y p ≡ Less) xs 0 i → AllWithin (λ y. path_order y p ≡ Greater) xs i (length xs) → IsStrictlySortedBy path_order (insert xs i p)
unfolding IsStrictlySortedBy
insert_ascends p xs zero ascends in_list before after = (recursion_from_All (λ y. path_order p y ≡ Less) xs (λ k d below. greater_turned (get_or xs k d) p (after k d (omega arith) below)), ascends)
insert_ascends p [] (suc i) ascends in_list before after = absurd (omega arith)
insert_ascends p (x ∷ xs) (suc i) ascends in_list before after =
    let rest = All-from_recursion (λ y. path_order x y ≡ Less) xs ascends.0 in (
      recursion_from_All (λ y. path_order x y ≡ Less) (take i xs ++ p ∷ drop i xs) (All-append (λ y. path_order x y ≡ Less) (take i xs) (p ∷ drop i xs) (All-take (λ y. path_order x y ≡ Less) i xs rest)
          (All-cons (λ y. path_order x y ≡ Less) p (drop i xs) (before 0 x (omega arith) (omega arith)) (All-drop (λ y. path_order x y ≡ Less) i xs rest))),
      insert_ascends p xs i ascends.1 (omega arith) (before_tail x p xs i before) (after_tail x p xs i after),
    )

swap_or : (a b c : Bool) → (a || (b || c)) ≡ (b || (a || c))
swap_or true true c = refl
swap_or true false c = refl
swap_or false true c = refl
swap_or false false c = refl

pub insert_has : (p : PathData) (xs : List PathData) (i : ℕ) (q : PathData) → has_path (insert xs i p) q ≡ (path_eq p q || has_path xs q)
insert_has p xs i q =
    let t = λ (y : PathData). path_eq y q in
    let e1 = list_any-append (λ y. path_eq y q) (take i xs) (p ∷ drop i xs) in
    let e2 = swap_or (has_path (take i xs) q) (path_eq p q) (has_path (drop i xs) q) in
    let e3 = list_any-append (λ y. path_eq y q) (take i xs) (drop i xs) in
    let e4 = ap (λ l. has_path l q) (take-append-drop i xs) in
    e1 ∙ e2 ∙ ap (λ b. path_eq p q || b) (sym e3 ∙ e4)

pub has_no : (p : PathData) (xs : List PathData) → ((k : ℕ) (d : PathData) → k < length xs → path_eq (get_or xs k d) p ≡ false) → has_path xs p ≡ false
has_no p [] h = refl
has_no p (x ∷ xs) h =
    let e : path_eq x p ≡ false = h 0 x (omega arith) in
    ap (λ b. b || has_path xs p) e ∙ has_no p xs (λ k d below. h (suc k) d (omega arith))

pub has_at : (p : PathData) (xs : List PathData) (i : ℕ) (d : PathData) → i < length xs → path_eq (get_or xs i d) p ≡ true → has_path xs p ≡ true
has_at p [] i d below is = absurd (omega arith)
has_at p (x ∷ xs) zero d below is = ap (λ b. b || has_path xs p) is
has_at p (x ∷ xs) (suc i) d below is = or_right (path_eq x p) (has_path xs p) (has_at p xs i d (omega arith) is)

pub partition_has_no : (p : PathData) (xs : List PathData) (i : ℕ) → AllWithin (λ y. path_order y p ≡ Less) xs 0 i → AllWithin (λ y. path_order y p ≡ Greater) xs i (length xs) → has_path xs p ≡ false
partition_has_no p xs i before after = has_no p xs (λ k d below. elim (nat_lt k i) as (λ b. nat_lt k i ≡ b → path_eq (get_or xs k d) p ≡ false) [
  | true ↦ λ e. less_not_eq (get_or xs k d) p (before k d (omega arith) (grind (arith, nat_tests)))
  | false ↦ λ e. greater_is_not (get_or xs k d) p (after k d (grind (arith, nat_tests)) below)
] refl)

-- a path that the list has adds nothing
pub has_already : (p : PathData) (xs : List PathData) → has_path xs p ≡ true → (q : PathData) → has_path xs q ≡ (path_eq p q || has_path xs q)
has_already p xs has q = elim (path_eq p q) as (λ b. path_eq p q ≡ b → has_path xs q ≡ (b || has_path xs q)) [
  | true ↦ λ e. ap (has_path xs) (sym (eq_is p q e)) ∙ has
  | false ↦ λ e. refl
] refl

-- Lists by method.

pub row_push : {A : Type 0} (rows : List (Vec A Global)) (row : Vec A Global) (m : ℕ) → row.items ≡ [] → row_at (rows_of (rows ++ row ∷ [])) m ≡ row_at (rows_of rows) m
row_push [] row zero none = none
row_push [] row (suc m) none = refl
row_push (r ∷ rows) row zero none = refl
row_push (r ∷ rows) row (suc m) none = row_push rows row m none

pub row_set_same : {A : Type 0} (rows : List (Vec A Global)) (m : ℕ) (row : Vec A Global) → m < length rows → row_at (rows_of (set rows m row)) m ≡ row.items
row_set_same [] m row below = absurd (omega arith)
row_set_same (r ∷ rows) zero row below = refl
row_set_same (r ∷ rows) (suc m) row below = row_set_same rows m row (omega arith)

pub row_set_other : {A : Type 0} (rows : List (Vec A Global)) (m n : ℕ) (row : Vec A Global) → (n ≡ m → ⊥) → row_at (rows_of (set rows m row)) n ≡ row_at (rows_of rows) n
row_set_other [] m n row differ = refl
row_set_other (r ∷ rows) zero zero row differ = absurd (differ refl)
row_set_other (r ∷ rows) zero (suc n) row differ = refl
row_set_other (r ∷ rows) (suc m) zero row differ = refl
row_set_other (r ∷ rows) (suc m) (suc n) row differ = row_set_other rows m n row (λ e. differ (ap suc e))

pub row_is : {A : Type 0} (rows : List (Vec A Global)) (m : ℕ) (d : Vec A Global) → m < length rows → row_at (rows_of rows) m ≡ (get_or rows m d).items
row_is [] m d below = absurd (omega arith)
row_is (r ∷ rows) zero d below = refl
row_is (r ∷ rows) (suc m) d below = row_is rows m d (omega arith)

-- What a search by halves finds.

pub found_has : (p : PathData) (xs ys : List PathData) (i : ℕ) → xs ≡ ys → i < length xs → ((d : PathData) → path_order (get_or xs i d) p ≡ Equal) → has_path ys p ≡ true
found_has p xs ys i same below is = ap (λ l. has_path l p) (sym same) ∙ has_at p xs i p below (is_eq (get_or xs i p) p (equal_is (get_or xs i p) p (is p)))

parted : (p : PathData) (xs ys : List PathData) (i : ℕ) → xs ≡ ys → IsStrictlySortedBy path_order ys → (IsNonDecreasingBy (λ y. ordering_index (path_order y p)) xs → IsPartitionPoint (λ y. path_order y p ≡ Less) (λ y. path_order y p ≡ Greater) xs i) → IsPartitionPoint (λ y. path_order y p ≡ Less) (λ y. path_order y p ≡ Greater) ys i
parted p xs ys i same ascends position = subst (λ l. IsPartitionPoint (λ y. path_order y p ≡ Less) (λ y. path_order y p ≡ Greater) l i) same (position (non_decreasing p xs (subst (IsStrictlySortedBy path_order) (sym same) ascends)))

pub missing_ascends : (p copied : PathData) (xs ys new : List PathData) (i : ℕ) → xs ≡ ys → copied ≡ p → new ≡ insert ys i copied → IsStrictlySortedBy path_order ys → i ≤ length xs → (IsNonDecreasingBy (λ y. ordering_index (path_order y p)) xs → IsPartitionPoint (λ y. path_order y p ≡ Less) (λ y. path_order y p ≡ Greater) xs i) → IsStrictlySortedBy path_order new
missing_ascends p copied xs ys new i same copy is ascends in_list position =
    let parts = parted p xs ys i same ascends position in
    subst (IsStrictlySortedBy path_order) (sym (is ∙ ap (insert ys i) copy)) (insert_ascends p ys i ascends (subst (λ l. i ≤ length l) same in_list) parts.0 parts.1)

pub missing_has : (p copied : PathData) (ys new : List PathData) (i : ℕ) → copied ≡ p → new ≡ insert ys i copied → (q : PathData) → has_path new q ≡ (path_eq p q || has_path ys q)
missing_has p copied ys new i copy is q = ap (λ l. has_path l q) (is ∙ ap (insert ys i) copy) ∙ insert_has p ys i q

pub missing_is : (p : PathData) (xs ys : List PathData) (i : ℕ) → xs ≡ ys → IsStrictlySortedBy path_order ys → (IsNonDecreasingBy (λ y. ordering_index (path_order y p)) xs → IsPartitionPoint (λ y. path_order y p ≡ Less) (λ y. path_order y p ≡ Greater) xs i) → has_path ys p ≡ false
missing_is p xs ys i same ascends position = let parts = parted p xs ys i same ascends position in partition_has_no p ys i parts.0 parts.1
