-- Entries in ascending order of address are those of one thread after the other, and those of a thread ascend in their counts.
use Rattle.std.proofs.Common.{◌≡◌, ◌++◌, ◌+◌, ◌-◌, ◌<◌, ◌≤◌, ◌==◌, ◌&&◌, ℕ, suc, Bool, true, false, cond, List, [], ◌∷◌, length, length-append, nat_le, refl, sym, ap, subst, ◌∙◌, arith, append_assoc}
use Rattle.std.specs.Prelude.{Some, None, T, map, count_by}
use Rattle.std.specs.List.{filter, flat_map}
use Rattle.std.specs.Ordering.{is_lt, is_eq}
use Rattle.std.specs.declared.cmp.Ordering.TheVariants.{Less, Equal, Greater}
use Rattle.std.specs.FinMap.{find, is_sorted}
use Rattle.std.specs.FinMap.Entries.{below_all}
use Rattle.std.proofs.lemmas.List.{append-nil}
use Rattle.std.proofs.lemmas.Grind.{flat_map-append}
use Rattle.std.proofs.lemmas.List.Sums.{length-filter}
use Rattle.std.proofs.lemmas.Bool.Decides.{nat_tests}
use Rattle.state.specs.declared.value.Address.{Address}
use Rattle.state.specs.Memory.{address_cmp}
use Rattle.state.proofs.Addresses.{address_total, address_exact, address_itself}
use Rattle.state.proofs.Numbering.{less_is, first_fact, second_fact}
use Rattle.report.specs.Entries.{of_thread, entry_if_there}

-- Tests on numbers of addresses.

module _ (a k : Address) where
  less_count : is_lt (address_cmp a k) ≡ true → ((k.thread == a.thread) && nat_le a.count k.count) ≡ ((k.thread == a.thread) && nat_le (a.count + 1) k.count)
  less_count h = grind (arith, nat_tests)

  less_thread : is_lt (address_cmp a k) ≡ true → a.thread ≤ k.thread
  less_thread h = grind (arith, nat_tests)

  more_count : (m : ℕ) → a.count ≤ m → is_lt (address_cmp k a) ≡ true → ((k.thread == a.thread) && nat_le m k.count) ≡ false
  more_count m low h = grind (arith, nat_tests)

own_count : (t n : ℕ) → ((t == t) && nat_le n n) ≡ true
own_count t n = grind (arith, nat_tests)

next_count : (t n : ℕ) → ((t == t) && nat_le (n + 1) n) ≡ false
next_count t n = grind (arith, nat_tests)

both_of : (a b : Bool) → a ≡ true → T b → T (a && b)
both_of true b e h = h
both_of false b e h = absurd cc

module _ {X : Type 0} where
  -- the entries of a thread from a count on, and those of threads from one on
  abbrev pub row_from : (t n : ℕ) → List (Address × X) → List (Address × X)
  row_from t n es = filter (λ e. (e.0.thread == t) && nat_le n e.0.count) es

  abbrev pub rows_from : (t : ℕ) → List (Address × X) → List (Address × X)
  rows_from t es = filter (λ e. nat_le t e.0.thread) es

  below_more : (a k : Address) (es : List (Address × X)) → address_cmp a k ≡ Less → T (below_all address_cmp k es) → T (below_all address_cmp a es)
  below_more a k [] less h = tt
  below_more a k (e ∷ es) less h =
      both_of (is_lt (address_cmp a e.0)) (below_all address_cmp a es) (ap is_lt (address_total.trans a k e.0 less (less_is (address_cmp k e.0) (first_fact (is_lt (address_cmp k e.0)) (below_all address_cmp k es) h))))
      (below_more a k es less (second_fact (is_lt (address_cmp k e.0)) (below_all address_cmp k es) h))

  -- entries behind an address
  none_found : (a : Address) (es : List (Address × X)) → T (below_all address_cmp a es) → find address_cmp a es ≡ None
  none_found a [] h = refl
  none_found a (e ∷ es) h =
      ap (λ (b : Bool). cond b (Some e.1) (find address_cmp a es)) (ap is_eq (less_is (address_cmp a e.0) (first_fact (is_lt (address_cmp a e.0)) (below_all address_cmp a es) h)))
      ∙ none_found a es (second_fact (is_lt (address_cmp a e.0)) (below_all address_cmp a es) h)

  row_behind : (a : Address) (es : List (Address × X)) → T (below_all address_cmp a es) → row_from a.thread a.count es ≡ row_from a.thread (a.count + 1) es
  row_behind a [] h = refl
  row_behind a (e ∷ es) h = λ i. cond (less_count a e.0 (first_fact (is_lt (address_cmp a e.0)) (below_all address_cmp a es) h) i)
      (e ∷ row_behind a es (second_fact (is_lt (address_cmp a e.0)) (below_all address_cmp a es) h) i)
      (row_behind a es (second_fact (is_lt (address_cmp a e.0)) (below_all address_cmp a es) h) i)

  none_of : (t : ℕ) (k : Address) (es : List (Address × X)) → t < k.thread → T (below_all address_cmp k es) → of_thread t es ≡ []
  none_of t k [] less h = refl
  none_of t k (e ∷ es) less h =
      ap (λ (b : Bool). cond b (e ∷ of_thread t es) (of_thread t es)) (other t e.0.thread (let low = less_thread k e.0 (first_fact (is_lt (address_cmp k e.0)) (below_all address_cmp k es) h) in omega (arith, less, low)))
      ∙ none_of t k es less (second_fact (is_lt (address_cmp k e.0)) (below_all address_cmp k es) h)
    where
      other : (t u : ℕ) → t < u → (u == t) ≡ false
      other t u less = grind (arith, nat_tests)

  -- the entry at an address comes first of its row from there on
  pub row_step : (a : Address) (es : List (Address × X)) → T (is_sorted address_cmp es) → row_from a.thread a.count es ≡ entry_if_there a (find address_cmp a es) ++ row_from a.thread (a.count + 1) es
  row_step a [] sorted = refl
  row_step a (e ∷ es) sorted =
      elim (address_cmp a e.0) as (λ o. address_cmp a e.0 ≡ o → row_from a.thread a.count (e ∷ es) ≡ entry_if_there a (find address_cmp a (e ∷ es)) ++ row_from a.thread (a.count + 1) (e ∷ es)) [
        | Less ↦ λ less.
            let all : T (below_all address_cmp a (e ∷ es)) = both_of (is_lt (address_cmp a e.0)) (below_all address_cmp a es) (ap is_lt less) (below_more a e.0 es less behind) in
            row_behind a (e ∷ es) all ∙ ap (λ o. entry_if_there a o ++ row_from a.thread (a.count + 1) (e ∷ es)) (sym (none_found a (e ∷ es) all))
        | Equal ↦ λ equal.
            subst (λ (b : Address). row_from b.thread b.count (e ∷ es) ≡ entry_if_there b (find address_cmp b (e ∷ es)) ++ row_from b.thread (b.count + 1) (e ∷ es)) (sym (address_exact a e.0 equal)) (
            ap (λ (b : Bool). cond b (e ∷ row_from e.0.thread e.0.count es) (row_from e.0.thread e.0.count es)) (own_count e.0.thread e.0.count)
            ∙ ap (λ l. e ∷ l) (row_behind e.0 es behind)
            ∙ ap (λ l. e ∷ l) (sym (ap (λ (b : Bool). cond b (e ∷ row_from e.0.thread (e.0.count + 1) es) (row_from e.0.thread (e.0.count + 1) es)) (next_count e.0.thread e.0.count)))
            ∙ ap (λ o. entry_if_there e.0 o ++ row_from e.0.thread (e.0.count + 1) (e ∷ es)) (sym (ap (λ o. cond (is_eq o) (Some e.1) (find address_cmp e.0 es)) (address_itself e.0)))
            )
        | Greater ↦ λ greater.
            let before : is_lt (address_cmp e.0 a) ≡ true = flipped a e.0 greater in
            ap (λ (b : Bool). cond b (e ∷ row_from a.thread a.count es) (row_from a.thread a.count es)) (more_count a e.0 a.count (omega arith) before)
            ∙ row_step a es (second_fact (below_all address_cmp e.0 es) (is_sorted address_cmp es) sorted)
            ∙ ap (λ o. entry_if_there a o ++ row_from a.thread (a.count + 1) es) (sym (ap (λ o. cond (is_eq o) (Some e.1) (find address_cmp a es)) greater))
            ∙ ap (λ l. entry_if_there a (find address_cmp a (e ∷ es)) ++ l) (sym (ap (λ (b : Bool). cond b (e ∷ row_from a.thread (a.count + 1) es) (row_from a.thread (a.count + 1) es)) (more_count a e.0 (a.count + 1) (omega arith) before)))
      ] refl
    where
      behind : T (below_all address_cmp e.0 es)
      behind = subst T (sym (first_fact (below_all address_cmp e.0 es) (is_sorted address_cmp es) sorted)) tt

      flipped : (x y : Address) → address_cmp x y ≡ Greater → is_lt (address_cmp y x) ≡ true
      flipped x y greater = grind (arith, nat_tests)

  -- the entries of a thread come before those of later threads
  pub rows_step : (t : ℕ) (es : List (Address × X)) → T (is_sorted address_cmp es) → rows_from t es ≡ of_thread t es ++ rows_from (t + 1) es
  rows_step t [] sorted = refl
  rows_step t (e ∷ es) sorted =
      by (nat_le t e.0.thread) (e.0.thread == t) (nat_le (t + 1) e.0.thread) refl refl refl
      (rows_step t es (second_fact (below_all address_cmp e.0 es) (is_sorted address_cmp es) sorted))
    where
      behind : T (below_all address_cmp e.0 es)
      behind = subst T (sym (first_fact (below_all address_cmp e.0 es) (is_sorted address_cmp es) sorted)) tt

      not_less : (t u : ℕ) → nat_le t u ≡ false → (u == t) ≡ true → ⊥
      not_less t u e f = grind (arith, nat_tests)

      not_later : (t u : ℕ) → nat_le t u ≡ false → nat_le (t + 1) u ≡ true → ⊥
      not_later t u e f = grind (arith, nat_tests)

      not_both : (t u : ℕ) → (u == t) ≡ true → nat_le (t + 1) u ≡ true → ⊥
      not_both t u e f = grind (arith, nat_tests)

      not_none : (t u : ℕ) → nat_le t u ≡ true → (u == t) ≡ false → nat_le (t + 1) u ≡ false → ⊥
      not_none t u e f g = grind (arith, nat_tests)

      later_is : (t u : ℕ) → nat_le (t + 1) u ≡ true → t < u
      later_is t u e = grind (arith, nat_tests)

      by : (p q r : Bool) → nat_le t e.0.thread ≡ p → (e.0.thread == t) ≡ q → nat_le (t + 1) e.0.thread ≡ r → rows_from t es ≡ of_thread t es ++ rows_from (t + 1) es
          → cond p (e ∷ rows_from t es) (rows_from t es) ≡ cond q (e ∷ of_thread t es) (of_thread t es) ++ cond r (e ∷ rows_from (t + 1) es) (rows_from (t + 1) es)
      by false true r ep eq er rest = absurd (not_less t e.0.thread ep eq)
      by false false true ep eq er rest = absurd (not_later t e.0.thread ep er)
      by false false false ep eq er rest = rest
      by true true true ep eq er rest = absurd (not_both t e.0.thread eq er)
      by true true false ep eq er rest = ap (λ l. e ∷ l) rest
      by true false false ep eq er rest = absurd (not_none t e.0.thread ep eq er)
      by true false true ep eq er rest =
          let none = none_of t e.0 es (later_is t e.0.thread er) behind in
          ap (λ l. e ∷ l) (rest ∙ ap (λ l. l ++ rows_from (t + 1) es) none) ∙ ap (λ l. l ++ (e ∷ rows_from (t + 1) es)) (sym none)

  pub row_first : (t : ℕ) (es : List (Address × X)) → row_from t 0 es ≡ of_thread t es
  row_first t [] = refl
  row_first t (e ∷ es) = λ i. cond (test (e.0.thread == t) e.0.count i) (e ∷ row_first t es i) (row_first t es i)
    where
      test : (b : Bool) (n : ℕ) → (b && nat_le 0 n) ≡ b
      test true n = grind (arith, nat_tests)
      test false n = refl

  pub rows_first : (es : List (Address × X)) → rows_from 0 es ≡ es
  rows_first [] = refl
  rows_first (e ∷ es) = λ i. cond (test e.0.thread i) (e ∷ rows_first es i) (rows_first es i)
    where
      test : (n : ℕ) → nat_le 0 n ≡ true
      test n = grind (arith, nat_tests)

  -- how many entries of a thread there are
  pub row_length : (t : ℕ) (es : List (Address × X)) → length (of_thread t es) ≡ count_by (λ a. a.thread == t) (map (λ e. e.0) es)
  row_length t es = counted es ∙ length-filter (λ a. a.thread == t) (map (λ e. e.0) es)
    where
      one : (b : Bool) (e : Address × X) (xs : List (Address × X)) (ks : List Address) → length xs ≡ length ks → length (cond b (e ∷ xs) xs) ≡ length (cond b (e.0 ∷ ks) ks)
      one true e xs ks same = ap suc same
      one false e xs ks same = same

      counted : (es : List (Address × X)) → length (of_thread t es) ≡ length (filter (λ a. a.thread == t) (map (λ e. e.0) es))
      counted [] = refl
      counted (e ∷ es) = one (e.0.thread == t) e (of_thread t es) (filter (λ a. a.thread == t) (map (λ e. e.0) es)) (counted es)

  -- so many entries are left
  pub left_more : (now found later : List (Address × X)) (left n : ℕ) → now ≡ found ++ later → left ≡ length now → n ≡ length found → (n ≤ left) × (left - n ≡ length later)
  left_more now found later left n is many some =
      let all : length now ≡ length found + length later = ap length is ∙ length-append found later in
      (omega (arith, all, many, some), omega (arith, all, many, some))

  -- lines of some entries are written, before those of the others
  pub lines_more : (line : Address × X → List ℕ) (now found later : List (Address × X)) (old new all : List ℕ) → now ≡ found ++ later → new ≡ old ++ flat_map line found → old ++ flat_map line now ≡ all → new ++ flat_map line later ≡ all
  lines_more line now found later old new all is wrote so_far =
      ap (λ t. t ++ flat_map line later) wrote
      ∙ append_assoc old (flat_map line found) (flat_map line later)
      ∙ ap (λ t. old ++ t) (sym (flat_map-append line found later) ∙ ap (flat_map line) (sym is))
      ∙ so_far

  pub lines_last : (line : Address × X → List ℕ) (now : List (Address × X)) (new all : List ℕ) → length now ≤ 0 → new ++ flat_map line now ≡ all → new ≡ all
  lines_last line [] new all none so_far = sym (append-nil new) ∙ so_far
  lines_last line (e ∷ now) new all none so_far = absurd (omega (arith, none))
