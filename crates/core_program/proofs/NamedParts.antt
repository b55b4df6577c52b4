-- What is found by a name: an own method of some class, with that name.
use Rattle.std.proofs.Common.{◌≡◌, inl, inr, ℕ, zero, suc, ◌+◌, ◌<◌, ◌≤◌, ◌==◌, ◌||◌, Bool, true, false, List, [], ◌∷◌, ◌++◌, length, take, drop, cond, Option, Some, None, refl, sym, ap, subst, ◌∙◌, arith, nat_le, nat_lt, if◌then◌else◌}
use Rattle.std.specs.Prelude.{Contains, option_and_then, slice_get}
use Rattle.std.specs.List.{position_from}
use Rattle.std.specs.Option.{option_or}
use Rattle.std.proofs.lemmas.Bool.{eqb-true, eq-eqb, ne_eqb, le-leb, lt-ltb, and_from, or_left, or_right, or_cases}
use Rattle.std.proofs.lemmas.List.Elements.{Contains-append_left, Contains-append_right, Contains-append_cases}
use Rattle.std.proofs.lemmas.Option.{none-some, same_Some}
use Rattle.base.proofs.Lists.{contains_cases}
use Rattle.core_program.specs.Dispatch.{partner}
use Rattle.core_program.specs.Pairs.{KeptClass, is_own_of, own_named, as_list, part_above, is_own_in, named_in, is_own_up, nearest_named, all_named, has_or_inherits, runs_for, target_in, pairs_from, AreNamedOnce}
use Rattle.core_program.proofs.Climbing.{nearest_none, own_none, own_at, all_none}

-- ---- in a list

pub in_taken : (n : ℕ) (xs : List ℕ) (k x : ℕ) → slice_get (take n xs) k ≡ Some x → (k < n) × (slice_get xs k ≡ Some x)
in_taken zero xs k x h = absurd (none-some x h)
in_taken (suc n) [] k x h = absurd (none-some x h)
in_taken (suc n) (y ∷ ys) zero x h = (omega arith, h)
in_taken (suc n) (y ∷ ys) (suc k) x h = let r = in_taken n ys k x h in (omega (arith, r.0), r.1)

pub in_dropped : (n : ℕ) (xs : List ℕ) (k x : ℕ) → slice_get (drop n xs) k ≡ Some x → slice_get xs (n + k) ≡ Some x
in_dropped zero xs k x h = let e : k ≡ 0 + k = omega arith in subst (λ j. slice_get xs j ≡ Some x) e h
in_dropped (suc n) [] k x h = absurd (none-some x h)
in_dropped (suc n) (y ∷ ys) k x h = let e : suc (n + k) ≡ suc n + k = omega arith in subst (λ j. slice_get (y ∷ ys) j ≡ Some x) e (in_dropped n ys k x h)

-- what is found stands at its place
found_at : (name i : ℕ) (xs : List ℕ) (m : ℕ) → position_from (λ n. n == name) i xs ≡ Some m → (k : ℕ) × (m ≡ i + k) × (slice_get xs k ≡ Some name)
found_at name i [] m h = absurd (none-some m h)
found_at name i (x ∷ xs) m h = by_test (x == name) refl (λ e. found_at name (i + 1) xs m e) h
  where
    by_test : (b : Bool) → (x == name) ≡ b → (position_from (λ n. n == name) (i + 1) xs ≡ Some m → (k : ℕ) × (m ≡ i + 1 + k) × (slice_get xs k ≡ Some name)) → cond b (Some i) (position_from (λ n. n == name) (i + 1) xs) ≡ Some m → (k : ℕ) × (m ≡ i + k) × (slice_get (x ∷ xs) k ≡ Some name)
    by_test true same later e = let at = same_Some i m e in (0, omega (arith, at), ap Some (eqb-true x name same))
    by_test false other later e = let r = later e in let at = r.1 in (suc r.0, omega (arith, at), r.2)

-- the own method with a name has it, and is an own one
pub own_has : (names : List ℕ) (name m : ℕ) (c : KeptClass) → own_named names name c ≡ Some m → (slice_get names m ≡ Some name) × (is_own_of m c ≡ true)
own_has names name m c h =
    let f = found_at name c.first_method (take c.method_count (drop c.first_method names)) m h in
    let at = f.1 in
    let t = in_taken c.method_count (drop c.first_method names) f.0 name f.2 in
    let few = t.0 in (
      subst (λ j. slice_get names j ≡ Some name) (sym f.1) (in_dropped c.first_method names f.0 name t.1),
      and_from (nat_le c.first_method m) (nat_lt m (c.first_method + c.method_count)) (le-leb c.first_method m (omega (arith, at))) (lt-ltb m (c.first_method + c.method_count) (omega (arith, at, few))),
    )

pub in_listed : (o : Option ℕ) (m : ℕ) → Contains (as_list o) m → o ≡ Some m
in_listed None m (k, below, is) = absurd (omega (arith, below))
in_listed (Some x) m has = elim (contains_cases x m [] has) as (λ _. Some x ≡ Some m) [ inl e ↦ ap Some e | inr (k, below, is) ↦ absurd (omega (arith, below)) ]

pub listed_has : (o : Option ℕ) (m : ℕ) → o ≡ Some m → Contains (as_list o) m
listed_has o m is = subst (λ z. Contains (as_list z) m) (sym is) (0, omega arith, refl)

module _ (parts : List KeptClass) (names : List ℕ) where
  -- ---- going up

  -- what is found by a name: in a class that has it among its own, where it has that name
  pub record IsNamed (n : ℕ) (from : Option ℕ) (name m : ℕ) : Type 0 where
    pub number : ℕ
    pub class : KeptClass
    pub there : slice_get parts number ≡ Some class
    pub here : own_named names name class ≡ Some m
    pub up : is_own_up parts names n from m ≡ true

  named_further : (n k name m : ℕ) (c : KeptClass) → slice_get parts k ≡ Some c → IsNamed n c.above name m → IsNamed (suc n) (Some k) name m
  named_further n k name m c there r = record {
    number = r.number;
    class = r.class;
    there = r.there;
    here = r.here;
    up = own_at parts names n k m c there ∙ or_right (is_own_of m c) (is_own_up parts names n c.above m) r.up;
  }

  named_here : (n k name m : ℕ) (c : KeptClass) → slice_get parts k ≡ Some c → own_named names name c ≡ Some m → IsNamed (suc n) (Some k) name m
  named_here n k name m c there found = record {
    number = k;
    class = c;
    there = there;
    here = found;
    up = own_at parts names n k m c there ∙ or_left (is_own_of m c) (is_own_up parts names n c.above m) (own_has names name m c found).1;
  }

  above_in : Option KeptClass → Option ℕ
  above_in o = option_and_then (λ (x : KeptClass). x.above) o

  pub nearest_named_is : (n : ℕ) (from : Option ℕ) (name m : ℕ) → nearest_named parts names n from name ≡ Some m → IsNamed n from name m
  nearest_named_is zero from name m h = absurd (none-some m h)
  nearest_named_is (suc n) None name m h = absurd (none-some m h)
  nearest_named_is (suc n) (Some k) name m h = in_class (slice_get parts k) refl (λ from e. nearest_named_is n from name m e) h
    where
      in_class : (o : Option KeptClass) → slice_get parts k ≡ o → ((from : Option ℕ) → nearest_named parts names n from name ≡ Some m → IsNamed n from name m)
          → option_or (option_and_then (own_named names name) o) (nearest_named parts names n (option_and_then (λ (x : KeptClass). x.above) o) name) ≡ Some m → IsNamed (suc n) (Some k) name m
      in_class None gone later e = absurd (none-some m (sym (nearest_none parts names n name) ∙ e))
      in_class (Some c) there later e = by_own (own_named names name c) refl e
        where
          by_own : (o : Option ℕ) → own_named names name c ≡ o → option_or o (nearest_named parts names n c.above name) ≡ Some m → IsNamed (suc n) (Some k) name m
          by_own None none f = named_further n k name m c there (later c.above f)
          by_own (Some x) found f = named_here n k name m c there (found ∙ f)

  pub all_named_are : (n : ℕ) (from : Option ℕ) (name m : ℕ) → Contains (all_named parts names n from name) m → IsNamed n from name m
  all_named_are zero from name m (k, below, is) = absurd (omega (arith, below))
  all_named_are (suc n) None name m (k, below, is) = absurd (omega (arith, below))
  all_named_are (suc n) (Some k) name m has = in_class (slice_get parts k) refl (λ from e. all_named_are n from name m e) has
    where
      in_class : (o : Option KeptClass) → slice_get parts k ≡ o → ((from : Option ℕ) → Contains (all_named parts names n from name) m → IsNamed n from name m)
          → Contains (as_list (option_and_then (own_named names name) o) ++ all_named parts names n (option_and_then (λ (x : KeptClass). x.above) o) name) m → IsNamed (suc n) (Some k) name m
      in_class None gone rest (j, below, is) = let none = ap length (all_none parts names n name) in absurd (omega (arith, below, none))
      in_class (Some c) there rest e = elim (Contains-append_cases (as_list (own_named names name c)) (all_named parts names n c.above name) m e) as (λ _. IsNamed (suc n) (Some k) name m) [
        | inl mine ↦ named_here n k name m c there (in_listed (own_named names name c) m mine)
        | inr later ↦ named_further n k name m c there (rest c.above later)
      ]

  -- ---- each method that a class has is found by its name

  module _ (once : AreNamedOnce parts names) where
    pub all_named_have : (n : ℕ) (from : Option ℕ) (name m : ℕ) → is_own_up parts names n from m ≡ true → slice_get names m ≡ Some name → Contains (all_named parts names n from name) m
    all_named_have zero from name m up is = absurd (let e : false ≡ true = up in cc)
    all_named_have (suc n) None name m up is = absurd (let e : false ≡ true = up in cc)
    all_named_have (suc n) (Some k) name m up is = in_class (slice_get parts k) refl (λ from later. all_named_have n from name m later is) up
      where
        in_class : (o : Option KeptClass) → slice_get parts k ≡ o → ((from : Option ℕ) → is_own_up parts names n from m ≡ true → Contains (all_named parts names n from name) m) → (is_own_in parts names o m || is_own_up parts names n (option_and_then (λ (x : KeptClass). x.above) o) m) ≡ true
            → Contains (as_list (option_and_then (own_named names name) o) ++ all_named parts names n (option_and_then (λ (x : KeptClass). x.above) o) name) m
        in_class None gone rest e = absurd (let f : false ≡ true = sym (own_none parts names n m) ∙ e in cc)
        in_class (Some c) there rest e =
            elim (or_cases (is_own_of m c) (is_own_up parts names n c.above m) e) as (λ _. Contains (as_list (own_named names name c) ++ all_named parts names n c.above name) m) [
              | inl mine ↦ Contains-append_left (as_list (own_named names name c)) (all_named parts names n c.above name) m (listed_has (own_named names name c) m (once k c there m name mine is))
              | inr later ↦ Contains-append_right (as_list (own_named names name c)) (all_named parts names n c.above name) m (rest c.above later)
            ]

  -- ---- more classes to look at find the same

  pub nearest_of_more : (n more : ℕ) (from : Option ℕ) (name m : ℕ) → n ≤ more → nearest_named parts names n from name ≡ Some m → nearest_named parts names more from name ≡ Some m
  nearest_of_more zero more from name m low h = absurd (none-some m h)
  nearest_of_more (suc n) zero from name m low h = absurd (omega (arith, low))
  nearest_of_more (suc n) (suc more) None name m low h = h
  nearest_of_more (suc n) (suc more) (Some k) name m low h = by_own (named_in parts names name k) (nearest_of_more n more (part_above parts names k) name m (omega (arith, low))) h
    where
      by_own : (o : Option ℕ) → (nearest_named parts names n (part_above parts names k) name ≡ Some m → nearest_named parts names more (part_above parts names k) name ≡ Some m)
          → option_or o (nearest_named parts names n (part_above parts names k) name) ≡ Some m → option_or o (nearest_named parts names more (part_above parts names k) name) ≡ Some m
      by_own (Some x) later e = e
      by_own None later e = later e

  -- ---- the pairs of a class

  none_before : (c : KeptClass) (i : ℕ) (rest : List ℕ) (m : ℕ) → m < i → partner (pairs_from parts names c i rest) m ≡ None
  none_before c i [] m before = refl
  none_before c i (x ∷ rest) m before = by_test (has_or_inherits parts names c i) (none_before c (i + 1) rest m (omega (arith, before)))
    where
      by_test : (b : Bool) → partner (pairs_from parts names c (i + 1) rest) m ≡ None
          → partner (if b then (i, runs_for parts names c i x) ∷ pairs_from parts names c (i + 1) rest else pairs_from parts names c (i + 1) rest) m ≡ None
      by_test true later = ap (λ t. if t then Some (runs_for parts names c i x) else partner (pairs_from parts names c (i + 1) rest) m) (ne_eqb i m (λ e. omega (arith, before, e))) ∙ later
      by_test false later = later

  partner_at : (c : KeptClass) (i : ℕ) (rest : List ℕ) (j m : ℕ) → m ≡ i + j
      → partner (pairs_from parts names c i rest) m ≡ option_and_then (λ name. if has_or_inherits parts names c m then Some (runs_for parts names c m name) else None) (slice_get rest j)
  partner_at c i [] j m at = refl
  partner_at c i (x ∷ rest) zero m at =
      let here : i ≡ m = omega (arith, at) in
      subst (λ k. partner (pairs_from parts names c i (x ∷ rest)) k ≡ (if has_or_inherits parts names c k then Some (runs_for parts names c k x) else None)) here
      (by_test (has_or_inherits parts names c i) (none_before c (i + 1) rest i (omega arith)))
    where
      by_test : (b : Bool) → partner (pairs_from parts names c (i + 1) rest) i ≡ None
          → partner (if b then (i, runs_for parts names c i x) ∷ pairs_from parts names c (i + 1) rest else pairs_from parts names c (i + 1) rest) i ≡ (if b then Some (runs_for parts names c i x) else None)
      by_test true later = ap (λ t. if t then Some (runs_for parts names c i x) else partner (pairs_from parts names c (i + 1) rest) i) (eq-eqb i i refl)
      by_test false later = later
  partner_at c i (x ∷ rest) (suc j) m at = by_test (has_or_inherits parts names c i) (partner_at c (i + 1) rest j m (omega (arith, at)))
    where
      by_test : (b : Bool) {o : Option ℕ} → partner (pairs_from parts names c (i + 1) rest) m ≡ o
          → partner (if b then (i, runs_for parts names c i x) ∷ pairs_from parts names c (i + 1) rest else pairs_from parts names c (i + 1) rest) m ≡ o
      by_test true later = ap (λ t. if t then Some (runs_for parts names c i x) else partner (pairs_from parts names c (i + 1) rest) m) (ne_eqb i m (λ e. omega (arith, at, e))) ∙ later
      by_test false later = later

  pub partner_is : (c : KeptClass) (m : ℕ) → partner (pairs_from parts names c 0 names) m ≡ target_in parts names c m
  partner_is c m = partner_at c 0 names m m (omega arith)
