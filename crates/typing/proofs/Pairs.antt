-- Each method that a class has with the one that runs for it: what stands in the pairs, and that they ascend.
use Rattle.std.proofs.Common.{◌≡◌, ℕ, zero, suc, ◌+◌, ◌<◌, ◌≤◌, ◌==◌, Bool, true, false, List, [], ◌∷◌, length, map, nat_cmp, Some, refl, sym, ap, ◌∙◌, arith, slice_get, if◌then◌else◌}
use Rattle.std.specs.Prelude.{All}
use Rattle.std.specs.Cmp.{nat_cmp_is}
use Rattle.std.specs.declared.cmp.Ordering.TheVariants.{Less}
use Rattle.std.specs.List.{AllByRecursion}
use Rattle.std.specs.List.Sorted.{IsStrictlySortedBy}
use Rattle.std.proofs.lemmas.Bool.{eqb-true, eq-eqb}
use Rattle.std.proofs.lemmas.Option.{none-some, same_Some}
use Rattle.std.proofs.lemmas.List.Elements.{All-cons}
use Rattle.core_program.specs.Dispatch.{partner}
use Rattle.classes.specs.Table.{TableData, MethodData, is_of_kind}
use Rattle.typing.specs.Classes.{runner, targets_from}

module _ (t : TableData) (k : ℕ) where
  abbrev pairs : ℕ → List MethodData → List (ℕ × ℕ)
  pairs n ms = targets_from t k n ms

  -- by whether the class has the first method
  abbrev by_first : ℕ → MethodData → List MethodData → Bool → List (ℕ × ℕ)
  by_first n x ms b = if b then (n, runner t k n x) ∷ pairs (n + 1) ms else pairs (n + 1) ms

  -- whoever stands in the pairs from this number on is a method that the class has, and stands there with the one that runs for it
  pub record IsPaired (n : ℕ) (ms : List MethodData) (m j : ℕ) : Type 0 where
    pub place : ℕ
    pub method : MethodData
    pub number : m ≡ n + place
    pub is : slice_get ms place ≡ Some method
    pub kind : is_of_kind t k method.class ≡ true
    pub runs : j ≡ runner t k m method

  pub paired : (n : ℕ) (ms : List MethodData) (m j : ℕ) → partner (pairs n ms) m ≡ Some j → IsPaired n ms m j
  paired n [] m j is = absurd (none-some j is)
  paired n (x ∷ ms) m j is =
      at_first (is_of_kind t k x.class) refl
      (λ later. let r = paired (n + 1) ms m j later in record { place = suc r.place; method = r.method; number = omega (arith, r.number); is = r.is; kind = r.kind; runs = r.runs }) is
    where
      itself : (b : Bool) → (n == m) ≡ b → is_of_kind t k x.class ≡ true → (partner (pairs (n + 1) ms) m ≡ Some j → IsPaired n (x ∷ ms) m j)
          → (if b then Some (runner t k n x) else partner (pairs (n + 1) ms) m) ≡ Some j → IsPaired n (x ∷ ms) m j
      itself true same mine later h =
          let e = eqb-true n m same in
          record { place = 0; method = x; number = omega (arith, e); is = refl; kind = mine; runs = sym (same_Some (runner t k n x) j h) ∙ ap (λ z. runner t k z x) e }
      itself false same mine later h = later h

      at_first : (b : Bool) → is_of_kind t k x.class ≡ b → (partner (pairs (n + 1) ms) m ≡ Some j → IsPaired n (x ∷ ms) m j)
          → partner (by_first n x ms b) m ≡ Some j → IsPaired n (x ∷ ms) m j
      at_first true mine later h = itself (n == m) refl mine later h
      at_first false mine later h = later h

  -- each method that the class has stands in the pairs
  pub stands : (n : ℕ) (ms : List MethodData) (i m : ℕ) (method : MethodData) → m ≡ n + i → slice_get ms i ≡ Some method → is_of_kind t k method.class ≡ true
      → partner (pairs n ms) m ≡ Some (runner t k m method)
  stands n [] i m method number at mine = absurd (none-some method at)
  stands n (x ∷ ms) zero m method number at mine =
      let here : n ≡ m = omega (arith, number) in
      let same : x ≡ method = same_Some x method at in
      ap (λ b. partner (by_first n x ms b) m) (ap (λ z. is_of_kind t k z.class) same ∙ mine)
      ∙ ap (λ b. if b then Some (runner t k n x) else partner (pairs (n + 1) ms) m) (eq-eqb n m here)
      ∙ ap (λ z. Some (runner t k z x)) here ∙ ap (λ z. Some (runner t k m z)) same
  stands n (x ∷ ms) (suc i) m method number at mine = past (is_of_kind t k x.class) (n == m) refl (stands (n + 1) ms i m method (omega (arith, number)) at mine)
    where
      past : (b test : Bool) → (n == m) ≡ test → partner (pairs (n + 1) ms) m ≡ Some (runner t k m method) → partner (by_first n x ms b) m ≡ Some (runner t k m method)
      past true true same h = absurd (let e = eqb-true n m same in omega (arith, e, number))
      past true false same h = ap (λ b. if b then Some (runner t k n x) else partner (pairs (n + 1) ms) m) same ∙ h
      past false test same h = h

  -- ---- order

  abbrev firsts : List (ℕ × ℕ) → List ℕ
  firsts ps = map (λ p. p.0) ps

  lt_cmp : (a b : ℕ) → a < b → nat_cmp a b ≡ Less
  lt_cmp a b below = sym (nat_cmp_is a b Less below)

  all_above : (low n : ℕ) (ms : List MethodData) → low < n → AllByRecursion (λ y. nat_cmp low y ≡ Less) (firsts (pairs n ms))
  all_above low n [] below = tt
  all_above low n (x ∷ ms) below = step (is_of_kind t k x.class) (all_above low (n + 1) ms (omega (arith, below)))
    where
      step : (b : Bool) → AllByRecursion (λ y. nat_cmp low y ≡ Less) (firsts (pairs (n + 1) ms)) → AllByRecursion (λ y. nat_cmp low y ≡ Less) (firsts (by_first n x ms b))
      step true rest = (lt_cmp low n below, rest)
      step false rest = rest

  none_ascend : IsStrictlySortedBy nat_cmp []
  unfolding IsStrictlySortedBy
  none_ascend = tt

  first_ascends : (n : ℕ) (x : MethodData) (ms : List MethodData) (b : Bool) → IsStrictlySortedBy nat_cmp (firsts (pairs (n + 1) ms)) → IsStrictlySortedBy nat_cmp (firsts (by_first n x ms b))
  unfolding IsStrictlySortedBy
  first_ascends n x ms true rest = (all_above n (n + 1) ms (omega arith), rest)
  first_ascends n x ms false rest = rest

  pub ascending_pairs : (n : ℕ) (ms : List MethodData) → IsStrictlySortedBy nat_cmp (firsts (pairs n ms))
  ascending_pairs n [] = none_ascend
  ascending_pairs n (x ∷ ms) = first_ascends n x ms (is_of_kind t k x.class) (ascending_pairs (n + 1) ms)

  -- where the method that runs is one of so many
  pub pairs_within : (count n : ℕ) (ms : List MethodData) → n + length ms ≤ count
      → ((i m : ℕ) (method : MethodData) → m ≡ n + i → slice_get ms i ≡ Some method → runner t k m method < count)
      → All (λ p. (p.0 < count) × (p.1 < count)) (pairs n ms)
  pairs_within count n [] low runs = λ j d below. absurd (omega arith)
  pairs_within count n (x ∷ ms) low runs =
      step (is_of_kind t k x.class) (pairs_within count (n + 1) ms (omega (arith, low)) (λ i m method number at. runs (suc i) m method (omega (arith, number)) at))
    where
      step : (b : Bool) → All (λ p. (p.0 < count) × (p.1 < count)) (pairs (n + 1) ms) → All (λ p. (p.0 < count) × (p.1 < count)) (by_first n x ms b)
      step true rest = All-cons (λ p. (p.0 < count) × (p.1 < count)) (n, runner t k n x) (pairs (n + 1) ms) (omega (arith, low), runs 0 n x (omega arith) refl) rest
      step false rest = rest
