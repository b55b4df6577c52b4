-- Going up either ends or comes back to a number where it was: of as many numbers as there are, no more than that many differ.
use Rattle.std.proofs.Common.{◌≡◌, ◌≤◌, ◌<◌, ◌+◌, ◌-◌, ◌↔◌, ◌⊎◌, inl, inr, ℕ, zero, suc, Bool, true, false, ◌||◌, List, [], ◌∷◌, length, Option, Some, None, refl, sym, ap, subst, ◌∙◌, arith}
use Rattle.std.specs.Prelude.{nat_le, eqb}
use Rattle.std.specs.Option.{option_and_then, is_some}
use Rattle.std.specs.List.{IsDistinct, AllByRecursion, list_any}
use Rattle.std.proofs.lemmas.Map.Keys.{IsDistinct-cons}
use Rattle.std.proofs.lemmas.Bool.{eqb-true, eq-eqb, leb-true, leb-false, or_parts, or_right}
use Rattle.std.proofs.lemmas.Option.{none-some, same_Some}
use Rattle.std.proofs.lemmas.Map.Steps.{length-le_from_distinct_below}
use Rattle.base.specs.Ancestors.{AreBelow, IsAncestor, IsCircular, is_circular, reaches, steps_up}
use Rattle.base.proofs.Options.{some_there}

module _ (above : ℕ → Option ℕ) where
  -- ---- steps

  -- the first step, and those after it
  up_first : (n c d : ℕ) → above c ≡ Some d → steps_up above (suc n) c ≡ steps_up above n d
  up_first n c d is = ap (λ o. option_and_then (λ x. steps_up above n x) o) is

  up_none : (n c : ℕ) → above c ≡ None → steps_up above (suc n) c ≡ None
  up_none n c is = ap (λ o. option_and_then (λ x. steps_up above n x) o) is

  -- what is above a number from which so many steps and one more lead somewhere
  first_of : (n c e : ℕ) → steps_up above (suc n) c ≡ Some e → (d : ℕ) × (above c ≡ Some d) × (steps_up above n d ≡ Some e)
  first_of n c e is = cases (above c) refl
    where
      cases : (o : Option ℕ) → above c ≡ o → (d : ℕ) × (above c ≡ Some d) × (steps_up above n d ≡ Some e)
      cases None none = absurd (none-some e (sym (up_none n c none) ∙ is))
      cases (Some d) some = (d, some, sym (up_first n c d some) ∙ is)

  -- some steps, and those after them
  up_after : (a b k c e : ℕ) → k ≡ a + b → steps_up above a c ≡ Some e → steps_up above k c ≡ steps_up above b e
  up_after zero b k c e is at = let same : k ≡ b = omega (arith, is) in ap (λ n. steps_up above n c) same ∙ ap (steps_up above b) (same_Some c e at)
  up_after (suc a) b zero c e is at = absurd (omega (arith, is))
  up_after (suc a) b (suc k) c e is at = let f = first_of a c e at in up_first k c f.0 f.1 ∙ up_after a b k f.0 e (omega (arith, is)) f.2

  -- ---- where going up has been

  abbrev trail : ℕ → Option ℕ → List ℕ
  trail n None = []
  trail zero (Some c) = c ∷ []
  trail (suc n) (Some c) = c ∷ trail n (above c)

  -- two of the first places of going up are the same number
  record Repeats (n c : ℕ) : Type 0 where
    first : ℕ
    second : ℕ
    number : ℕ
    later : first < second
    within : second ≤ n
    at_first : steps_up above first c ≡ Some number
    at_second : steps_up above second c ≡ Some number

  trail_first : (n c d : ℕ) → above c ≡ Some d → trail (suc n) (Some c) ≡ c ∷ trail n (Some d)
  trail_first n c d is = ap (λ o. c ∷ trail n o) is

  -- what the trail has, some of these steps lead to
  on_trail : (n c e q : ℕ) → steps_up above n c ≡ Some e → list_any (eqb q) (trail n (Some c)) ≡ true → (k : ℕ) × (k ≤ n) × (steps_up above k c ≡ Some q)
  on_trail zero c e q is has = (0, omega arith, ap Some (sym (eqb-true q c (one (eqb q c) has))))
    where
      one : (b : Bool) → (b || false) ≡ true → b ≡ true
      one true h = refl
      one false h = absurd (let k : false ≡ true = h in cc)
  on_trail (suc n) c e q is has =
      let f = first_of n c e is in
      here (eqb q c) refl (λ later. let r = on_trail n f.0 e q f.2 later in (suc r.0, omega (arith, r.1), up_first r.0 c f.0 f.1 ∙ r.2)) (ap (list_any (eqb q)) (sym (trail_first n c f.0 f.1)) ∙ has)
    where
      here : (b : Bool) → eqb q c ≡ b → {later : Bool} → (later ≡ true → (k : ℕ) × (k ≤ suc n) × (steps_up above k c ≡ Some q)) → (b || later) ≡ true → (k : ℕ) × (k ≤ suc n) × (steps_up above k c ≡ Some q)
      here true same later any = (0, omega arith, ap Some (sym (eqb-true q c same)))
      here false same later any = later any

  trail_length : (n c e : ℕ) → steps_up above n c ≡ Some e → length (trail n (Some c)) ≡ suc n
  trail_length zero c e is = refl
  trail_length (suc n) c e is = let f = first_of n c e is in ap length (trail_first n c f.0 f.1) ∙ ap suc (trail_length n f.0 e f.2)

  -- the places of going up differ, or two of them are the same
  differ : (n c e : ℕ) → steps_up above n c ≡ Some e → IsDistinct eqb (trail n (Some c)) ⊎ Repeats n c
  unfolding IsDistinct
  differ zero c e is = inl (IsDistinct-cons eqb c [] tt tt)
  differ (suc n) c e is =
      let f = first_of n c e is in
      elim (differ n f.0 e f.2) [
        | inl apart ↦ by_first f.0 f.1 f.2 apart (list_any (eqb c) (trail n (Some f.0))) refl
        | inr r ↦ inr (record {
          first = suc r.first;
          second = suc r.second;
          number = r.number;
          later = let l = r.later in omega (arith, l);
          within = let w = r.within in omega (arith, w);
          at_first = up_first r.first c f.0 f.1 ∙ r.at_first;
          at_second = up_first r.second c f.0 f.1 ∙ r.at_second;
        })
      ]
    where
      none_equal : (xs : List ℕ) → list_any (eqb c) xs ≡ false → AllByRecursion (λ y. eqb c y ≡ false) xs
      none_equal [] h = tt
      none_equal (x ∷ xs) h = let p = or_parts (eqb c x) (list_any (eqb c) xs) h in (p.0, none_equal xs p.1)

      by_first : (d : ℕ) → above c ≡ Some d → steps_up above n d ≡ Some e → IsDistinct eqb (trail n (Some d)) → (b : Bool) → list_any (eqb c) (trail n (Some d)) ≡ b → IsDistinct eqb (trail (suc n) (Some c)) ⊎ Repeats (suc n) c
      by_first d at rest apart true has =
          let k = on_trail n d e c rest has in
          inr (record { first = 0; second = suc k.0; number = c; later = omega arith; within = omega (arith, k.1); at_first = refl; at_second = up_first k.0 c d at ∙ k.2 })
      by_first d at rest apart false has = inl (subst (IsDistinct eqb) (sym (trail_first n c d at)) (IsDistinct-cons eqb c (trail n (Some d)) (none_equal (trail n (Some d)) has) apart))

  module _ (count : ℕ) (below : AreBelow above count) where
    -- where going up leads from below the count is below it
    trail_below : (n c e q : ℕ) → c < count → steps_up above n c ≡ Some e → list_any (eqb q) (trail n (Some c)) ≡ true → q < count
    trail_below n c e q low is has = let k = on_trail n c e q is has in lands k.0 c q low k.2
      where
        lands : (k c q : ℕ) → c < count → steps_up above k c ≡ Some q → q < count
        lands zero c q low at = subst (λ x. x < count) (same_Some c q at) low
        lands (suc k) c q low at = let f = first_of k c q at in lands k f.0 q (below c f.0 f.1) f.2

    -- as many steps as there are numbers come to one twice
    repeats : (c e : ℕ) → c < count → steps_up above count c ≡ Some e → Repeats count c
    repeats c e low is = elim (differ count c e is) [
      | inl apart ↦ absurd (
          let few = length-le_from_distinct_below (trail count (Some c)) count apart (λ q has. trail_below count c e q low is has) in
          let all = trail_length count c e is in
          omega (arith, few, all)
          )
      | inr r ↦ r
    ]

    -- ---- circles

    -- a number that is met twice is its own ancestor
    met_twice : (n c : ℕ) → Repeats n c → IsCircular above c
    met_twice n c r =
        let between : r.second ≡ r.first + suc (r.second - suc r.first) = let l = r.later in omega (arith, l) in
        (r.first, r.number, r.at_first, (r.second - suc r.first, sym (up_after r.first (suc (r.second - suc r.first)) r.second c r.number between r.at_first) ∙ r.at_second))

    -- the number above one that is its own ancestor is its own ancestor too
    goes_round : (d : ℕ) → IsAncestor above d d → (e : ℕ) × (above d ≡ Some e) × IsAncestor above e e
    goes_round d (n, is) =
        let f = first_of n d d is in
        (f.0, f.1, (n, up_after n 1 (suc n) f.0 d (omega arith) f.2 ∙ up_first 0 d f.0 f.1))

    always_on : (m d : ℕ) → IsAncestor above d d → is_some (steps_up above m d) ≡ true
    always_on zero d round = refl
    always_on (suc m) d round = let g = goes_round d round in ap is_some (up_first m d g.0 g.1) ∙ always_on m g.0 g.2

    always : (m n c d : ℕ) → steps_up above n c ≡ Some d → IsAncestor above d d → is_some (steps_up above m c) ≡ true
    always m zero c d is round = ap (λ x. is_some (steps_up above m x)) (same_Some c d is) ∙ always_on m d round
    always zero (suc n) c d is round = refl
    always (suc m) (suc n) c d is round = let f = first_of n c d is in ap is_some (up_first m c f.0 f.1) ∙ always m n f.0 d f.2 round

    pub circle_exact : (c : ℕ) → c < count → (is_circular above count c ≡ true) ↔ IsCircular above c
    circle_exact c low = (
      λ some. let e = some_there (steps_up above count c) some in met_twice count c (repeats c e.0 low e.1),
      λ (n, d, is, round). always count n c d is round,
    )

    pub going_ends : ((c : ℕ) → IsAncestor above c c → ⊥) → (c : ℕ) → c < count → steps_up above count c ≡ None
    going_ends none c low = cases (steps_up above count c) refl
      where
        cases : (o : Option ℕ) → steps_up above count c ≡ o → o ≡ None
        cases None is = refl
        cases (Some e) is = absurd (let m = met_twice count c (repeats c e low is) in none m.1 m.3)

    -- ---- the test for ancestors

    none_reaches : (n d : ℕ) → false ≡ reaches above n None d
    none_reaches zero d = refl
    none_reaches (suc n) d = refl

    -- by whether the number is the one that is looked for, and by what is above it
    by_next : (n c d : ℕ) (b : Bool) → eqb c d ≡ b → (b || reaches above n (above c) d) ≡ true → (o : Option ℕ) → above c ≡ o → ((e : ℕ) → reaches above n (Some e) d ≡ true → (k : ℕ) × (steps_up above k e ≡ Some d)) → (k : ℕ) × (steps_up above k c ≡ Some d)
    by_next n c d true same h o is later = (0, ap Some (eqb-true c d same))
    by_next n c d false same h None is later = absurd (let k : false ≡ true = none_reaches n d ∙ ap (λ o. reaches above n o d) (sym is) ∙ h in cc)
    by_next n c d false same h (Some e) is later = let f = later e (ap (λ o. reaches above n o d) (sym is) ∙ h) in (suc f.0, up_first f.0 c e is ∙ f.1)

    found : (n c d : ℕ) → reaches above n (Some c) d ≡ true → (k : ℕ) × (steps_up above k c ≡ Some d)
    found zero c d h = (0, ap Some (eqb-true c d h))
    found (suc n) c d h = by_next n c d (eqb c d) refl h (above c) refl (λ e r. found n e d r)

    finds : (k n c d : ℕ) → k ≤ n → steps_up above k c ≡ Some d → reaches above n (Some c) d ≡ true
    finds zero zero c d low is = eq-eqb c d (same_Some c d is)
    finds zero (suc n) c d low is = ap (λ b. b || reaches above n (above c) d) (eq-eqb c d (same_Some c d is))
    finds (suc k) zero c d low is = absurd (omega (arith, low))
    finds (suc k) (suc n) c d low is =
        let f = first_of k c d is in
        or_right (eqb c d) (reaches above n (above c) d) (ap (λ o. reaches above n o d) f.1 ∙ finds k n f.0 d (omega (arith, low)) f.2)

    -- what any number of steps leads to, at most as many lead to as there are numbers
    part : (a b k c e : ℕ) → k ≡ a + b → steps_up above k c ≡ Some e → (x : ℕ) × (steps_up above a c ≡ Some x)
    part zero b k c e is at = (c, refl)
    part (suc a) b zero c e is at = absurd (omega (arith, is))
    part (suc a) b (suc k) c e is at = let f = first_of k c e at in let p = part a b k f.0 e (omega (arith, is)) f.2 in (p.0, up_first a c f.0 f.1 ∙ p.1)

    -- the steps between two visits of one number may be left out
    left_out : (first second rest k c e d : ℕ) → k ≡ second + rest → steps_up above first c ≡ Some e → steps_up above second c ≡ Some e → steps_up above k c ≡ Some d → steps_up above (first + rest) c ≡ Some d
    left_out first second rest k c e d whole at_first at_second is =
        up_after first rest (first + rest) c e refl at_first ∙ sym (up_after second rest k c e whole at_second) ∙ is

    -- fewer steps to the same number, where there are more than numbers
    fewer : (k c d : ℕ) → c < count → count < k → steps_up above k c ≡ Some d → (j : ℕ) × (j < k) × (steps_up above j c ≡ Some d)
    fewer k c d low more is =
        let on = part count (k - count) k c d (omega (arith, more)) is in
        let r = repeats c on.0 low on.1 in (
          r.first + (k - r.second),
          let l = r.later in let w = r.within in omega (arith, l, w, more),
          left_out r.first r.second (k - r.second) k c r.number d (let w = r.within in omega (arith, w, more)) r.at_first r.at_second is,
        )

    shorter : (fuel k c d : ℕ) → c < count → k ≤ fuel + count → steps_up above k c ≡ Some d → (j : ℕ) × (j ≤ count) × (steps_up above j c ≡ Some d)
    shorter zero k c d low few is = (k, omega (arith, few), is)
    shorter (suc fuel) k c d low few is = by_count (nat_le k count) refl (λ j smaller at. shorter fuel j c d low (omega (arith, few, smaller)) at)
      where
        by_count : (b : Bool) → nat_le k count ≡ b → ((j : ℕ) → j < k → steps_up above j c ≡ Some d → (i : ℕ) × (i ≤ count) × (steps_up above i c ≡ Some d)) → (i : ℕ) × (i ≤ count) × (steps_up above i c ≡ Some d)
        by_count true le again = (k, leb-true k count le, is)
        by_count false le again = let f = fewer k c d low (leb-false k count le) is in again f.0 f.1 f.2

    pub reaching_exact : (c d : ℕ) → c < count → (reaches above count (Some c) d ≡ true) ↔ ((c ≡ d) ⊎ IsAncestor above c d)
    reaching_exact c d low = (
      λ r. let f = found count c d r in by_steps f.0 f.1,
      λ either. elim either as (λ _. reaches above count (Some c) d ≡ true) [
        | inl same ↦ finds 0 count c d (omega arith) (ap Some same)
        | inr steps_up ↦ let s = shorter (suc steps_up.0) (suc steps_up.0) c d low (omega arith) steps_up.1 in finds s.0 count c d s.1 s.2
      ],
    )
      where
        by_steps : (k : ℕ) → steps_up above k c ≡ Some d → (c ≡ d) ⊎ IsAncestor above c d
        by_steps zero is = inl (same_Some c d is)
        by_steps (suc k) is = inr (k, is)
