-- A class and its ancestors, where no class is its own: one more than those of the class above.
use Rattle.std.proofs.Common.{◌≡◌, ◌<◌, ◌⊎◌, inl, inr, ℕ, zero, suc, Bool, true, false, ◌==◌, ◌||◌, List, [], ◌∷◌, Option, Some, None, refl, sym, ap, ◌∙◌, slice_get}
use Rattle.std.specs.Option.{option_and_then, option_or}
use Rattle.std.specs.Cmp.{both_ways}
use Rattle.std.proofs.lemmas.Bool.{eqb-true, eq-eqb, or_right}
use Rattle.std.proofs.lemmas.Option.{none-some, same_Some}
use Rattle.base.specs.Ancestors.{AreBelow, IsAncestor, reaches, steps_up}
use Rattle.base.proofs.Going.{going_ends, reaching_exact}
use Rattle.classes.specs.Lines.{ancestors}
use Rattle.classes.specs.Table.{first_found}

module _ (above : ℕ → Option ℕ) where
  up_first : (n c d : ℕ) → above c ≡ Some d → steps_up above (suc n) c ≡ steps_up above n d
  up_first n c d is = ap (λ o. option_and_then (λ x. steps_up above n x) o) is

  pub nothing_above_it : (n : ℕ) → ancestors above n None ≡ []
  nothing_above_it zero = refl
  nothing_above_it (suc n) = refl

  -- where so many steps lead nowhere, one place more makes no difference
  same_after : (n c : ℕ) → steps_up above n c ≡ None → ancestors above n (Some c) ≡ c ∷ ancestors above n (above c)
  same_after zero c ends = absurd (none-some c (sym ends))
  same_after (suc n) c ends = by_next (above c) refl (λ d is. same_after n d (sym (up_first n c d is) ∙ ends))
    where
      by_next : (o : Option ℕ) → above c ≡ o → ((d : ℕ) → above c ≡ Some d → ancestors above n (Some d) ≡ d ∷ ancestors above n (above d)) → c ∷ ancestors above n (above c) ≡ c ∷ ancestors above (suc n) (above c)
      by_next None is later = ap (λ o. c ∷ ancestors above n o) is ∙ ap (λ z. c ∷ z) (nothing_above_it n) ∙ ap (λ o. c ∷ ancestors above (suc n) o) (sym is)
      by_next (Some d) is later = ap (λ o. c ∷ ancestors above n o) is ∙ ap (λ z. c ∷ z) (later d is) ∙ ap (λ o. c ∷ ancestors above (suc n) o) (sym is)

  module _ (count : ℕ) (below : AreBelow above count) (apart : (c : ℕ) → IsAncestor above c c → ⊥) where
    pub going : (c : ℕ) → c < count → steps_up above count c ≡ None
    going c low = going_ends above count below apart c low

    -- a class and its ancestors, the nearest first
    abbrev pub line : ℕ → List ℕ
    line c = c ∷ ancestors above count (above c)

    pub line_top : (c : ℕ) → above c ≡ None → line c ≡ c ∷ []
    line_top c is = ap (λ o. c ∷ ancestors above count o) is ∙ ap (λ z. c ∷ z) (nothing_above_it count)

    pub ancestors_on : (c d : ℕ) → above c ≡ Some d → ancestors above count (above c) ≡ line d
    ancestors_on c d is = ap (ancestors above count) is ∙ same_after count d (going d (below c d is))

    pub line_on : (c d : ℕ) → above c ≡ Some d → line c ≡ c ∷ line d
    line_on c d is = ap (λ z. c ∷ z) (ancestors_on c d is)

    -- what holds of a class where it holds of the class above it, holds of all
    from_top : (Q : ℕ → Type 0) → ((c : ℕ) → c < count → ((d : ℕ) → above c ≡ Some d → Q d) → Q c) → (n c : ℕ) → c < count → steps_up above n c ≡ None → Q c
    from_top Q step zero c low ends = absurd (none-some c (sym ends))
    from_top Q step (suc n) c low ends = step c low (λ d is. from_top Q step n d (below c d is) (sym (up_first n c d is) ∙ ends))

    pub from_above : (Q : ℕ → Type 0) → ((c : ℕ) → c < count → ((d : ℕ) → above c ≡ Some d → Q d) → Q c) → (c : ℕ) → c < count → Q c
    from_above Q step c low = from_top Q step count c low (going c low)

    -- ---- the test for ancestors

    abbrev pub kind : ℕ → ℕ → Bool
    kind c d = reaches above count (Some c) d

    pub kind_itself : (c : ℕ) → c < count → kind c c ≡ true
    kind_itself c low = (reaching_exact above count below c c low).1 (inl refl)

    pub kind_up : (c d e : ℕ) → c < count → above c ≡ Some d → kind d e ≡ true → kind c e ≡ true
    kind_up c d e low is h = elim ((reaching_exact above count below d e (below c d is)).0 h) as (λ _. kind c e ≡ true) [
      | inl same ↦ (reaching_exact above count below c e low).1 (inr (0, up_first 0 c d is ∙ ap Some same))
      | inr far ↦ (reaching_exact above count below c e low).1 (inr (suc far.0, up_first (suc far.0) c d is ∙ far.1))
    ]

    kind_down : (c d e : ℕ) → c < count → above c ≡ Some d → kind c e ≡ true → (c ≡ e) ⊎ (kind d e ≡ true)
    kind_down c d e low is h = elim ((reaching_exact above count below c e low).0 h) as (λ _. (c ≡ e) ⊎ (kind d e ≡ true)) [
      | inl same ↦ inl same
      | inr far ↦ inr (further far.0 far.1)
    ]
      where
        further : (n : ℕ) → steps_up above (suc n) c ≡ Some e → kind d e ≡ true
        further zero at = (reaching_exact above count below d e (below c d is)).1 (inl (same_Some d e (sym (up_first 0 c d is) ∙ at)))
        further (suc n) at = (reaching_exact above count below d e (below c d is)).1 (inr (n, sym (up_first (suc n) c d is) ∙ at))

    -- a class is of its own kind and of those of the class above
    pub kind_on : (c d e : ℕ) → c < count → above c ≡ Some d → kind c e ≡ ((c == e) || kind d e)
    kind_on c d e low is = both_ways (kind c e) ((c == e) || kind d e) down back
      where
        down : kind c e ≡ true → ((c == e) || kind d e) ≡ true
        down h = elim (kind_down c d e low is h) as (λ _. ((c == e) || kind d e) ≡ true) [
          | inl same ↦ ap (λ b. b || kind d e) (eq-eqb c e same)
          | inr far ↦ or_right (c == e) (kind d e) far
        ]

        split : (b : Bool) → (c == e) ≡ b → (b || kind d e) ≡ true → kind c e ≡ true
        split true same h = (reaching_exact above count below c e low).1 (inl (eqb-true c e same))
        split false same h = kind_up c d e low is h

        back : ((c == e) || kind d e) ≡ true → kind c e ≡ true
        back h = split (c == e) refl h

    pub kind_top : (c e : ℕ) → c < count → above c ≡ None → kind c e ≡ (c == e)
    kind_top c e low none = both_ways (kind c e) (c == e) down (λ h. (reaching_exact above count below c e low).1 (inl (eqb-true c e h)))
      where
        down : kind c e ≡ true → (c == e) ≡ true
        down h = elim ((reaching_exact above count below c e low).0 h) as (λ _. (c == e) ≡ true) [
          | inl same ↦ eq-eqb c e same
          | inr far ↦ absurd (none-some e (sym (ap (λ o. option_and_then (λ x. steps_up above far.0 x) o) none) ∙ far.1))
        ]

    -- a class isn't of the kind of one below it
    pub not_below : (c d : ℕ) → above c ≡ Some d → kind d c ≡ true → ⊥
    not_below c d is h = elim ((reaching_exact above count below d c (below c d is)).0 h) as (λ _. ⊥) [
      | inl same ↦ apart c (0, up_first 0 c d is ∙ ap Some same)
      | inr far ↦ apart c (suc far.0, up_first (suc far.0) c d is ∙ far.1)
    ]

    -- a class that one is of the kind of stands in its line
    pub kind_place : (c e : ℕ) → c < count → kind c e ≡ true → (p : ℕ) × (slice_get (line c) p ≡ Some e)
    kind_place c e low = from_above (λ c. kind c e ≡ true → (p : ℕ) × (slice_get (line c) p ≡ Some e)) step c low
      where
        step : (c : ℕ) → c < count → ((d : ℕ) → above c ≡ Some d → kind d e ≡ true → (p : ℕ) × (slice_get (line d) p ≡ Some e)) → kind c e ≡ true → (p : ℕ) × (slice_get (line c) p ≡ Some e)
        step c low later h = by_above (above c) refl
          where
            by_test : (d : ℕ) → above c ≡ Some d → (b : Bool) → (c == e) ≡ b → (b || kind d e) ≡ true → (kind d e ≡ true → (p : ℕ) × (slice_get (line d) p ≡ Some e)) → (p : ℕ) × (slice_get (line c) p ≡ Some e)
            by_test d is true same k more = (0, ap Some (eqb-true c e same))
            by_test d is false same k more = let r = more k in (suc r.0, ap (λ z. slice_get z (suc r.0)) (line_on c d is) ∙ r.1)

            by_above : (o : Option ℕ) → above c ≡ o → (p : ℕ) × (slice_get (line c) p ≡ Some e)
            by_above None none = (0, ap Some (eqb-true c e (sym (kind_top c e low none) ∙ h)))
            by_above (Some d) is = by_test d is (c == e) refl (sym (kind_on c d e low is) ∙ h) (later d is)

    -- ---- what is found along a line

    pub found_on : {A : Type 0} (find : ℕ → Option A) (c d : ℕ) → above c ≡ Some d → first_found find (line c) ≡ option_or (find c) (first_found find (line d))
    found_on find c d is = ap (first_found find) (line_on c d is)

    nothing_more : {A : Type 0} (o : Option A) → option_or o None ≡ o
    nothing_more None = refl
    nothing_more (Some a) = refl

    pub found_top : {A : Type 0} (find : ℕ → Option A) (c : ℕ) → above c ≡ None → first_found find (line c) ≡ find c
    found_top find c is = ap (first_found find) (line_top c is) ∙ nothing_more (find c)

    -- where it is found along the line of a class
    pub record IsFound {A : Type 0} (find : ℕ → Option A) (c : ℕ) (x : A) : Type 0 where
      pub place : ℕ
      pub found : find place ≡ Some x
      pub kind : kind c place ≡ true

    pub found_there : {A : Type 0} (find : ℕ → Option A) (x : A) (c : ℕ) → c < count → first_found find (line c) ≡ Some x → IsFound find c x
    found_there find x c low = from_above (λ c. first_found find (line c) ≡ Some x → IsFound find c x) step c low
      where
        step : (c : ℕ) → c < count → ((d : ℕ) → above c ≡ Some d → first_found find (line d) ≡ Some x → IsFound find d x) → first_found find (line c) ≡ Some x → IsFound find c x
        step c low later at = by_above (above c) refl
          where
            here : (o : Option _) → find c ≡ o → (rest : Option _) → option_or o rest ≡ Some x → (rest ≡ Some x → IsFound find c x) → IsFound find c x
            here None none rest h more = more h
            here (Some y) some rest h more = record { place = c; found = some ∙ h; kind = kind_itself c low }

            by_above : (o : Option ℕ) → above c ≡ o → IsFound find c x
            by_above None none = record { place = c; found = sym (found_top find c none) ∙ at; kind = kind_itself c low }
            by_above (Some d) is =
                here (find c) refl (first_found find (line d)) (sym (found_on find c d is) ∙ at)
                (λ rest. let r = later d is rest in record { place = r.place; found = r.found; kind = kind_up c d r.place low is r.kind })
