-- A running minimum over a list of faults ends in its first fault, or in none where there is none.
use Rattle.std.proofs.Common.{◌≡◌, ℕ, zero, suc, Bool, true, false, List, [], ◌∷◌, ◌++◌, Option, Some, None, refl, ap, sym, ◌∙◌, arith, ◌&&◌, ◌||◌, ◌==◌, nat_lt, subst, ◌⊎◌, inl, inr, Contains, if◌then◌else◌}
use Rattle.std.proofs.lemmas.Option.{none-some, same_Some}
use Rattle.std.proofs.lemmas.Bool.Decides.{nat_tests}
use Rattle.std.proofs.lemmas.List.Elements.{Contains-append_right}
use Rattle.classes.specs.declared.first.FaultPlace.{FaultPlace}
use Rattle.classes.specs.First.{comes_before, earlier, first_noted, IsFirstOfFaults}

-- ---- the order of places

-- one pair of numbers comes before another
abbrev before : ℕ → ℕ → ℕ → ℕ → Bool
before a i b j = nat_lt a b || (a == b && nat_lt i j)

before_self : (a i : ℕ) → before a i a i ≡ false
before_self a i = grind (arith, nat_tests)

before_other : (a i b j : ℕ) → before a i b j ≡ true → before b j a i ≡ false
before_other a i b j h = grind (arith, nat_tests)

before_trans : (a i b j c k : ℕ) → before a i b j ≡ false → before b j c k ≡ false → before a i c k ≡ false
before_trans a i b j c k h g = grind (arith, nat_tests)

before_neither_at : (a i b j : ℕ) → before a i b j ≡ false → before b j a i ≡ false → a ≡ b
before_neither_at a i b j h g = grind (arith, nat_tests)

before_neither_rank : (a i b j : ℕ) → before a i b j ≡ false → before b j a i ≡ false → i ≡ j
before_neither_rank a i b j h g = grind (arith, nat_tests)

not_before_self : (p : FaultPlace) → comes_before p p ≡ false
not_before_self p = before_self p.offset p.rank

not_before_other : (p q : FaultPlace) → comes_before p q ≡ true → comes_before q p ≡ false
not_before_other p q h = before_other p.offset p.rank q.offset q.rank h

not_before_along : (p q r : FaultPlace) → comes_before p q ≡ false → comes_before q r ≡ false → comes_before p r ≡ false
not_before_along p q r a b = before_trans p.offset p.rank q.offset q.rank r.offset r.rank a b

-- two places of which neither comes before the other are one
pub same_place : (p q : FaultPlace) → comes_before p q ≡ false → comes_before q p ≡ false → p ≡ q
same_place p q h k =
    let at = before_neither_at p.offset p.rank q.offset q.rank h k in
    let by = before_neither_rank p.offset p.rank q.offset q.rank h k in
    λ i. record { offset = at i; rank = by i }

-- ---- elements

first_of : {X : Type 0} (x : X) (xs : List X) → Contains (x ∷ xs) x
first_of x xs = (0, omega arith, refl)

later_of : {X : Type 0} (x : X) (xs : List X) (y : X) → Contains xs y → Contains (x ∷ xs) y
later_of x xs y h = Contains-append_right (x ∷ []) xs y h

either_of : {X : Type 0} (x : X) (xs : List X) (y : X) → Contains (x ∷ xs) y → (x ≡ y) ⊎ Contains xs y
either_of x xs y (zero, below, at) = inl at
either_of x xs y (suc k, below, at) = inr (k, omega arith, at)

none_of : {X : Type 0} (y : X) → Contains [] y → ⊥
none_of y h = omega (arith, h.1)

-- ---- part by part

pub noted_append : {F : Type 0} (place : F → FaultPlace) (first : Option F) (xs ys : List F) → first_noted place first (xs ++ ys) ≡ first_noted place (first_noted place first xs) ys
noted_append place first [] ys = refl
noted_append place first (x ∷ xs) ys = noted_append place (Some (earlier place first x)) xs ys

-- ---- the first of those noted

-- a fault is found before or is one of these, and none of them comes before it
record IsLeast {F : Type 0} (place : F → FaultPlace) (found : Option F) (fs : List F) (f : F) : Type 0 where
  stands : (found ≡ Some f) ⊎ Contains fs f
  below_found : (g : F) → found ≡ Some g → comes_before (place g) (place f) ≡ false
  below : (g : F) → Contains fs g → comes_before (place g) (place f) ≡ false

least_step : {F : Type 0} (place : F → FaultPlace) (found : Option F) (x : F) (xs : List F) (f : F) → IsLeast place (Some (earlier place found x)) xs f → IsLeast place found (x ∷ xs) f
least_step {F} place None x xs f h = record {
  stands = elim h.stands [ inl e ↦ inr (subst (Contains (x ∷ xs)) (same_Some x f e) (first_of x xs)) | inr c ↦ inr (later_of x xs f c) ];
  below_found = λ g e. absurd (none-some g e);
  below = λ g c. elim (either_of x xs g c) [ inl e ↦ subst (λ z. comes_before (place z) (place f) ≡ false) e (h.below_found x refl) | inr d ↦ h.below g d ];
}
least_step {F} place (Some y) x xs f h =
    elim (comes_before (place x) (place y)) as (λ b. comes_before (place x) (place y) ≡ b → IsLeast place (Some (if b then x else y)) xs f → IsLeast place (Some y) (x ∷ xs) f) [
      | true ↦ λ is h. record {
        stands = elim h.stands [ inl e ↦ inr (subst (Contains (x ∷ xs)) (same_Some x f e) (first_of x xs)) | inr c ↦ inr (later_of x xs f c) ];
        below_found = λ g e. subst (λ z. comes_before (place z) (place f) ≡ false) (same_Some y g e) (not_before_along (place y) (place x) (place f) (not_before_other (place x) (place y) is) (h.below_found x refl));
        below = λ g c. elim (either_of x xs g c) [ inl e ↦ subst (λ z. comes_before (place z) (place f) ≡ false) e (h.below_found x refl) | inr d ↦ h.below g d ];
      }
      | false ↦ λ is h. record {
        stands = elim h.stands [ inl e ↦ inl e | inr c ↦ inr (later_of x xs f c) ];
        below_found = λ g e. h.below_found g e;
        below = λ g c. elim (either_of x xs g c) [ inl e ↦ subst (λ z. comes_before (place z) (place f) ≡ false) e (not_before_along (place x) (place y) (place f) is (h.below_found y refl)) | inr d ↦ h.below g d ];
      }
    ] refl h

least_of_noted : {F : Type 0} (place : F → FaultPlace) (found : Option F) (fs : List F) (f : F) → first_noted place found fs ≡ Some f → IsLeast place found fs f
least_of_noted place found [] f is = record {
  stands = inl is;
  below_found = λ g e. subst (λ z. comes_before (place z) (place f) ≡ false) (same_Some f g (sym is ∙ e)) (not_before_self (place f));
  below = λ g c. absurd (none_of g c);
}
least_of_noted place found (x ∷ xs) f is = least_step place found x xs f (least_of_noted place (Some (earlier place found x)) xs f is)

some_stays : {F : Type 0} (place : F → FaultPlace) (x : F) (fs : List F) → first_noted place (Some x) fs ≡ None → ⊥
some_stays place x [] is = none-some x (sym is)
some_stays place x (f ∷ fs) is = some_stays place (earlier place (Some x) f) fs is

pub first_is : {F : Type 0} (place : F → FaultPlace) (fs : List F) (f : F) → first_noted place None fs ≡ Some f → IsFirstOfFaults place fs f
first_is place fs f is =
    let h = least_of_noted place None fs f is in
    record {
      stands = elim h.stands [ inl e ↦ absurd (none-some f e) | inr c ↦ c ];
      least = λ g c. h.below g c;
    }

pub none_is : {F : Type 0} (place : F → FaultPlace) (fs : List F) → first_noted place None fs ≡ None → fs ≡ []
none_is place [] is = refl
none_is place (f ∷ fs) is = absurd (some_stays place f fs is)

-- ---- one first fault

-- faults at different places differ; `back` finds a fault again by its place
pub one_first : {F : Type 0} (place : F → FaultPlace) (back : FaultPlace → F) → ((f : F) → back (place f) ≡ f)
    → (fs : List F) (f g : F) → IsFirstOfFaults place fs f → IsFirstOfFaults place fs g → f ≡ g
one_first place back again fs f g h k =
    sym (again f) ∙ ap back (same_place (place f) (place g) (k.least f h.stands) (h.least g k.stands)) ∙ again g

pub no_first : {F : Type 0} (place : F → FaultPlace) (fs : List F) (f : F) → fs ≡ [] → IsFirstOfFaults place fs f → ⊥
no_first place fs f none h = none_of f (subst (λ xs. Contains xs f) none h.stands)

some_of : {F : Type 0} (found : Option F) → (found ≡ None → ⊥) → (f : F) × (found ≡ Some f)
some_of None h = absurd (h refl)
some_of (Some f) h = (f, refl)

-- where there are faults, one is the first
pub some_first : {F : Type 0} (place : F → FaultPlace) (fs : List F) → (fs ≡ [] → ⊥) → (f : F) × IsFirstOfFaults place fs f
some_first place fs some =
    let h = some_of (first_noted place None fs) (λ e. some (none_is place fs e)) in
    (h.0, first_is place fs h.0 h.1)
