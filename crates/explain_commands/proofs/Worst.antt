-- The worst of statuses: the worse of two is no matter of how they are put together, and 0 is the least.
use Rattle.std.proofs.Common.{◌≡◌, ℕ, ◌==◌, ◌≤◌, ◌<◌, Bool, true, false, nat_lt, refl, sym, ap, ◌∙◌, arith, if◌then◌else◌}
use Rattle.std.proofs.lemmas.Bool.{eqb-true, ltb-true, lt-ltb, ltb-false, le-ltb}
use Rattle.explain_commands.specs.Worse.{badness, worse}

other_of : (b : Bool) (s t : ℕ) → b ≡ true → (if b then t else s) ≡ t
other_of true s t e = refl
other_of false s t e = absurd cc

one_of : (b : Bool) (s t : ℕ) → b ≡ false → (if b then t else s) ≡ s
one_of true s t e = absurd cc
one_of false s t e = refl

takes : (s t : ℕ) → nat_lt (badness s) (badness t) ≡ true → worse s t ≡ t
takes s t e = other_of (nat_lt (badness s) (badness t)) s t e

keeps : (s t : ℕ) → nat_lt (badness s) (badness t) ≡ false → worse s t ≡ s
keeps s t e = one_of (nat_lt (badness s) (badness t)) s t e

-- however three are put together
pub worse_each : (a b c : ℕ) → worse (worse a b) c ≡ worse a (worse b c)
worse_each a b c = by (nat_lt (badness a) (badness b)) (nat_lt (badness b) (badness c)) refl refl
  where
    by : (x y : Bool) → nat_lt (badness a) (badness b) ≡ x → nat_lt (badness b) (badness c) ≡ y → worse (worse a b) c ≡ worse a (worse b c)
    by true true p q =
        let one = ltb-true (badness a) (badness b) p in
        let two = ltb-true (badness b) (badness c) q in
        ap (λ s. worse s c) (takes a b p) ∙ takes b c q ∙ sym (ap (worse a) (takes b c q) ∙ takes a c (lt-ltb (badness a) (badness c) (omega (arith, one, two))))
    by true false p q = ap (λ s. worse s c) (takes a b p) ∙ keeps b c q ∙ sym (ap (worse a) (keeps b c q) ∙ takes a b p)
    by false true p q = ap (λ s. worse s c) (keeps a b p) ∙ sym (ap (worse a) (takes b c q))
    by false false p q =
        let one = ltb-false (badness a) (badness b) p in
        let two = ltb-false (badness b) (badness c) q in
        ap (λ s. worse s c) (keeps a b p) ∙ keeps a c (le-ltb (badness a) (badness c) (omega (arith, one, two))) ∙ sym (ap (worse a) (keeps b c q) ∙ keeps a b p)

pub worse_last : (s : ℕ) → worse s 0 ≡ s
worse_last s = keeps s 0 (le-ltb (badness s) 0 (omega arith))

-- only 0 isn't bad at all
not_bad : (six ten one nought : Bool) → (if six then 4 else (if ten then 3 else (if one then 2 else (if nought then 0 else 1)))) ≤ 0 → nought ≡ true
not_bad true ten one nought low = absurd (omega (arith, low))
not_bad false true one nought low = absurd (omega (arith, low))
not_bad false false true nought low = absurd (omega (arith, low))
not_bad false false false true low = refl
not_bad false false false false low = absurd (omega (arith, low))

pub worse_first : (s : ℕ) → worse 0 s ≡ s
worse_first s = by (nat_lt 0 (badness s)) refl
  where
    by : (x : Bool) → nat_lt 0 (badness s) ≡ x → worse 0 s ≡ s
    by true p = takes 0 s p
    by false p =
        let low = ltb-false 0 (badness s) p in
        let none : s ≡ 0 = eqb-true s 0 (not_bad (s == 6) (s == 10) (s == 1) (s == 0) low) in
        keeps 0 s p ∙ sym none

-- nothing is worse than a file that can't be read
bad_by : (six ten one nought : Bool) → (six ≡ true → ⊥) → (if six then 4 else (if ten then 3 else (if one then 2 else (if nought then 0 else 1)))) < 4
bad_by true ten one nought not = absurd (not refl)
bad_by false true one nought not = omega arith
bad_by false false true nought not = omega arith
bad_by false false false true not = omega arith
bad_by false false false false not = omega arith

bad : (s : ℕ) → (s ≡ 6 → ⊥) → badness s < 4
bad s not = bad_by (s == 6) (s == 10) (s == 1) (s == 0) (λ is. not (eqb-true s 6 is))

most_bad : (six ten one nought : Bool) → (if six then 4 else (if ten then 3 else (if one then 2 else (if nought then 0 else 1)))) ≤ 4
most_bad true ten one nought = omega arith
most_bad false true one nought = omega arith
most_bad false false true nought = omega arith
most_bad false false false true = omega arith
most_bad false false false false = omega arith

pub six_first : (s : ℕ) → worse 6 s ≡ 6
six_first s = keeps 6 s (le-ltb 4 (badness s) (most_bad (s == 6) (s == 10) (s == 1) (s == 0)))

pub six_last : (s : ℕ) → worse s 6 ≡ 6
six_last s = by (s == 6) refl
  where
    by : (x : Bool) → (s == 6) ≡ x → worse s 6 ≡ 6
    by true p = ap (λ t. worse t 6) (eqb-true s 6 p)
    by false p = takes s 6 (lt-ltb (badness s) 4 (bad s (λ is. let e : false ≡ true = sym p ∙ ap (λ t. t == 6) is in cc)))

-- the worse of two is one of them
pub one_of_two : (s t : ℕ) (Is : ℕ → Type 0) → Is s → Is t → Is (worse s t)
one_of_two s t Is one other = by (nat_lt (badness s) (badness t))
  where
    by : (x : Bool) → Is (if x then t else s)
    by true = other
    by false = one
