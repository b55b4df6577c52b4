-- Rearrangements are as long.
use Rattle.std.proofs.Common.{◌≡◌, ℕ, ◌+◌, ◌≤◌, ◌==◌, Bool, true, false, List, [], ◌∷◌, length, cond, count_by, refl, sym, ap, ◌∙◌, arith}
use Rattle.std.proofs.lemmas.Bool.Decides.{nat_tests}
use Rattle.std.proofs.lemmas.List.Recursion.{is_count_by}
use Rattle.std.proofs.lemmas.Bool.{eq-eqb}
use Rattle.semantics.specs.Run.{IsRearrangement}

-- how often a number stands in a list
abbrev times : ℕ → List ℕ → ℕ
times t [] = 0
times t (x ∷ xs) = cond (x == t) (1 + times t xs) (times t xs)

-- a list without one of a number's places
record Without (t : ℕ) (r : List ℕ) : Type 0 where
  rest : List ℕ
  shorter : length r ≡ 1 + length rest
  counts : (v : ℕ) → times v r ≡ cond (t == v) (1 + times v rest) (times v rest)

one_more : (p q : Bool) (n a : ℕ) → n ≡ cond q (1 + a) a → cond p (1 + n) n ≡ cond q (1 + cond p (1 + a) a) (cond p (1 + a) a)
one_more true true n a e = omega (arith, e)
one_more true false n a e = omega (arith, e)
one_more false true n a e = e
one_more false false n a e = e

one_less : (p : Bool) (n a : ℕ) → cond p (1 + n) n ≡ cond p (1 + a) a → n ≡ a
one_less true n a e = omega (arith, e)
one_less false n a e = e

without_at : (t x : ℕ) (xs : List ℕ) (b : Bool) → (x == t) ≡ b → 1 ≤ cond b (1 + times t xs) (times t xs) → (1 ≤ times t xs → Without t xs) → Without t (x ∷ xs)
without_at t x xs true e le more =
    let same : x ≡ t = grind (arith, nat_tests) in
    record { rest = xs; shorter = omega arith; counts = λ v. ap (λ z. cond (z == v) (1 + times v xs) (times v xs)) same }
without_at t x xs false e le more =
    let w = more le in
    record { rest = x ∷ w.rest; shorter = omega (arith, w.shorter); counts = λ v. one_more (x == v) (t == v) (times v xs) (times v w.rest) (w.counts v) }

without : (t : ℕ) (r : List ℕ) → 1 ≤ times t r → Without t r
without t [] le = absurd (omega (arith, le))
without t (x ∷ xs) le = without_at t x xs (x == t) refl le (without t xs)

stands : (x : ℕ) (xs : List ℕ) → times x (x ∷ xs) ≡ 1 + times x xs
stands x xs = ap (λ b. cond b (1 + times x xs) (times x xs)) (eq-eqb x x refl)

same_times : (s r : List ℕ) → ((t : ℕ) → times t s ≡ times t r) → length s ≡ length r
same_times [] [] h = refl
same_times [] (x ∷ r) h = absurd (let e = h x in let f = stands x r in omega (arith, e, f))
same_times (x ∷ s) r h =
    let first = stands x s in
    let there = h x in
    let w = without x r (omega (arith, first, there)) in
    let rest = same_times s w.rest (λ v. one_less (x == v) (times v s) (times v w.rest) (h v ∙ w.counts v)) in
    omega (arith, rest, w.shorter)

counted : (t : ℕ) (xs : List ℕ) → times t xs ≡ count_by (λ u. u == t) xs
counted t xs = is_count_by (times t) (λ u. u == t) refl (λ x ys. refl) xs

pub as_long : (s r : List ℕ) → IsRearrangement s r → length s ≡ length r
as_long s r h = same_times s r (λ t. counted t s ∙ h t ∙ sym (counted t r))
