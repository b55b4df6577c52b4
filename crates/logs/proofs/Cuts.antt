-- Bytes before the first space and behind it.
use Rattle.std.proofs.Common.{◌≡◌, ◌≤◌, ◌<◌, ℕ, suc, ◌+◌, ◌-◌, Bool, true, false, not, cond, ◌==◌, List, [], ◌∷◌, take, drop, length, Some, None, if◌then◌else◌, ap, sym, ◌∙◌, refl, subst, arith}
use Rattle.std.specs.List.{position, position_or_len}
use Rattle.std.proofs.lemmas.Grind.{common_steps}
use Rattle.logs.specs.Words.{before_space, behind_space}

abbrev is_space : ℕ → Bool
is_space b = b == 32

pub before_is : (xs : List ℕ) → take (position_or_len is_space xs) xs ≡ before_space xs
before_is [] = refl
before_is (x ∷ xs) = elim (x == 32) as (λ b. take (cond (not b) (1 + position_or_len is_space xs) 0) (x ∷ xs) ≡ (if b then [] else x ∷ before_space xs)) [
  | true ↦ grind (arith, common_steps)
  | false ↦ let ih = before_is xs in grind (arith, common_steps)
]

past_first : (x : ℕ) (xs : List ℕ) (n : ℕ) → drop (suc n) (x ∷ xs) ≡ drop n xs
past_first x xs n = refl

pub behind_is : (xs : List ℕ) (n : ℕ) → n ≡ position_or_len is_space xs → n < length xs → behind_space xs ≡ Some (drop (suc n) xs)
behind_is [] n = λ e l. absurd (omega (arith, l))
behind_is (x ∷ xs) n = elim (x == 32) as (λ b. n ≡ cond (not b) (1 + position_or_len is_space xs) 0 → n < length (x ∷ xs) → (if b then Some xs else behind_space xs) ≡ Some (drop (suc n) (x ∷ xs))) [
  | true ↦ λ e l. ap Some (sym (ap (λ k. drop (suc k) (x ∷ xs)) e ∙ past_first x xs 0))
  | false ↦ λ e l.
      let next : n ≡ suc (position_or_len is_space xs) = omega (arith, e) in
      let ih = behind_is xs (position_or_len is_space xs) refl (omega (arith, e, l)) in
      ih ∙ ap Some (ap (λ k. drop k xs) (sym next) ∙ sym (past_first x xs n))
]

pub no_space : (xs : List ℕ) → length xs ≤ position_or_len is_space xs → (before_space xs ≡ xs) × (behind_space xs ≡ None)
no_space [] = λ l. (refl, refl)
no_space (x ∷ xs) = elim (x == 32) as (λ b. length (x ∷ xs) ≤ cond (not b) (1 + position_or_len is_space xs) 0
    → ((if b then [] else x ∷ before_space xs) ≡ x ∷ xs) × ((if b then Some xs else behind_space xs) ≡ None)) [
      | true ↦ λ l. absurd (omega (arith, l))
      | false ↦ λ l. let ih = no_space xs (omega (arith, l)) in (ap (λ r. x ∷ r) ih.0, ih.1)
    ]

-- where the first space stands
pub cut_at : (xs : List ℕ) (n : ℕ) → position is_space xs ≡ Some n → (take n xs ≡ before_space xs) × (behind_space xs ≡ Some (drop (suc n) xs)) × (n < length xs)
cut_at xs n e =
    let at : position_or_len is_space xs ≡ n = grind (arith, common_steps) in
    let inside : n < length xs = grind (arith, common_steps) in
    (subst (λ k. take k xs ≡ before_space xs) at (before_is xs), behind_is xs n (sym at) inside, inside)

pub no_cut : (xs : List ℕ) → position is_space xs ≡ None → (before_space xs ≡ xs) × (behind_space xs ≡ None)
no_cut xs e =
    let past : length xs ≤ position_or_len is_space xs = grind (arith, common_steps) in
    no_space xs past

pub rest_of : (xs : List ℕ) (n : ℕ) → take (length xs - (n + 1)) (drop (n + 1) xs) ≡ drop (suc n) xs
rest_of xs n = grind (arith, common_steps)
