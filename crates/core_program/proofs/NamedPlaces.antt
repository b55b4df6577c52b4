-- The place of a number in a list, counted from another number on.
use Rattle.std.proofs.Common.{◌≡◌, ℕ, ◌+◌, ◌==◌, Bool, true, false, List, [], ◌∷◌, take, drop, Option, Some, cond, refl, ap, sym, ◌∙◌, arith, position, option_map}
use Rattle.std.specs.List.{position_from}
use Rattle.std.proofs.lemmas.Iterator.Adapters.{position_from-zero}

shifted : (test : ℕ → Bool) (i k : ℕ) (xs : List ℕ) → position_from test (i + k) xs ≡ option_map (λ n. i + n) (position_from test k xs)
shifted test i k [] = refl
shifted test i k (x ∷ xs) = by_test (test x) (let e : i + k + 1 ≡ i + (k + 1) = omega arith in ap (λ n. position_from test n xs) e ∙ shifted test i (k + 1) xs)
  where
    by_test : (b : Bool) → position_from test (i + k + 1) xs ≡ option_map (λ n. i + n) (position_from test (k + 1) xs)
        → cond b (Some (i + k)) (position_from test (i + k + 1) xs) ≡ option_map (λ n. i + n) (cond b (Some k) (position_from test (k + 1) xs))
    by_test true later = refl
    by_test false later = later

-- what is counted from a number on is the place with that number added
pub counted_from : (test : ℕ → Bool) (i : ℕ) (xs : List ℕ) → position_from test i xs ≡ option_map (λ n. i + n) (position test xs)
counted_from test i xs =
    let e : i ≡ i + 0 = omega arith in
    ap (λ n. position_from test n xs) e ∙ shifted test i 0 xs ∙ ap (option_map (λ n. i + n)) (sym (position_from-zero test xs))

-- the place among a class's names, counted from its first method on
pub own_counted : (names lent own : List ℕ) (name first count : ℕ) (place : Option ℕ) → lent ≡ names → own ≡ take count (drop first lent) → place ≡ position (λ n. n == name) own
    → position_from (λ n. n == name) first (take count (drop first names)) ≡ option_map (λ n. first + n) place
own_counted names lent own name first count place whole part is =
    ap (λ xs. position_from (λ n. n == name) first (take count (drop first xs))) (sym whole) ∙ ap (position_from (λ n. n == name) first) (sym part)
    ∙ counted_from (λ n. n == name) first own ∙ ap (option_map (λ n. first + n)) (sym is)
