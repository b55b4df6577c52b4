-- Different words have different numbers.
use Rattle.std.proofs.Common.{◌≡◌, ℕ, zero, suc, ◌==◌, List, [], ◌∷◌, ap, sym, refl, arith}
use Rattle.std.specs.Str.{bytes_eq}
use Rattle.std.specs.Cmp.{both_ways}
use Rattle.std.proofs.lemmas.Bool.{eq-eqb, eqb-true}
use Rattle.std.proofs.lemmas.Slice.Eq.{bytes_eq-Decides}
use Rattle.logs.specs.Numbers.{paired, number_of_word}

-- no pair has the number 0
pub paired-pos : (b n : ℕ) → paired b n ≡ 0 → ⊥
paired-pos zero n e = omega (arith, e)
paired-pos (suc b) n e = paired-pos b n (omega (arith, e))

pub paired-left : (b c n m : ℕ) → paired b n ≡ paired c m → b ≡ c
paired-left zero zero n m e = refl
paired-left zero (suc c) n m e = absurd (omega (arith, e))
paired-left (suc b) zero n m e = absurd (omega (arith, e))
paired-left (suc b) (suc c) n m e = ap suc (paired-left b c n m (omega (arith, e)))

pub paired-right : (b c n m : ℕ) → paired b n ≡ paired c m → n ≡ m
paired-right zero zero n m e = omega (arith, e)
paired-right zero (suc c) n m e = absurd (omega (arith, e))
paired-right (suc b) zero n m e = absurd (omega (arith, e))
paired-right (suc b) (suc c) n m e = paired-right b c n m (omega (arith, e))

pub number-inj : (v w : List ℕ) → number_of_word v ≡ number_of_word w → v ≡ w
number-inj [] [] e = refl
number-inj [] (c ∷ cs) e = absurd (paired-pos c (number_of_word cs) (sym e))
number-inj (b ∷ bs) [] e = absurd (paired-pos b (number_of_word bs) e)
number-inj (b ∷ bs) (c ∷ cs) e =
    let first = paired-left b c (number_of_word bs) (number_of_word cs) e in
    let rest = number-inj bs cs (paired-right b c (number_of_word bs) (number_of_word cs) e) in cc

-- the test on numbers and the test on bytes agree
pub same_number : (v w : List ℕ) → (number_of_word v == number_of_word w) ≡ bytes_eq v w
same_number v w = both_ways (number_of_word v == number_of_word w) (bytes_eq v w)
    (λ e. (bytes_eq-Decides v w).1 (number-inj v w (eqb-true (number_of_word v) (number_of_word w) e)))
    (λ e. eq-eqb (number_of_word v) (number_of_word w) (ap number_of_word ((bytes_eq-Decides v w).0 e)))

pub same_other : (v w : List ℕ) → (number_of_word w == number_of_word v) ≡ bytes_eq v w
same_other v w = both_ways (number_of_word w == number_of_word v) (bytes_eq v w)
    (λ e. (bytes_eq-Decides v w).1 (sym (number-inj w v (eqb-true (number_of_word w) (number_of_word v) e))))
    (λ e. eq-eqb (number_of_word w) (number_of_word v) (ap number_of_word (sym ((bytes_eq-Decides v w).0 e))))
