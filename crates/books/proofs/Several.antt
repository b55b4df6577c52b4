-- Items while a byte stands first: one more, or the end.
use Rattle.std.proofs.Common.{◌≡◌, ℕ, zero, suc, ◌<◌, ◌≤◌, true, false, List, [], ◌∷◌, length, Ok, Err, refl, ◌∙◌, ap, arith}
use Rattle.base.proofs.Options.{choice_same}
use Rattle.books.specs.declared.stop.Kind.{Kind}
use Rattle.books.specs.Combine.{Res, ◌>>=◌, seen, begins, at_most, several}

-- what was read, seen by a function, was read
pub unseen : {A B : Type 0} (f : A → B) (p : Res A) (v : B) (r : List ℕ) → seen f p ≡ Ok (v, r) → (a : A) × (p ≡ Ok (a, r)) × (f a ≡ v)
unseen f (Ok y) v r e =
    let same = ok_same (f y.0, y.1) (v, r) e in
    (y.0, ap (λ z. Ok (y.0, z)) (ap (λ z. z.1) same), ap (λ z. z.0) same)
  where
    ok_same : {B : Type 0} (y z : B × List ℕ) → (let r : Res B = Ok y in r ≡ Ok z) → y ≡ z
    ok_same y z h = cc
unseen f (Err d) v r e = absurd (cc)

pub unseen_fault : {A B : Type 0} (f : A → B) (p : Res A) (d : Kind × List ℕ) → seen f p ≡ Err d → p ≡ Err d
unseen_fault f (Ok y) d e = absurd (cc)
unseen_fault f (Err b) d e = ap (λ z. Err z) (err_same b d e)
  where
    err_same : {B : Type 0} (b d : Kind × List ℕ) → (let r : Res B = Err b in r ≡ Err d) → b ≡ d
    err_same b d h = cc

-- each item takes a byte
abbrev pub Takes : {A : Type 0} → (List ℕ → Res A) → Type 0
Takes {A} item = (ts : List ℕ) (x : A) (r : List ℕ) → item ts ≡ Ok (x, r) → length r < length ts

-- what follows a part, where it is the same after each value that the part gives
pub next_same : {A B : Type 0} (f g : A → List ℕ → Res B) (p : Res A) → ((x : A) (r : List ℕ) → p ≡ Ok (x, r) → f x r ≡ g x r) → (p >>= f) ≡ (p >>= g)
next_same f g (Ok y) same = same y.0 y.1 refl
next_same f g (Err e) same = refl

fuel : {A : Type 0} (byte : ℕ) (item : List ℕ → Res A) → Takes item → (n m : ℕ) (ts : List ℕ) → length ts ≤ n → length ts ≤ m →
    at_most n byte item ts ≡ at_most m byte item ts
fuel byte item takes zero zero ts h k = refl
fuel byte item takes zero (suc m) [] h k = refl
fuel byte item takes zero (suc m) (b ∷ ts) h k = absurd (omega (arith, h))
fuel byte item takes (suc n) zero [] h k = refl
fuel byte item takes (suc n) zero (b ∷ ts) h k = absurd (omega (arith, k))
fuel byte item takes (suc n) (suc m) ts h k =
    choice_same (begins byte ts) (item ts >>= λ x ts. at_most n byte item ts >>= λ xs ts. Ok (x ∷ xs, ts))
    (item ts >>= λ x ts. at_most m byte item ts >>= λ xs ts. Ok (x ∷ xs, ts)) (Ok ([], ts))
    (λ go. next_same (λ x ts. at_most n byte item ts >>= λ xs ts. Ok (x ∷ xs, ts)) (λ x ts. at_most m byte item ts >>= λ xs ts. Ok (x ∷ xs, ts)) (item ts)
    (λ x r is. let shorter = takes ts x r is in
    ap (λ p. p >>= λ xs ts. Ok (x ∷ xs, ts)) (fuel byte item takes n m r (omega (arith, h, shorter)) (omega (arith, k, shorter)))))

pub several_done : {A : Type 0} (byte : ℕ) (item : List ℕ → Res A) (ts : List ℕ) → begins byte ts ≡ false → several byte item ts ≡ Ok ([], ts)
unfolding several
several_done byte item [] e = refl
several_done byte item (b ∷ ts) e = rw e refl

pub several_fault : {A : Type 0} (byte : ℕ) (item : List ℕ → Res A) (ts : List ℕ) (d : Kind × List ℕ) → begins byte ts ≡ true → item ts ≡ Err d → several byte item ts ≡ Err d
unfolding several
several_fault byte item [] d e is = absurd (let no : false ≡ true = e in cc)
several_fault byte item (b ∷ ts) d e is = rw (e, is) refl

pub several_more : {A : Type 0} (byte : ℕ) (item : List ℕ → Res A) → Takes item → (ts : List ℕ) (x : A) (r : List ℕ) → begins byte ts ≡ true → item ts ≡ Ok (x, r) →
    several byte item ts ≡ (several byte item r >>= λ xs ts. Ok (x ∷ xs, ts))
unfolding several
several_more byte item takes [] x r e is = absurd (let no : false ≡ true = e in cc)
several_more byte item takes (b ∷ ts) x r e is =
    let shorter = takes (b ∷ ts) x r is in
    let step : at_most (suc (length ts)) byte item (b ∷ ts) ≡ (at_most (length ts) byte item r >>= λ xs ts. Ok (x ∷ xs, ts)) = rw (e, is) refl in
    step ∙ ap (λ p. p >>= λ xs ts. Ok (x ∷ xs, ts)) (fuel byte item takes (length ts) (length r) r (omega (arith, shorter)) (omega arith))
