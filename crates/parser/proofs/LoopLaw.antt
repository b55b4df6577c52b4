-- Loops are right, and have fuel enough.
use Rattle.std.proofs.Common.{◌≡◌, ℕ, zero, suc, ◌<◌, ◌≤◌, Bool, true, false, List, [], ◌∷◌, ◌++◌, length, Ok, Err, refl, ◌∙◌, ap, subst, arith, length-append}
use Rattle.std.proofs.lemmas.Bool.{cond-false, cond-true}
use Rattle.base.proofs.Options.{choice_same}
use Rattle.lexer.specs.declared.tokens.Token.{Token}
use Rattle.parser.proofs.Right.{RightAt, Right, Some_of, right_seq_at, right_along, right_weaker}
use Rattle.parser.proofs.Parts.{right_done, starts_meets}
use Rattle.parser.specs.Combine.{Res, ◌>>=◌, starts, loop, iterate}

-- what is read leaves at most n tokens
abbrev pub Leaves : {A : Type 0} → ℕ → Res A → Type 0
Leaves n (Ok y) = length y.1 ≤ n
Leaves n (Err e) = Unit {0}

-- each step takes a token
abbrev pub Takes : {A : Type 0} → (Token → Bool) → (A → List Token → Res A) → Type 0
Takes {A} go step = (a : A) (x : Token) (xs : List Token) → go x ≡ true → Leaves (length xs) (step a (x ∷ xs))

next_same : {A : Type 0} (f g : A → List Token → Res A) (n : ℕ) → ((b : A) (r : List Token) → length r ≤ n → f b r ≡ g b r)
    → (s : Res A) → Leaves n s → (s >>= f) ≡ (s >>= g)
next_same f g n same (Ok y) h = same y.0 y.1 h
next_same f g n same (Err e) h = refl

fuel : {A : Type 0} (go : Token → Bool) (step : A → List Token → Res A) → Takes go step
    → (n m : ℕ) (a : A) (ts : List Token) → length ts ≤ n → length ts ≤ m → iterate go step n a ts ≡ iterate go step m a ts
fuel go step takes zero zero a ts h k = refl
fuel go step takes zero (suc m) a [] h k = refl
fuel go step takes zero (suc m) a (x ∷ xs) h k = absurd (omega (arith, h))
fuel go step takes (suc n) zero a [] h k = refl
fuel go step takes (suc n) zero a (x ∷ xs) h k = absurd (omega (arith, k))
fuel go step takes (suc n) (suc m) a [] h k = refl
fuel go step takes (suc n) (suc m) a (x ∷ xs) h k =
    choice_same (go x) (step a (x ∷ xs) >>= iterate go step n) (step a (x ∷ xs) >>= iterate go step m) (Ok (a, x ∷ xs))
    (λ g. next_same (iterate go step n) (iterate go step m) (length xs) (λ b r l. fuel go step takes n m b r (omega (arith, h, l)) (omega (arith, k, l)))
    (step a (x ∷ xs)) (takes a x xs g))

pub loop_done : {A : Type 0} (go : Token → Bool) (step : A → List Token → Res A) (a : A) (ts : List Token)
    → starts go ts ≡ false → loop go step a ts ≡ Ok (a, ts)
unfolding loop
loop_done go step a [] h = refl
loop_done go step a (x ∷ xs) h = cond-false (go x) (step a (x ∷ xs) >>= iterate go step (length xs)) (Ok (a, x ∷ xs)) h

pub loop_more : {A : Type 0} (go : Token → Bool) (step : A → List Token → Res A) → Takes go step → (a : A) (ts : List Token)
    → starts go ts ≡ true → loop go step a ts ≡ (step a ts >>= loop go step)
unfolding loop
loop_more go step takes a [] h = cc
loop_more go step takes a (x ∷ xs) h =
    cond-true (go x) (step a (x ∷ xs) >>= iterate go step (length xs)) (Ok (a, x ∷ xs)) h
    ∙ next_same (iterate go step (length xs)) (loop go step) (length xs) (λ b r l. fuel go step takes (length xs) (length r) b r l (omega arith))
    (step a (x ∷ xs)) (takes a x xs h)

length_is : (xs f r : List Token) (x : Token) → 0 < length f → x ∷ xs ≡ f ++ r → length r ≤ length xs
length_is xs f r x h e = omega (arith, length-append f r, ap length e)

-- a step that is right, and whose part is not empty, takes a token
pub takes_at : {A : Type 0} (p : List Token → Res A) (S : List Token → A → Type 0) (Post : A → List Token → Type 0) (x : Token) (xs : List Token)
    → ((zs : List Token) (b : A) → S zs b → 0 < length zs) → (s : Res A) → RightAt p S Post (x ∷ xs) s → Leaves (length xs) s
takes_at p S Post x xs pos (Ok y) g = length_is xs g.front y.1 x (pos g.front y.0 g.spelled) g.whole
takes_at p S Post x xs pos (Err e) g = tt

-- the law of a loop: S says what a step adds, M what the loop adds; Q is kept by each step
module _ {A : Type 0} (go : Token → Bool) (step : A → List Token → Res A) (S M : A → List Token → A → Type 0) (Q : A → Type 0)
    (law : (a : A) (x : Token) (xs : List Token) → go x ≡ true → Right (step a) (S a) (λ b r. Q a → Q b) (x ∷ xs))
    (pos : (a : A) (zs : List Token) (b : A) → S a zs b → 0 < length zs)
    (nil : (a : A) → M a [] a)
    (cons : (a b c : A) (xs ys : List Token) → S a xs b → M b ys c → M a (xs ++ ys) c) where
  pub loop_takes : Takes go step
  loop_takes a x xs g = takes_at (step a) (S a) (λ b r. Q a → Q b) x xs (pos a) (step a (x ∷ xs)) (law a x xs g).at

  After : A → A → List Token → Type 0
  After a b r = (Q a → Q b) × (starts go r ≡ false)

  Law : A → List Token → Type 0
  Law a ts = Right (loop go step a) (M a) (After a) ts

  stops : (a : A) (ts : List Token) → starts go ts ≡ false → Law a ts
  unfolding Law After
  stops a ts h = right_along (λ w m. loop_done go step a w (starts_meets go ts w m ∙ h)) (right_done (nil a) (λ q. q, h))

  some : (a b : A) → Some_of (λ ys c. (xs : List Token) → S a xs b → M a (xs ++ ys) c)
  some a b = ([], b, λ xs s. cons a b b xs [] s (nil b))

  -- the loop behind a step, which kept Q
  later : (a b : A) (r : List Token) → (Q a → Q b) → Law b r → Right (loop go step b) (λ ys c. (xs : List Token) → S a xs b → M a (xs ++ ys) c) (After a) r
  unfolding Law After
  later a b r q g = right_weaker (λ zs c m. λ xs s. cons a b c xs zs s m) (λ c s k. (λ h. k.0 (q h), k.1)) g

  loop_law : (n : ℕ) (a : A) (ts : List Token) → length ts ≤ n → (b : Bool) → starts go ts ≡ b → Law a ts
  unfolding Law
  loop_law n a ts h false e = stops a ts e
  loop_law n a [] h true e = cc
  loop_law zero a (x ∷ xs) h true e = absurd (omega (arith, h))
  loop_law (suc n) a (x ∷ xs) h true e =
      right_along (λ w m. loop_more go step loop_takes a w (starts_meets go (x ∷ xs) w m ∙ e))
      (right_seq_at (law a x xs e) (some a)
      (λ b r is q. later a b r q (loop_law n b r (let k : Leaves (length xs) (Ok (b, r)) = subst (λ z. Leaves (length xs) z) is (loop_takes a x xs e) in omega (arith, h, k)) (starts go r) refl)))

  pub right_loop : (a : A) (ts : List Token) → Right (loop go step a) (M a) (λ b r. (Q a → Q b) × (starts go r ≡ false)) ts
  unfolding Law After
  right_loop a ts = loop_law (length ts) a ts (omega arith) (starts go ts) refl
