-- Insertions by a key.
use Rattle.std.proofs.Common.{◌≡◌, ◌≢◌, ℕ, ◌<◌, ◌≤◌, Bool, true, false, List, [], ◌∷◌, ◌++◌, refl, sym, ap, ◌∙◌, arith}
use Rattle.std.specs.Prelude.{nat_le, nat_lt, if◌then◌else◌}
use Rattle.std.proofs.lemmas.Bool.Decides.{nat_tests}
use Rattle.std.proofs.lemmas.Bool.{le-leb, lt-leb, leb-true, ltb-true}
use Rattle.semantics.specs.Units.{Entry}
use Rattle.semantics.specs.Sorted.{put_by, sort_by}

-- each element is so
abbrev pub Each : {A : Type 0} → (A → Type 0) → List A → Type 0
Each Q [] = Unit {0}
Each Q (x ∷ xs) = Q x × Each Q xs

pub each_more : {A : Type 0} (Q R : A → Type 0) → ((x : A) → Q x → R x) → (xs : List A) → Each Q xs → Each R xs
each_more Q R more [] h = tt
each_more Q R more (x ∷ xs) h = (more x h.0, each_more Q R more xs h.1)

pub each_left : {A : Type 0} (Q : A → Type 0) (xs ys : List A) → Each Q (xs ++ ys) → Each Q xs
each_left Q [] ys h = tt
each_left Q (x ∷ xs) ys h = (h.0, each_left Q xs ys h.1)

pub each_right : {A : Type 0} (Q : A → Type 0) (xs ys : List A) → Each Q (xs ++ ys) → Each Q ys
each_right Q [] ys h = h
each_right Q (x ∷ xs) ys h = each_right Q xs ys h.1

pub each_both : {A : Type 0} (Q : A → Type 0) (xs ys : List A) → Each Q xs → Each Q ys → Each Q (xs ++ ys)
each_both Q [] ys g h = h
each_both Q (x ∷ xs) ys g h = (g.0, each_both Q xs ys g.1 h)

not_less : (m n : ℕ) → m ≢ n → nat_lt m n ≡ false → n < m
not_less m n other e = grind (arith, nat_tests)

module _ (key : Entry → ℕ) where
  pub put_first : (x y : Entry) (ys : List Entry) → nat_le (key x) (key y) ≡ true → put_by key x (y ∷ ys) ≡ x ∷ y ∷ ys
  put_first x y ys e = ap (λ (b : Bool). if b then x ∷ y ∷ ys else y ∷ put_by key x ys) e

  pub put_later : (x y : Entry) (ys : List Entry) → nat_le (key x) (key y) ≡ false → put_by key x (y ∷ ys) ≡ y ∷ put_by key x ys
  put_later x y ys e = ap (λ (b : Bool). if b then x ∷ y ∷ ys else y ∷ put_by key x ys) e

  -- insertions of different keys change places
  swap_less : (x y : Entry) → key x < key y → (l : List Entry) → put_by key x (put_by key y l) ≡ put_by key y (put_by key x l)
  swap_less x y less [] = put_first x y [] (le-leb (key x) (key y) (omega (arith, less))) ∙ sym (put_later y x [] (lt-leb (key y) (key x) less))
  swap_less x y less (z ∷ l) = by (nat_le (key y) (key z)) refl (nat_le (key x) (key z)) refl (swap_less x y less l)
    where
      y_later : nat_le (key y) (key x) ≡ false
      y_later = lt-leb (key y) (key x) less

      chain : (a b c : ℕ) → a < b → b ≤ c → a ≤ c
      chain a b c h k = omega (arith, h, k)

      by : (p : Bool) → nat_le (key y) (key z) ≡ p → (r : Bool) → nat_le (key x) (key z) ≡ r → put_by key x (put_by key y l) ≡ put_by key y (put_by key x l)
          → put_by key x (put_by key y (z ∷ l)) ≡ put_by key y (put_by key x (z ∷ l))
      by true ep r er rest =
          let ex = le-leb (key x) (key z) (chain (key x) (key y) (key z) less (leb-true (key y) (key z) ep)) in
          ap (put_by key x) (put_first y z l ep) ∙ put_first x y (z ∷ l) (le-leb (key x) (key y) (chain (key x) (key y) (key y) less (omega arith)))
          ∙ sym (ap (put_by key y) (put_first x z l ex) ∙ put_later y x (z ∷ l) y_later ∙ ap (λ m. x ∷ m) (put_first y z l ep))
      by false ep true er rest =
          ap (put_by key x) (put_later y z l ep) ∙ put_first x z (put_by key y l) er
          ∙ sym (ap (put_by key y) (put_first x z l er) ∙ put_later y x (z ∷ l) y_later ∙ ap (λ m. x ∷ m) (put_later y z l ep))
      by false ep false er rest =
          ap (put_by key x) (put_later y z l ep) ∙ put_later x z (put_by key y l) er ∙ ap (λ m. z ∷ m) rest
          ∙ sym (ap (put_by key y) (put_later x z l er) ∙ put_later y z (put_by key x l) ep)

  by_order : (x y : Entry) (l : List Entry) → key x ≢ key y → (b : Bool) → nat_lt (key x) (key y) ≡ b → put_by key x (put_by key y l) ≡ put_by key y (put_by key x l)
  by_order x y l other true e = swap_less x y (ltb-true (key x) (key y) e) l
  by_order x y l other false e = sym (swap_less y x (not_less (key x) (key y) other e) l)

  pub put_swap : (x y : Entry) → key x ≢ key y → (l : List Entry) → put_by key x (put_by key y l) ≡ put_by key y (put_by key x l)
  put_swap x y other l = by_order x y l other (nat_lt (key x) (key y)) refl

  -- the entries of a list put in, the last one first
  abbrev pub puts : List Entry → List Entry → List Entry
  puts [] l = l
  puts (x ∷ xs) l = put_by key x (puts xs l)

  pub sort_append : (xs ys : List Entry) → sort_by key (xs ++ ys) ≡ puts xs (sort_by key ys)
  sort_append [] ys = refl
  sort_append (x ∷ xs) ys = ap (put_by key x) (sort_append xs ys)

  pub puts_swap : (xs : List Entry) (e : Entry) (l : List Entry) → Each (λ x. key x ≢ key e) xs → puts xs (put_by key e l) ≡ put_by key e (puts xs l)
  puts_swap [] e l h = refl
  puts_swap (x ∷ xs) e l h = ap (put_by key x) (puts_swap xs e l h.1) ∙ put_swap x e h.0 (puts xs l)

  -- a list whose first key is at least this
  abbrev pub Low : ℕ → List Entry → Type 0
  Low c [] = Unit {0}
  Low c (y ∷ ys) = c ≤ key y

  put_low : (x : Entry) (l : List Entry) → Low (key x) l → put_by key x l ≡ x ∷ l
  put_low x [] low = refl
  put_low x (y ∷ ys) low = put_first x y ys (le-leb (key x) (key y) low)

  low_append : (c : ℕ) (u l : List Entry) → Each (λ e. key e ≡ c) u → Low c l → Low c (u ++ l)
  low_append c [] l h low = low
  low_append c (e ∷ u) l h low = same_low (key e) c h.0
    where
      same_low : (k c : ℕ) → k ≡ c → c ≤ k
      same_low k c e = omega (arith, e)

  pub puts_low : (c : ℕ) (u l : List Entry) → Each (λ e. key e ≡ c) u → Low c l → puts u l ≡ u ++ l
  puts_low c [] l h low = refl
  puts_low c (x ∷ u) l h low = ap (put_by key x) (puts_low c u l h.1 low) ∙ put_low x (u ++ l) (Rattle.std.proofs.Common.subst (λ k. Low k (u ++ l)) (sym h.0) (low_append c u l h.1 low))

  put_over : (x : Entry) (d : ℕ) (v l : List Entry) → Each (λ e. key e ≡ d) v → d < key x → put_by key x (v ++ l) ≡ v ++ put_by key x l
  put_over x d [] l h less = refl
  put_over x d (e ∷ v) l h less = put_later x e (v ++ l) (lt-leb (key x) (key e) (lower (key e) d (key x) h.0 less)) ∙ ap (λ m. e ∷ m) (put_over x d v l h.1 less)
    where
      lower : (k d c : ℕ) → k ≡ d → d < c → k < c
      lower k d c e less = omega (arith, e, less)

  pub puts_over : (c d : ℕ) (u v l : List Entry) → Each (λ e. key e ≡ c) u → Each (λ e. key e ≡ d) v → d < c → puts u (v ++ l) ≡ v ++ puts u l
  puts_over c d [] v l hu hv less = refl
  puts_over c d (x ∷ u) v l hu hv less = ap (put_by key x) (puts_over c d u v l hu.1 hv less) ∙ put_over x d v (puts u l) hv (higher (key x) c d hu.0 less)
    where
      higher : (k c d : ℕ) → k ≡ c → d < c → d < k
      higher k c d e less = omega (arith, e, less)
