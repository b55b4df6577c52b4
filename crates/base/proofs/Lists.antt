-- Lists, one after the other, and from a place on.
use Rattle.std.proofs.Common.{◌≡◌, ℕ, zero, suc, ◌+◌, ◌<◌, List, [], ◌∷◌, ◌++◌, length, take, drop, get_or, Some, Contains, Bool, true, refl, sym, ap, subst, ◌∙◌, ◌⊎◌, inl, inr, arith, ◌≢◌}
use Rattle.std.specs.Prelude.{slice_get, slice_set}
use Rattle.std.proofs.lemmas.List.{drop_more, take_more}
use Rattle.std.proofs.lemmas.Option.{slice_get_within, get_or_from_slice_get}
use Rattle.std.specs.List.{list_all}
use Rattle.std.proofs.lemmas.Bool.{and_parts}

-- a place of the first list
pub get_left : {A : Type 0} (xs ys : List A) (k : ℕ) → k < length xs → slice_get (xs ++ ys) k ≡ slice_get xs k
get_left [] ys k below = absurd (omega arith)
get_left (x ∷ xs) ys zero below = refl
get_left (x ∷ xs) ys (suc k) below = get_left xs ys k (omega arith)

-- what stands in the first list stands there in both
pub at_left : {A : Type 0} (xs ys : List A) (k : ℕ) (x : A) → slice_get xs k ≡ Some x → slice_get (xs ++ ys) k ≡ Some x
at_left xs ys k x is = get_left xs ys k (slice_get_within xs k x is) ∙ is

-- a place of the second list
pub get_right : {A : Type 0} (xs ys : List A) (k : ℕ) → slice_get (xs ++ ys) (length xs + k) ≡ slice_get ys k
get_right {A = A} [] ys k = let e : length {A = A} [] + k ≡ k = omega arith in ap (slice_get ys) e
get_right (x ∷ xs) ys k = let e : suc (length xs) + k ≡ suc (length xs + k) = omega arith in ap (slice_get (x ∷ (xs ++ ys))) e ∙ get_right xs ys k

-- a place of both is one of the first list or one of the second
pub at_either : {A : Type 0} (xs ys : List A) (k : ℕ) (x : A) → slice_get (xs ++ ys) k ≡ Some x
    → (slice_get xs k ≡ Some x) ⊎ ((j : ℕ) × (k ≡ length xs + j) × (slice_get ys j ≡ Some x))
at_either [] ys k x e = inr (k, omega arith, e)
at_either (z ∷ xs) ys zero x e = inl e
at_either (z ∷ xs) ys (suc k) x e = elim (at_either xs ys k x e) [ inl h ↦ inl h | inr h ↦ inr (h.0, omega (arith, h.1), h.2) ]

-- the last of a list
pub get_last : {A : Type 0} (xs : List A) (x : A) → slice_get (xs ++ (x ∷ [])) (length xs) ≡ Some x
get_last [] x = refl
get_last (y ∷ xs) x = get_last xs x

-- an item at a place within
pub get_below : {A : Type 0} (xs : List A) (k : ℕ) → k < length xs → (x : A) × (slice_get xs k ≡ Some x)
get_below [] k below = absurd (omega arith)
get_below (x ∷ xs) zero below = (x, refl)
get_below (x ∷ xs) (suc k) below = get_below xs k (omega arith)

-- the item at a place, and those after it
pub next_drop : {A : Type 0} (xs : List A) (k : ℕ) (x : A) → k < length xs → x ≡ get_or xs k x → drop k xs ≡ x ∷ drop (k + 1) xs
next_drop xs k x below is = drop_more xs k x below ∙ ap (λ y. y ∷ drop (k + 1) xs) (sym is)

-- the items before a place, and the one there
pub next_take : {A : Type 0} (xs : List A) (k : ℕ) (x : A) → k < length xs → x ≡ get_or xs k x → take (k + 1) xs ≡ take k xs ++ x ∷ []
next_take xs k x below is = take_more xs k x below ∙ ap (λ y. take k xs ++ y ∷ []) (sym is)

pub take_at : {A : Type 0} (xs : List A) (k : ℕ) (x : A) → slice_get xs k ≡ Some x → take (k + 1) xs ≡ take k xs ++ x ∷ []
take_at xs k x is = next_take xs k x (slice_get_within xs k x is) (sym (get_or_from_slice_get xs k x x is))

-- the item that was set, and the others
pub set_here : {A : Type 0} (xs : List A) (m : ℕ) (x : A) → m < length xs → slice_get (slice_set xs m x) m ≡ Some x
set_here [] m x below = absurd (omega arith)
set_here (y ∷ xs) zero x below = refl
set_here (y ∷ xs) (suc m) x below = set_here xs m x (omega arith)

pub set_other : {A : Type 0} (xs : List A) (i j : ℕ) (x : A) → j ≢ i → slice_get (slice_set xs i x) j ≡ slice_get xs j
set_other [] i j x other = refl
set_other (y ∷ ys) zero zero x other = absurd (other refl)
set_other (y ∷ ys) zero (suc j) x other = refl
set_other (y ∷ ys) (suc i) zero x other = refl
set_other (y ∷ ys) (suc i) (suc j) x other = set_other ys i j x (λ e. other (ap suc e))

-- what a list contains is its first item or one of the others
pub contains_cases : {A : Type 0} (x y : A) (xs : List A) → Contains (x ∷ xs) y → (x ≡ y) ⊎ Contains xs y
contains_cases x y xs (zero, below, is) = inl is
contains_cases x y xs (suc k, below, is) = inr (k, omega arith, is)

pub contains_later : {A : Type 0} (x y : A) (xs : List A) → Contains xs y → Contains (x ∷ xs) y
contains_later x y xs (k, below, is) = (suc k, omega arith, is)

-- a test that all items pass
pub all_at : {A : Type 0} (f : A → Bool) (xs : List A) → list_all f xs ≡ true → (x : A) → Contains xs x → f x ≡ true
all_at f [] all x (k, below, is) = absurd (omega arith)
all_at f (y ∷ ys) all x has = elim (contains_cases y x ys has) as (λ _. f x ≡ true) [
  | inl e ↦ subst (λ z. f z ≡ true) e (and_parts (f y) (list_all f ys) all).0
  | inr later ↦ all_at f ys (and_parts (f y) (list_all f ys) all).1 x later
]
