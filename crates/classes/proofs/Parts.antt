-- Lists of parts: what holds of each, and which part has a number.
use Rattle.std.proofs.Common.{◌≡◌, ℕ, zero, suc, List, [], ◌∷◌, ◌++◌, map, Some, None, refl, ap, ◌∙◌, subst, slice_get, option_map}
use Rattle.std.proofs.lemmas.Option.{slice_get-map, same_Some}

abbrev pub Each : {A : Type 0} → (A → Type 0) → List A → Type 0
Each P [] = Unit {0}
Each P (x ∷ xs) = P x × Each P xs

pub each_both : {A : Type 0} (P : A → Type 0) (xs ys : List A) → Each P xs → Each P ys → Each P (xs ++ ys)
each_both P [] ys a b = b
each_both P (x ∷ xs) ys a b = (a.0, each_both P xs ys a.1 b)

pub nothing_at : {A : Type 0} (i : ℕ) (x : A) → slice_get [] i ≡ Some x → ⊥
nothing_at i x e = let d : None ≡ Some x = e in cc

pub mapped_at : {A B : Type 0} (f : A → B) (xs : List A) (i : ℕ) (x : A) → slice_get xs i ≡ Some x → slice_get (map f xs) i ≡ Some (f x)
mapped_at f xs i x e = slice_get-map f xs i ∙ ap (option_map f) e

pub each_at : {A : Type 0} (P : A → Type 0) (xs : List A) (i : ℕ) (x : A) → Each P xs → slice_get xs i ≡ Some x → P x
each_at P [] i x a e = absurd (nothing_at i x e)
each_at P (y ∷ ys) zero x a e = subst P (same_Some y x e) a.0
each_at P (y ∷ ys) (suc i) x a e = each_at P ys i x a.1 e

pub before_mapped : {A B : Type 0} (f : A → B) (xs : List A) (i : ℕ) (y : B) → slice_get (map f xs) i ≡ Some y → (x : A) × (slice_get xs i ≡ Some x) × (f x ≡ y)
before_mapped f [] i y e = absurd (nothing_at i y e)
before_mapped f (x ∷ xs) zero y e = (x, refl, same_Some (f x) y e)
before_mapped f (x ∷ xs) (suc i) y e = before_mapped f xs i y e
