-- Values of classes that are put one after the other, each class after the one above it.
use Rattle.std.proofs.Common.{◌≡◌, ◌<◌, ◌≤◌, ◌+◌, ◌==◌, ◌⊎◌, inl, inr, ℕ, zero, suc, Bool, true, false, List, [], ◌∷◌, length, take, get_or, Option, Some, None, refl, sym, ap, subst, ◌∙◌, arith, slice_get, slice_set, option_map}
use Rattle.std.proofs.lemmas.List.{length-set, take_all}
use Rattle.std.proofs.lemmas.Bool.{eqb-true, eq-eqb}
use Rattle.std.proofs.lemmas.Option.{none-some, same_Some}
use Rattle.typing.specs.Order.{stands_in, IsFromAbove}
use Rattle.base.proofs.Lists.{next_take, set_other, set_here}
use Rattle.typing.proofs.Ordering.{stands_before, after_at}

module _ {X V : Type 0} (view : X → V) (value : ℕ → Option V) where
  -- the values of the classes of a list are known
  pub record AreKnown (count : ℕ) (seen : List ℕ) (known : List X) : Type 0 where
    pub long : length known ≡ count
    pub there : (c : ℕ) → stands_in seen c ≡ true → option_map view (slice_get known c) ≡ value c

  pub none_known : (count : ℕ) (known : List X) → length known ≡ count → AreKnown count [] known
  none_known count known long = record { long = long; there = λ c h. absurd (let e : false ≡ true = h in cc) }

  -- one more
  pub one_known : (count : ℕ) (order : List ℕ) (i c : ℕ) (known more : List X) (x : X) → i < length order → c ≡ get_or order i c → c < count
      → Some (view x) ≡ value c → more ≡ slice_set known c x → AreKnown count (take i order) known → AreKnown count (take (i + 1) order) more
  one_known count order i c known more x within at low is more_is h = record {
    long = ap length more_is ∙ length-set known c x ∙ h.long;
    there = λ d stands. by_before d (stands_before (take i order) c d (sym (ap (λ z. stands_in z d) (next_take order i c within at)) ∙ stands));
  }
    where
      here : option_map view (slice_get more c) ≡ value c
      here = let long = h.long in ap (option_map view) (ap (λ z. slice_get z c) more_is ∙ set_here known c x (omega (arith, low, long))) ∙ is

      by_test : (d : ℕ) (b : Bool) → (d == c) ≡ b → stands_in (take i order) d ≡ true → option_map view (slice_get more d) ≡ value d
      by_test d true same before = ap (λ z. option_map view (slice_get more z)) (eqb-true d c same) ∙ here ∙ ap value (sym (eqb-true d c same))
      by_test d false other before =
          ap (option_map view) (ap (λ z. slice_get z d) more_is ∙ set_other known c d x (λ same. let e : true ≡ false = sym (eq-eqb d c same) ∙ other in cc)) ∙ h.there d before

      by_before : (d : ℕ) → (stands_in (take i order) d ≡ true) ⊎ (c ≡ d) → option_map view (slice_get more d) ≡ value d
      by_before d (inl before) = by_test d (d == c) refl before
      by_before d (inr same) = subst (λ z. option_map view (slice_get more z) ≡ value z) same here

  -- what is known of the class above
  pub known_above : (above : ℕ → Option ℕ) (count : ℕ) (order : List ℕ) (i c d : ℕ) (known : List X) → IsFromAbove above count order → i < length order → c ≡ get_or order i c
      → AreKnown count (take i order) known → above c ≡ Some d → option_map view (slice_get known d) ≡ value d
  known_above above count order i c d known from within at h is = h.there d (after_at above [] order i c d from.after within at is)

  -- all are known
  pub all_known : (above : ℕ → Option ℕ) (count : ℕ) (order : List ℕ) (i : ℕ) (known : List X) → IsFromAbove above count order → length order ≤ i
      → AreKnown count (take i order) known → (c : ℕ) → c < count → option_map view (slice_get known c) ≡ value c
  all_known above count order i known from enough h c low = h.there c (ap (λ z. stands_in z c) (take_all i order enough) ∙ from.all c low)

-- a value that is seen as it is
pub plain_known : {X : Type 0} (o : Option X) (x : X) → option_map (λ x. x) o ≡ Some x → o ≡ Some x
plain_known None x h = h
plain_known (Some y) x h = h

-- a value that is known where one stands in another list is there
pub known_below : {X A V : Type 0} (view : X → V) (f : A → V) (known : List X) (xs : List A) (d : ℕ) → d < length xs → option_map view (slice_get known d) ≡ option_map f (slice_get xs d) → d < length known
known_below view f known [] d low h = absurd (omega (arith, low))
known_below view f [] (y ∷ ys) zero low h = absurd (none-some (f y) h)
known_below view f [] (y ∷ ys) (suc d) low h = absurd (let there = known_below view f [] ys d (omega (arith, low)) h in omega (arith, there))
known_below view f (x ∷ known) (y ∷ ys) zero low h = omega arith
known_below view f (x ∷ known) (y ∷ ys) (suc d) low h = let later = known_below view f known ys d (omega (arith, low)) h in omega (arith, later)

-- two lists that are as long and have the same at each place
pub same_lists : {A : Type 0} (xs ys : List A) → length xs ≡ length ys → ((i : ℕ) → i < length ys → slice_get xs i ≡ slice_get ys i) → xs ≡ ys
same_lists [] [] long h = refl
same_lists [] (y ∷ ys) long h = absurd (omega (arith, long))
same_lists (x ∷ xs) [] long h = absurd (omega (arith, long))
same_lists (x ∷ xs) (y ∷ ys) long h =
    ap (λ z. z ∷ xs) (same_Some x y (h 0 (omega arith))) ∙ ap (λ z. y ∷ z) (same_lists xs ys (omega (arith, long)) (λ i low. h (suc i) (omega (arith, low))))
