-- Which methods aren't told, and lists of numbers that differ.
use Rattle.std.proofs.Common.{◌≡◌, ◌⊎◌, ℕ, zero, suc, ◌≤◌, ◌==◌, Bool, true, false, not, List, [], ◌∷◌, ◌++◌, length, slice_get, slice_set, refl, sym, ap, ◌∙◌, arith, inl, inr}
use Rattle.std.specs.Prelude.{unwrap_or}
use Rattle.std.specs.List.{AllByRecursion, IsDistinct}
use Rattle.std.proofs.lemmas.Bool.{ne_eqb, false≢true}
use Rattle.explain.specs.Programs.{marked}

-- ---- which methods aren't told

abbrev pub untold : List Bool → ℕ → Bool
untold told k = not (unwrap_or (slice_get told k) true)

-- how many aren't
abbrev pub left : List Bool → ℕ
left [] = 0
left (true ∷ told) = left told
left (false ∷ told) = suc (left told)

pub left_most : (told : List Bool) → left told ≤ length told
left_most [] = omega arith
left_most (true ∷ told) = let h = left_most told in omega (arith, h)
left_most (false ∷ told) = let h = left_most told in omega (arith, h)

pub left_less : (told : List Bool) (k : ℕ) → untold told k ≡ true → left told ≡ suc (left (slice_set told k true))
left_less [] k is = absurd (false≢true is)
left_less (true ∷ told) zero is = absurd (false≢true is)
left_less (false ∷ told) zero is = refl
left_less (true ∷ told) (suc k) is = left_less told k is
left_less (false ∷ told) (suc k) is = ap suc (left_less told k is)

left_falls : (told : List Bool) (k : ℕ) → left (slice_set told k true) ≤ left told
left_falls [] k = omega arith
left_falls (true ∷ told) zero = omega arith
left_falls (false ∷ told) zero = omega arith
left_falls (true ∷ told) (suc k) = left_falls told k
left_falls (false ∷ told) (suc k) = let h = left_falls told k in omega (arith, h)

pub left_marked : (ks : List ℕ) (told : List Bool) → left (marked told ks) ≤ left told
left_marked [] told = omega arith
left_marked (k ∷ ks) told = let h = left_marked ks (slice_set told k true) in let j = left_falls told k in omega (arith, h, j)

told_now : (told : List Bool) (k : ℕ) → untold (slice_set told k true) k ≡ false
told_now [] k = refl
told_now (t ∷ told) zero = refl
told_now (t ∷ told) (suc k) = told_now told k

pub was_untold : (told : List Bool) (m k : ℕ) → untold (slice_set told m true) k ≡ true → untold told k ≡ true
was_untold [] m k is = is
was_untold (t ∷ told) zero zero is = absurd (false≢true is)
was_untold (t ∷ told) zero (suc k) is = is
was_untold (t ∷ told) (suc m) zero is = is
was_untold (t ∷ told) (suc m) (suc k) is = was_untold told m k is

-- a method that isn't told is the one that is marked, or isn't told then either
pub marked_or : (told : List Bool) (m k : ℕ) → untold told k ≡ true → (m ≡ k) ⊎ (untold (slice_set told m true) k ≡ true)
marked_or [] m k is = inr is
marked_or (t ∷ told) zero zero is = inl refl
marked_or (t ∷ told) zero (suc k) is = inr is
marked_or (t ∷ told) (suc m) zero is = inr is
marked_or (t ∷ told) (suc m) (suc k) is = elim (marked_or told m k is) as (λ _. (suc m ≡ suc k) ⊎ (untold (slice_set told m true) k ≡ true)) [
  | inl same ↦ inl (ap suc same)
  | inr more ↦ inr more
]

pub apart : (told : List Bool) (m k : ℕ) → untold (slice_set told m true) k ≡ true → (m == k) ≡ false
apart told m k is = ne_eqb m k (λ e. false≢true (sym (told_now told m) ∙ ap (untold (slice_set told m true)) e ∙ is))

pub were_untold : (ks : List ℕ) (told : List Bool) (k : ℕ) → untold (marked told ks) k ≡ true → untold told k ≡ true
were_untold [] told k is = is
were_untold (m ∷ ks) told k is = was_untold told m k (were_untold ks (slice_set told m true) k is)

-- a number stands in a list of methods nowhere
abbrev pub Lacks : List ℕ → ℕ → Type 0
Lacks ks k = AllByRecursion (λ m. (m == k) ≡ false) ks

pub lacks_marked : (ks : List ℕ) (told : List Bool) (k : ℕ) → untold (marked told ks) k ≡ true → Lacks ks k
lacks_marked [] told k is = tt
lacks_marked (m ∷ ks) told k is = (apart told m k (were_untold ks (slice_set told m true) k is), lacks_marked ks (slice_set told m true) k is)

-- ---- lists of numbers that differ

abbrev pub Differs : ℕ → List ℕ → Type 0
Differs m ks = AllByRecursion (λ k. (m == k) ≡ false) ks

pub all_append : {X : Type 0} (Q : X → Type 0) (xs ys : List X) → AllByRecursion Q xs → AllByRecursion Q ys → AllByRecursion Q (xs ++ ys)
all_append Q [] ys h k = k
all_append Q (x ∷ xs) ys h k = (h.0, all_append Q xs ys h.1 k)

differs_each : (m : ℕ) (ms ks : List ℕ) → AllByRecursion (λ k. Lacks (m ∷ ms) k) ks → Differs m ks
differs_each m ms [] h = tt
differs_each m ms (k ∷ ks) h = (h.0.0, differs_each m ms ks h.1)

later_lacks : (m : ℕ) (ms ks : List ℕ) → AllByRecursion (λ k. Lacks (m ∷ ms) k) ks → AllByRecursion (λ k. Lacks ms k) ks
later_lacks m ms [] h = tt
later_lacks m ms (k ∷ ks) h = (h.0.1, later_lacks m ms ks h.1)

pub distinct_append : (ms ks : List ℕ) → IsDistinct (λ m k. m == k) ms → IsDistinct (λ m k. m == k) ks → AllByRecursion (λ k. Lacks ms k) ks → IsDistinct (λ m k. m == k) (ms ++ ks)
unfolding IsDistinct
distinct_append [] ks d e h = e
distinct_append (m ∷ ms) ks d e h = (all_append (λ (k : ℕ). (m == k) ≡ false) ms ks d.0 (differs_each m ms ks h), distinct_append ms ks d.1 e (later_lacks m ms ks h))
