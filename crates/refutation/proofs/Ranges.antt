-- Who waits within a range.
use Rattle.std.proofs.Common.{◌≡◌, ℕ, zero, suc, ◌+◌, ◌<◌, ◌≤◌, Bool, true, false, List, [], ◌∷◌, length, get_or, slice_get, Some, refl, sym, ap, ◌∙◌, arith, inl, inr}
use Rattle.std.proofs.Math.Nat.{eq-or-lt_of_le}
use Rattle.std.proofs.lemmas.Bool.{cases_lt}
use Rattle.std.proofs.lemmas.Option.{slice_get-get_or}
use Rattle.refutation.specs.Waiting.{WaitWithin}

-- what stands at a place that is there and doesn't wait
not_true : (waits : List Bool) (m : ℕ) → m < length waits → (slice_get waits m ≡ Some true → ⊥) → slice_get waits m ≡ Some false
not_true [] m below not = absurd (omega (arith, below))
not_true (true ∷ waits) zero below not = absurd (not refl)
not_true (false ∷ waits) zero below not = refl
not_true (b ∷ waits) (suc m) below not = not_true waits m (omega (arith, below)) not

-- who stands outside of the range doesn't wait
pub before_asleep : (waits : List Bool) (first end : ℕ) → WaitWithin waits first end → (m : ℕ) → m < length waits → m < first → slice_get waits m ≡ Some false
before_asleep waits first end is m below out = not_true waits m below (λ e. omega (arith, (is.each m e).0, out))

pub behind_asleep : (waits : List Bool) (first end : ℕ) → WaitWithin waits first end → (m : ℕ) → m < length waits → end ≤ m → slice_get waits m ≡ Some false
behind_asleep waits first end is m below out = not_true waits m below (λ e. omega (arith, (is.each m e).1, out))

-- one place more that was passed over
pub passed_more : (waits : List Bool) (from k : ℕ) (b : Bool) → k < length waits → b ≡ get_or waits k b → b ≡ false → ((m : ℕ) → from ≤ m → m < k → slice_get waits m ≡ Some false) → (m : ℕ) → from ≤ m → m < k + 1 → slice_get waits m ≡ Some false
passed_more waits from k b below is not passed m after less =
    let within : m ≤ k = omega (arith, less) in
    elim (eq-or-lt_of_le within) as (λ _. slice_get waits m ≡ Some false) [
      | inl same ↦ ap (slice_get waits) same ∙ slice_get-get_or waits k b below ∙ ap Some (sym is ∙ not)
      | inr early ↦ passed m after early
    ]

-- all places were passed over, up to the end of the range and behind it
pub behind_asleep_or : (waits : List Bool) (first end : ℕ) → WaitWithin waits first end → (m from k : ℕ) → m < length waits → end ≤ k → from ≤ m → ((m : ℕ) → from ≤ m → m < k → slice_get waits m ≡ Some false) → slice_get waits m ≡ Some false
behind_asleep_or waits first end is m from k below past after passed = elim (cases_lt m k) as (λ _. slice_get waits m ≡ Some false) [
  | inl early ↦ passed m after early
  | inr late ↦ behind_asleep waits first end is m below (omega (arith, past, late))
]
