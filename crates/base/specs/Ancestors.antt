-- Ancestors: what stands above a number, what stands above that, and so on.
use Rattle.std.specs.Prelude.{◌≡◌, ◌<◌, ℕ, zero, suc, Bool, false, ◌==◌, ◌||◌, Option, Some, None}
use Rattle.std.specs.Option.{option_and_then, is_some}

-- what is above a number stands below this count
abbrev pub AreBelow : (ℕ → Option ℕ) → ℕ → Type 0
AreBelow above count = (c d : ℕ) → above c ≡ Some d → d < count

-- where so many steps up from a number lead
abbrev pub steps_up : (ℕ → Option ℕ) → ℕ → ℕ → Option ℕ
steps_up above zero c = Some c
steps_up above (suc n) c = option_and_then (λ d. steps_up above n d) (above c)

-- one step up or more lead from the first number to the second
abbrev pub IsAncestor : (ℕ → Option ℕ) → ℕ → ℕ → Type 0
IsAncestor above c d = (n : ℕ) × (steps_up above (suc n) c ≡ Some d)

-- the number, or an ancestor of it, is its own ancestor
abbrev pub IsCircular : (ℕ → Option ℕ) → ℕ → Type 0
IsCircular above c = (n : ℕ) × (d : ℕ) × (steps_up above n c ≡ Some d) × IsAncestor above d d

-- the test for that: so many steps lead somewhere
abbrev pub is_circular : (ℕ → Option ℕ) → ℕ → ℕ → Bool
is_circular above count c = is_some (steps_up above count c)

-- whether at most so many steps up from a number, if there is one, lead to another
abbrev pub reaches : (ℕ → Option ℕ) → ℕ → Option ℕ → ℕ → Bool
reaches above n None d = false
reaches above zero (Some c) d = c == d
reaches above (suc n) (Some c) d = (c == d) || reaches above n (above c) d
