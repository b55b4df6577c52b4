-- Walks through a forest that is told by what stands above each node; nothing stands above a root.
use Rattle.std.specs.Prelude.{◌≡◌, ℕ, List, [], ◌∷◌, Option, Some, option_and_then, slice_get}
use Rattle.forest.specs.declared.steps.Step.{Step}
use Rattle.forest.specs.declared.steps.Step.TheVariants.{Down, Up}

-- what stands above a node
abbrev pub above_in : List (Option ℕ) → ℕ → Option ℕ
above_in above n = option_and_then (λ up. up) (slice_get above n)

-- a step begins at this node, or above all roots
abbrev pub BeginsAt : List (Option ℕ) → Option ℕ → Step → Type 0
BeginsAt above at (Down n) = slice_get above n ≡ Some at
BeginsAt above at (Up n) = at ≡ Some n

-- where a step leads to
abbrev pub after : List (Option ℕ) → Step → Option ℕ
after above (Down n) = Some n
after above (Up n) = above_in above n

-- these steps lead on from a node, or from above all roots
abbrev pub Leads : List (Option ℕ) → Option ℕ → List Step → Type 0
Leads above at [] = Unit {0}
Leads above at (step ∷ rest) = BeginsAt above at step × Leads above (after above step) rest
