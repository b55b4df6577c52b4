-- The methods that override others, by those that they override.
use Rattle.std.specs.Prelude.{◌≡◌, ◌↔◌, ◌⊎◌, ℕ, ◌<◌, ◌==◌, List, [], ◌∷◌, ◌++◌, if◌then◌else◌, Contains}
use Rattle.core_program.specs.Core.{Program}
use Rattle.core_program.specs.Dispatch.{Overrides}
use Rattle.rules.specs.Search.{row_at}

-- the row of each method has exactly the methods that override it
abbrev pub AreOverriders : Program → List (List ℕ) → Type 0
AreOverriders P rows = (m over : ℕ) → Contains (row_at rows m) over ↔ Overrides P over m

-- a method is added to the rows of those for which this holds
abbrev pub IsAddedTo : (ℕ → Type 0) → ℕ → List (List ℕ) → List (List ℕ) → Type 0
IsAddedTo Holds over rows more = (m n : ℕ) → Contains (row_at more m) n ↔ (Contains (row_at rows m) n ⊎ ((n ≡ over) × Holds m))

-- of the first methods, so many, each stands in the rows of those for which this holds of it
abbrev pub HaveFirst : (ℕ → ℕ → Type 0) → List (List ℕ) → ℕ → Type 0
HaveFirst Holds rows count = (m over : ℕ) → Contains (row_at rows m) over ↔ ((over < count) × Holds over m)

-- what a row gets, where a method is added to the rows of these
abbrev pub told_each : ℕ → List ℕ → ℕ → List ℕ
told_each over [] m = []
told_each over (x ∷ xs) m = (if m == x then over ∷ [] else []) ++ told_each over xs m
