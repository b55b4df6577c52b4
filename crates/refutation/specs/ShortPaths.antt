-- Paths in little memory.
use Rattle.std.specs.Prelude.{ℕ, zero, suc, List, [], ◌∷◌}

-- the fields of a path that has so many, at most two: the first of these, and the second behind it
abbrev pub short_fields : (count first second : ℕ) → List ℕ
short_fields zero first second = []
short_fields (suc zero) first second = first ∷ []
short_fields (suc (suc n)) first second = first ∷ second ∷ []
