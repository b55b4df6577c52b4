-- The order of assignments.
use Rattle.std.proofs.Common.{◌≡◌, ℕ, Bool, true, false, IsTrue, List, [], ◌∷◌, length, suc, not, refl, ap, arith}
use Rattle.fixpoint.specs.Assignments.{CellNumbers, AreAtLeast, IsAbove, IsBetween}

AreAtLeast-refl : (row : List ℕ) → AreAtLeast row row
AreAtLeast-refl [] = tt
AreAtLeast-refl (number ∷ numbers) = (omega arith, AreAtLeast-refl numbers)

AreAtLeast-trans : (high row low : List ℕ) → AreAtLeast high row → AreAtLeast row low → AreAtLeast high low
AreAtLeast-trans [] [] [] up down = tt
AreAtLeast-trans [] [] (c ∷ low) up down = absurd down
AreAtLeast-trans [] (b ∷ row) low up down = absurd up
AreAtLeast-trans (a ∷ high) [] low up down = absurd up
AreAtLeast-trans (a ∷ high) (b ∷ row) [] up down = absurd down
AreAtLeast-trans (a ∷ high) (b ∷ row) (c ∷ low) up down = (omega (arith, up.0, down.0), AreAtLeast-trans high row low up.1 down.1)

-- an assignment lies above itself
pub IsAbove-refl : (x : CellNumbers) → IsAbove x x
IsAbove-refl [] = tt
IsAbove-refl (row ∷ rows) = (AreAtLeast-refl row, IsAbove-refl rows)

pub IsAbove-trans : (high x low : CellNumbers) → IsAbove high x → IsAbove x low → IsAbove high low
IsAbove-trans [] [] [] up down = tt
IsAbove-trans [] [] (c ∷ low) up down = absurd down
IsAbove-trans [] (b ∷ x) low up down = absurd up
IsAbove-trans (a ∷ high) [] low up down = absurd up
IsAbove-trans (a ∷ high) (b ∷ x) [] up down = absurd down
IsAbove-trans (a ∷ high) (b ∷ x) (c ∷ low) up down = (AreAtLeast-trans a b c up.0 down.0, IsAbove-trans high x low up.1 down.1)

-- both have as many cells
pub length-above : (high x : CellNumbers) → IsAbove high x → length high ≡ length x
length-above [] [] up = refl
length-above [] (b ∷ x) up = absurd up
length-above (a ∷ high) [] up = absurd up
length-above (a ∷ high) (b ∷ x) up = ap suc (length-above high x up.1)

-- where it begins
pub between_none : (met : CellNumbers → ℕ → Bool) (start : CellNumbers) → IsBetween met start start
between_none met start = record { above = IsAbove-refl start; below = λ y closed above. above }

-- an answer that nothing was raised
pub met_now : (b : Bool) → false ≡ not b → IsTrue b
met_now true e = refl
met_now false e = absurd (cc)
