-- Assignments of numbers to cells, and the least one at which each cell's demand is met.
use Rattle.std.specs.Prelude.{ℕ, ◌<◌, ◌≤◌, Bool, IsTrue, List, [], ◌∷◌, length}

-- a list of numbers for each cell
abbrev pub CellNumbers : Type 0
CellNumbers = List (List ℕ)

-- one length, and no number is smaller than the other list's at its place
abbrev pub AreAtLeast : List ℕ → List ℕ → Type 0
AreAtLeast [] [] = Unit {0}
AreAtLeast [] (low ∷ lows) = ⊥
AreAtLeast (number ∷ numbers) [] = ⊥
AreAtLeast (number ∷ numbers) (low ∷ lows) = (low ≤ number) × AreAtLeast numbers lows

-- an assignment lies above another: the same lengths, and no number is smaller
abbrev pub IsAbove : CellNumbers → CellNumbers → Type 0
IsAbove [] [] = Unit {0}
IsAbove [] (low ∷ lows) = ⊥
IsAbove (row ∷ rows) [] = ⊥
IsAbove (row ∷ rows) (low ∷ lows) = AreAtLeast row low × IsAbove rows lows

-- the demand of every cell is met
abbrev pub AreAllMet : (CellNumbers → ℕ → Bool) → CellNumbers → Type 0
AreAllMet met x = (cell : ℕ) → cell < length x → IsTrue (met x cell)

-- an assignment lies above the start, and below every closed one above the start
pub record IsBetween (met : CellNumbers → ℕ → Bool) (start x : CellNumbers) : Type 0 where
  pub above : IsAbove x start
  pub below : (y : CellNumbers) → AreAllMet met y → IsAbove y start → IsAbove y x
