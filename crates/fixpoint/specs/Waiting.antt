-- Cells that wait to be asked, and what is noted of them when a cell rises.
use Rattle.std.specs.Prelude.{◌≡◌, ◌⊎◌, ℕ, ◌<◌, Bool, true, false, IsTrue, List, [], ◌∷◌, length, Contains, Some, slice_get}
use Rattle.fixpoint.specs.Assignments.{CellNumbers}

-- cells were noted: each of these waits, and no other one does that didn't wait before; a cell that waits did so before,
-- or is listed; what was listed is listed still, and nothing else is than cells that are there
pub record IsNoted (these : ℕ → Type 0) (waits now : List Bool) (listed longer : List ℕ) : Type 0 where
  pub size : length now ≡ length waits
  pub all : (cell : ℕ) → cell < length waits → these cell → slice_get now cell ≡ Some true
  pub still : (cell : ℕ) → slice_get waits cell ≡ Some true → slice_get now cell ≡ Some true
  pub found : (cell : ℕ) → slice_get now cell ≡ Some true → (slice_get waits cell ≡ Some true) ⊎ Contains longer cell
  pub kept : (cell : ℕ) → Contains listed cell → Contains longer cell
  pub within : (cell : ℕ) → Contains longer cell → Contains listed cell ⊎ (cell < length waits)

-- the cells that wait are listed; each that doesn't wait has its demand met, and nothing is listed that is no cell
pub record AreWaiting (met : CellNumbers → ℕ → Bool) (x : CellNumbers) (waits : List Bool) (listed : List ℕ) : Type 0 where
  pub size : length waits ≡ length x
  pub quiet : (cell : ℕ) → slice_get waits cell ≡ Some false → IsTrue (met x cell)
  pub found : (cell : ℕ) → slice_get waits cell ≡ Some true → Contains listed cell
  pub within : (cell : ℕ) → Contains listed cell → cell < length x

-- 1 where a list has an item, else 0
abbrev pub more : List ℕ → ℕ
more [] = 0
more (cell ∷ cells) = 1
