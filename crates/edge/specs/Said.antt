-- A text that a program writes with a status.
use Rattle.std.specs.Prelude.{◌≡◌, ℕ, List, Option, ◌⊎◌}
use Rattle.std.specs.Io.KnownBytes.{Appends}
use Rattle.edge.specs.Faults.{Rose}
use Rattle.edge.specs.Pieces.{AppendsFront}

-- the whole text was written, with its status; or a front of it, and the sink's count of faults rose or stands at its last value
abbrev pub SaysText : ℕ → ℕ → List ℕ → Option (List ℕ) → Option (List ℕ) → ℕ → ℕ → Type 0
SaysText result status text old new before now = ((result ≡ status) × Appends old new text) ⊎ ((result ≡ 7) × AppendsFront old new text × Rose before now)

-- the answers that come before a status, or in its place: a file that can't be read, a sink that fails, want of memory
abbrev pub IsTroubleStatus : ℕ → Type 0
IsTroubleStatus status = (status ≡ 6) ⊎ ((status ≡ 7) ⊎ (status ≡ 8))

-- the status comes exactly where the fact holds, but for those answers
pub record Exactly (result status : ℕ) (fact : Type 0) : Type 0 where
  pub only : result ≡ status → fact
  pub all : fact → (result ≡ status) ⊎ IsTroubleStatus result
