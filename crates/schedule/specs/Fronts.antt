-- What the text of a schedule may begin with, apart from how it is read.
use Rattle.std.specs.Prelude.{◌≡◌, ℕ, ◌^◌, ◌<◌, ◌==◌, Bool, false, List, [], ◌∷◌, ◌++◌, length, take, drop, if◌then◌else◌}
use Rattle.schedule.specs.Text.{Piece, joined, ArePieces}
use Rattle.schedule.specs.Faults.{writes_number, first_digits}

-- some text of pieces, of whatever number of steps, begins with these bytes
abbrev pub IsFrontOfSchedule : List ℕ → Type 0
IsFrontOfSchedule bytes = (more : List ℕ) × (pieces : List Piece) × (bytes ++ more ≡ joined pieces []) × ArePieces pieces []

-- the last of the bytes is a `*`; where there are none, the first argument says it of the byte before
abbrev pub ends_in_star : Bool → List ℕ → Bool
ends_in_star before [] = before
ends_in_star before (byte ∷ bytes) = ends_in_star (byte == 42) bytes

-- these digits write a number that may stand behind these bytes: a count from 1 on behind a `*`, and else a thread, both without
-- a leading zero
abbrev pub may_stand : List ℕ → List ℕ → Bool
may_stand before digits = if ends_in_star false before then writes_number 1 (2 ^ 64) digits else writes_number 0 (2 ^ 32) digits

-- a digit stands at this byte, and the digits from there on write no number that may stand there: it is out of range or has a
-- leading zero
abbrev pub NoNumber : List ℕ → ℕ → Type 0
NoNumber text place = (0 < length (first_digits (drop place text))) × (may_stand (take place text) (first_digits (drop place text)) ≡ false)
