-- What was read of a file.
use Rattle.std.specs.Prelude.{◌≡◌, ℕ, ◌<◌, ◌≤◌, List, Option, length, ◌++◌, IfSome}
use Rattle.edge.specs.Faults.{Rose}
use Rattle.logs.specs.Logs.{Guard}
use Rattle.log_reading.specs.declared.reading.ReadEnd.{ReadEnd}
use Rattle.log_reading.specs.declared.reading.ReadEnd.TheVariants as ends
use Rattle.logs.specs.Stops.{IsEnd}
use Rattle.logs.specs.Walks.{Stand, WalkedTo, Stands, walked, front}

-- so many bytes were read, and led here; where the file is told, they are its first
pub record HasReadSoFar (guard : ℕ → Guard) (told : Option (List ℕ)) (at : ℕ) (stand : Stand) : Type 0 where
  pub bytes : List ℕ
  pub long : length bytes ≡ at
  pub leads : walked guard front bytes ≡ Stands stand
  pub fronts : IfSome told (λ file. (rest : List ℕ) × (file ≡ bytes ++ rest))

-- a file was read whole, which has so many bytes, and led here
pub record HasReadWhole (guard : ℕ → Guard) (told : Option (List ℕ)) (limit many : ℕ) (stand : Stand) : Type 0 where
  pub bytes : List ℕ
  pub long : length bytes ≡ many
  pub within : many ≤ limit
  pub leads : walked guard front bytes ≡ Stands stand
  pub its : IfSome told (λ file. file ≡ bytes)

-- a judge stopped so in a file
pub record HasStoppedInFile (guard : ℕ → Guard) (told : Option (List ℕ)) (end : WalkedTo) : Type 0 where
  pub bytes : List ℕ
  pub leads : walked guard front bytes ≡ end
  pub fronts : IfSome told (λ file. (rest : List ℕ) × (file ≡ bytes ++ rest))

-- why a file was not read to its end
abbrev pub IsReadEnd : (ℕ → Guard) → Option (List ℕ) → (limit before now : ℕ) → Stand → ReadEnd → Type 0
IsReadEnd guard told limit before now stand ends.Fault = Rose before now
IsReadEnd guard told limit before now stand ends.TooLarge = IfSome told (λ file. limit < length file)
IsReadEnd guard told limit before now stand (ends.Walk end) = (w : WalkedTo) × IsEnd stand w end × HasStoppedInFile guard told w
