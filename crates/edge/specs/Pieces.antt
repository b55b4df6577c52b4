-- What a read gives of a file, and what a write leaves of its bytes.
use Rattle.std.specs.Prelude.{◌≡◌, ℕ, ◌<◌, ◌≤◌, List, Option, length, take, drop}
use Rattle.std.specs.Io.KnownBytes.{Appends}

-- the first n bytes of the buffer are the file's bytes from a place on, and none come only at its end
pub record GivesFrom (place n : ℕ) (buffer file : List ℕ) : Type 0 where
  pub bytes : take n buffer ≡ take n (drop place file)
  pub within : n ≤ length (drop place file)
  pub end : n ≡ 0 → 0 < length buffer → length file ≤ place

-- the known bytes grew by a front of these bytes, and not by all of them
pub record AppendsFront (old new : Option (List ℕ)) (bytes : List ℕ) : Type 0 where
  pub taken : ℕ
  pub shorter : taken < length bytes
  pub grew : Appends old new (take taken bytes)
