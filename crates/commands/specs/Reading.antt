-- What is known of the files of a row, which are read in the order of the words: of those that were read, and of the first one that
-- wasn't.
use Rattle.std.specs.Prelude.{◌≡◌, ◌≢◌, ℕ, ◌<◌, ◌≤◌, List, [], ◌∷◌, Option, Some, IfSome, IsSome, length, slice_get}
use Rattle.edge.specs.Faults.{Rose}
use Rattle.sources.specs.Files.{HasSameFaults}
use Rattle.commands.specs.Files.{AreBounded}

-- bytes of each named file; of a file that is told they are what is told
abbrev pub AreTheirs : (List ℕ → Option (List ℕ)) → List (List ℕ) → List (List ℕ) → Type 0
AreTheirs told [] [] = Unit {0}
AreTheirs told [] (file ∷ files) = ⊥
AreTheirs told (name ∷ names) [] = ⊥
AreTheirs told (name ∷ names) (file ∷ files) = IfSome (told name) (λ its. file ≡ its) × AreTheirs told names files

-- each file before a place that is told has at most as many bytes as it may have
abbrev pub AreWithinBefore : (List ℕ → Option (List ℕ)) → List ℕ → List (List ℕ) → ℕ → Type 0
AreWithinBefore told limits names place =
    (k limit : ℕ) (name : List ℕ) → k < place → slice_get limits k ≡ Some limit → slice_get names k ≡ Some name → IfSome (told name) (λ file. length file ≤ limit)

-- the files were read
pub record AreRead (told : List ℕ → Option (List ℕ)) (before now : List ℕ → ℕ) (limits : List ℕ) (names files : List (List ℕ)) : Type 0 where
  pub theirs : AreTheirs told names files
  pub bounded : AreBounded limits files
  pub quiet : HasSameFaults before now

-- this is the first file that couldn't be read
pub record IsFirstUnread (told : List ℕ → Option (List ℕ)) (before now : List ℕ → ℕ) (limits : List ℕ) (names : List (List ℕ)) (name : List ℕ) : Type 0 where
  pub place : ℕ
  pub named : slice_get names place ≡ Some name
  -- its count of faults rose or stands at its last value; that of no other file that is told changed
  pub rose : Rose (before name) (now name)
  pub others : (other : List ℕ) → other ≢ name → IsSome (told other) → now other ≡ before other
  -- no file before it is over its limit
  pub earlier : AreWithinBefore told limits names place

-- this is the first file that has more bytes than it may have
pub record IsFirstOver (told : List ℕ → Option (List ℕ)) (before now : List ℕ → ℕ) (limits : List ℕ) (names : List (List ℕ)) (name : List ℕ) : Type 0 where
  pub place : ℕ
  pub limit : ℕ
  pub named : slice_get names place ≡ Some name
  pub limited : slice_get limits place ≡ Some limit
  pub over : IfSome (told name) (λ file. limit < length file)
  -- no file before it is over its limit, and none failed
  pub earlier : AreWithinBefore told limits names place
  pub quiet : HasSameFaults before now
