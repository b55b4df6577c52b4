-- The files that a row names.
use Rattle.std.specs.Prelude.{◌≡◌, ◌≤◌, ℕ, List, [], ◌∷◌, Option, Some, None, if◌then◌else◌, length, nat_lt, slice_get, unwrap_or}
use Rattle.commands.specs.Rows.{Row, limits_of, IsRow}

-- each named file is told, with these bytes
abbrev pub AreFilesTold : (List ℕ → Option (List ℕ)) → List (List ℕ) → List (List ℕ) → Type 0
AreFilesTold told [] [] = Unit {0}
AreFilesTold told [] (file ∷ files) = ⊥
AreFilesTold told (name ∷ names) [] = ⊥
AreFilesTold told (name ∷ names) (file ∷ files) = (told name ≡ Some file) × AreFilesTold told names files

-- the words are this row, and the folder tells each file that it names
pub record IsAskedRow (words : List (List ℕ)) (told : List ℕ → Option (List ℕ)) (row : Row) (files : List (List ℕ)) : Type 0 where
  pub is_row : IsRow words row
  pub are_told : AreFilesTold told row.names files

-- the name of the first file that has more bytes than it may have
abbrev pub first_over : List ℕ → List (List ℕ) → List (List ℕ) → Option (List ℕ)
first_over (limit ∷ limits) (name ∷ names) (file ∷ files) = if nat_lt limit (length file) then Some name else first_over limits names files
first_over _ _ _ = None

-- the name of the first file of a row that is longer than its command allows
abbrev pub first_too_large : Row → List (List ℕ) → Option (List ℕ)
first_too_large row files = first_over (limits_of row.command) row.names files

-- no file has more bytes than it may have
abbrev pub AreWithin : Row → List (List ℕ) → Type 0
AreWithin row files = first_too_large row files ≡ None

-- each file has at most as many bytes as it may have
abbrev pub AreBounded : List ℕ → List (List ℕ) → Type 0
AreBounded [] [] = Unit {0}
AreBounded [] (file ∷ files) = ⊥
AreBounded (limit ∷ limits) [] = ⊥
AreBounded (limit ∷ limits) (file ∷ files) = (length file ≤ limit) × AreBounded limits files

-- the bytes of the file at a place
abbrev pub file_at : List (List ℕ) → ℕ → List ℕ
file_at files place = unwrap_or (slice_get files place) []
