-- A rule that a book has beside its grammar, broken at the front of the rest of a text.
use Rattle.std.specs.Prelude.{◌≡◌, ℕ, ◌≤◌, ◌^◌, false, List, Ok}
use Rattle.std.specs.Str.Parse.{digits_value}
use Rattle.conditions.specs.Conditions.{Cond}
use Rattle.books.specs.Books.{is_canonical, most_nesting}
use Rattle.books.specs.Reading.{number_digits, is_at_end, tree_at, count_at}

-- the number that stands first is at or past the end of its range
pub record IsPast (end : ℕ) (rest : List ℕ) : Type 0 where
  pub digits : is_at_end (number_digits rest) ≡ false
  pub past : end ≤ digits_value 10 (number_digits rest)

-- the tree that stands first can be read, and isn't canonical
pub record IsUncanonical (rest : List ℕ) : Type 0 where
  pub tree : Cond
  pub behind : List ℕ
  pub read : tree_at most_nesting rest ≡ Ok (tree, behind)
  pub uncanonical : is_canonical tree ≡ false

-- the text begins with a line that says that so many trees follow
pub record Counts (bytes : List ℕ) (count : ℕ) : Type 0 where
  pub behind : List ℕ
  pub read : count_at bytes ≡ Ok (count, behind)

-- the rest of a text begins with a root, field, method or count that is out of range, with a conclusion that the table lacks, or with a
-- tree that isn't canonical
pub data IsBroken (bytes rest : List ℕ) : Type 0 where
  root : IsPast (2 ^ 16) rest → IsBroken bytes rest
  number : IsPast (2 ^ 32) rest → IsBroken bytes rest
  conclusion : (count : ℕ) → Counts bytes count → IsPast count rest → IsBroken bytes rest
  tree : IsUncanonical rest → IsBroken bytes rest
