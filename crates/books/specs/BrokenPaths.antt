-- A rule on paths, broken inside a path or at its front.
use Rattle.std.specs.Prelude.{◌≡◌, ◌<◌, ◌^◌, ◌++◌, false, List, [], length, codes, ℕ, Option, Ok}
use Rattle.paths.specs.Paths.{PathData, most_fields}
use Rattle.conditions.specs.Texts.{path_text}
use Rattle.books.specs.Books.{IsPath, comes_after}
use Rattle.books.specs.Broken.{IsPast}
use Rattle.books.specs.Reading.{path_at}

-- behind this front of a path, or of none, a root or a field that is out of range begins, or a path that doesn't come after the one before it
pub data BreaksPath (before : Option PathData) (front rest : List ℕ) : Type 0 where
  root : front ≡ [] → IsPast (2 ^ 16) rest → BreaksPath before front rest
  field : (p : PathData) → IsPath p → length p.fields < most_fields → front ≡ path_text p ++ codes "." → IsPast (2 ^ 32) rest → BreaksPath before front rest
  late : (p : PathData) (behind : List ℕ) → front ≡ [] → path_at rest ≡ Ok (p, behind) → comes_after before p ≡ false → BreaksPath before front rest
