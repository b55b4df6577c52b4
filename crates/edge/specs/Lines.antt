-- The lines that tell of a file that it wasn't read.
use Rattle.std.specs.Prelude.{ℕ, List, [], ◌∷◌, ◌++◌, codes}

-- texts one after the other
abbrev pub joined_texts : List (List ℕ) → List ℕ
joined_texts [] = []
joined_texts (x ∷ xs) = x ++ joined_texts xs

-- what ends a line
abbrev pub line_end : List ℕ
line_end = 10 ∷ []

-- the line on a file that could not be read
abbrev pub cannot_read_line : List ℕ → List ℕ
cannot_read_line name = joined_texts (codes "cannot read " ∷ name ∷ line_end ∷ [])

-- the line on a file that is longer than its limit
abbrev pub too_large_line : List ℕ → List ℕ
too_large_line name = joined_texts (name ∷ codes " is too large" ∷ line_end ∷ [])
