-- The line feeds of a text.
use Rattle.std.specs.Prelude.{◌≡◌, ◌≤◌, ℕ, ◌+◌, not, List, [], ◌∷◌, length, take, if◌then◌else◌}
use Rattle.std.specs.List.{suffix_len}
use Rattle.lexer.specs.Limits.{longest_source}
use Rattle.lexer.specs.Places.{is_line_feed}

-- the offsets of the line feeds of a text whose first byte has this offset
abbrev pub feeds_from : ℕ → List ℕ → List ℕ
feeds_from at [] = []
feeds_from at (c ∷ cs) = if is_line_feed c then at ∷ feeds_from (at + 1) cs else feeds_from (at + 1) cs

-- these are the offsets of the line feeds of a source
pub record IsIndexed (text feeds : List ℕ) : Type 0 where
  pub small : length text ≤ longest_source
  pub feeds_are : feeds ≡ feeds_from 0 text

-- the bytes between the last line feed before an offset, or the start, and the offset
abbrev pub since : List ℕ → ℕ → ℕ
since text at = suffix_len (λ c. not (is_line_feed c)) (take at text)
