-- Lines and columns of a text, which count from 1.
use Rattle.std.specs.Prelude.{ℕ, ◌+◌, ◌++◌, ◌==◌, Bool, not, List, take, count_by, codes, decimal}
use Rattle.std.specs.List.{suffix_len}

-- LF, which ends a line
abbrev pub is_line_feed : ℕ → Bool
is_line_feed c = c == 10

-- 1 and the line feeds before the offset
abbrev pub line_of : List ℕ → ℕ → ℕ
line_of text at = 1 + count_by is_line_feed (take at text)

-- 1 and the bytes since the last line feed before the offset, or since the start
abbrev pub column_of : List ℕ → ℕ → ℕ
column_of text at = 1 + suffix_len (λ c. not (is_line_feed c)) (take at text)

-- how a place is written: its line and its column in decimal, with a colon between them
abbrev pub place_text : (line column : ℕ) → List ℕ
place_text line column = decimal line ++ (codes ":" ++ decimal column)
