-- A text as comments of a schedule.
use Rattle.std.specs.Prelude.{ℕ, ◌==◌, Bool, true, List, [], ◌∷◌, ◌++◌, codes, if◌then◌else◌}

-- a text with `# ` before each line, where it does or doesn't begin a line
abbrev pub commented_from : Bool → List ℕ → List ℕ
commented_from begins [] = []
commented_from begins (byte ∷ rest) = (if begins then codes "# " else []) ++ byte ∷ commented_from (byte == 10) rest

-- a text with `# ` before each of its lines
abbrev pub commented : List ℕ → List ℕ
commented text = commented_from true text

-- the last line of a text, if there is one, ends with LF
abbrev pub ends_line : List ℕ → Bool
ends_line [] = true
ends_line (byte ∷ []) = byte == 10
ends_line (byte ∷ other ∷ rest) = ends_line (other ∷ rest)
