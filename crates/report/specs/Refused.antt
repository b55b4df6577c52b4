-- The line for a text that is refused where it first goes wrong.
use Rattle.std.specs.Prelude.{ℕ, List, ◌++◌, codes, decimal}

-- `WHAT refused at byte N: KIND`
abbrev pub refused_at_line : List ℕ → ℕ → List ℕ → List ℕ
refused_at_line what place kind = what ++ codes " refused at byte " ++ decimal place ++ codes ": " ++ kind ++ codes "\n"
