-- How the two parts of a line are read. A part stops at the first byte that no line has there, or where the text ends too early; a
-- number out of range, and so one with a leading zero, stops at its first digit.
use Rattle.std.specs.Prelude.{ℕ, ◌^◌, ◌==◌, List, [], ◌∷◌, length, drop, Ok, Err, if◌then◌else◌}
use Rattle.std.specs.List.{take_while}
use Rattle.lexer.specs.Pieces.{is_letter, is_word_byte}
use Rattle.books.specs.declared.stop.Kind.TheVariants.{Form}
use Rattle.books.specs.Combine.{Res, ◌>>=◌, expect}
use Rattle.books.specs.Reading.{number_at, is_at_end}

-- the longest name that a text begins with; nothing where no letter stands first
abbrev pub first_word : List ℕ → List ℕ
first_word [] = []
first_word (b ∷ ts) = if is_letter b then take_while is_word_byte (b ∷ ts) else []

-- a name, and a blank behind it
unfoldable pub name_at : List ℕ → Res (List ℕ)
name_at ts =
    if is_at_end (first_word ts) then Err (Form, ts)
    else (expect (32 ∷ []) (drop (length (first_word ts)) ts) >>= λ u rest. Ok (first_word ts, rest))

-- a level, and LF behind it
unfoldable pub level_at : List ℕ → Res ℕ
level_at ts = number_at (2 ^ 32) ts >>= λ n behind. if n == 0 then Err (Form, ts) else (expect (10 ∷ []) behind >>= λ u rest. Ok (n, rest))
