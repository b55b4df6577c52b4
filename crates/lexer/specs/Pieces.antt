-- The pieces that a source is cut into: blanks, comments, words, numbers and signs, as tests on their bytes.
use Rattle.std.specs.Prelude.{ℕ, Bool, false, ◌&&◌, ◌||◌, ◌==◌, not, nat_le, List, [], ◌∷◌, length, codes, bytes_eq, if◌then◌else◌}
use Rattle.std.specs.List.{list_all, list_any}
use Rattle.lexer.specs.declared.pieces.Piece.{Piece}
use Rattle.lexer.specs.declared.pieces.Piece.TheVariants.{Blanks, Comment, OpenComment, Word, Number, Sign}

-- space, tab, LF, FF and CR
abbrev pub is_blank : ℕ → Bool
is_blank c = c == 32 || c == 9 || c == 10 || c == 12 || c == 13

-- an ASCII letter or `_`
abbrev pub is_letter : ℕ → Bool
is_letter c = (nat_le 97 c && nat_le c 122) || (nat_le 65 c && nat_le c 90) || c == 95

-- 0 to 9
abbrev pub is_digit : ℕ → Bool
is_digit c = nat_le 48 c && nat_le c 57

-- what a word goes on with: ASCII letters, digits and `_`
abbrev pub is_word_byte : ℕ → Bool
is_word_byte c = is_letter c || is_digit c

-- neither LF nor CR
abbrev pub is_in_line : ℕ → Bool
is_in_line c = not (c == 10 || c == 13)

-- blanks, at least one
abbrev pub is_blanks : List ℕ → Bool
is_blanks [] = false
is_blanks (c ∷ cs) = is_blank c && list_all is_blank cs

-- a letter, and letters and digits after it
abbrev pub is_word : List ℕ → Bool
is_word [] = false
is_word (c ∷ cs) = is_letter c && list_all is_word_byte cs

-- `0`, or a digit from 1 to 9 and digits after it
abbrev pub is_number : List ℕ → Bool
is_number [] = false
is_number (c ∷ cs) = if c == 48 then length cs == 0 else (is_digit c && list_all is_digit cs)

-- the signs of the language
abbrev pub signs : List (List ℕ)
signs = codes "(" ∷ codes ")" ∷ codes "{" ∷ codes "}" ∷ codes ";" ∷ codes "," ∷ codes "." ∷ codes "=" ∷ codes "==" ∷ codes "!=" ∷ codes "<" ∷ codes "<="
    ∷ codes ">" ∷ codes ">=" ∷ codes "+" ∷ codes "-" ∷ codes "--" ∷ codes "*" ∷ codes "/" ∷ codes "%" ∷ codes "!" ∷ codes "&&" ∷ codes "||" ∷ []

-- whether bytes are one of the signs
abbrev pub is_sign : List ℕ → Bool
is_sign p = list_any (bytes_eq p) signs

-- `*/` stands at the start
abbrev pub starts_close : List ℕ → Bool
starts_close [] = false
starts_close (c ∷ []) = false
starts_close (c ∷ d ∷ cs) = c == 42 && d == 47

-- `*/` stands somewhere
abbrev pub holds_close : List ℕ → Bool
holds_close [] = false
holds_close (c ∷ cs) = starts_close (c ∷ cs) || holds_close cs

-- `*/` stands at the end, and nowhere before
abbrev pub closes : List ℕ → Bool
closes [] = false
closes (c ∷ cs) = if starts_close (c ∷ cs) then length cs == 1 else closes cs

-- `//` and the rest of its line, or `/*` and what follows up to the next `*/`
abbrev pub is_comment : List ℕ → Bool
is_comment [] = false
is_comment (c ∷ []) = false
is_comment (c ∷ d ∷ cs) = c == 47 && ((d == 47 && list_all is_in_line cs) || (d == 42 && closes cs))

-- `/*` with no `*/` after it
abbrev pub is_open_comment : List ℕ → Bool
is_open_comment [] = false
is_open_comment (c ∷ []) = false
is_open_comment (c ∷ d ∷ cs) = c == 47 && (d == 42 && not (holds_close cs))

-- the bytes are a piece of this kind
abbrev pub is_piece : Piece → List ℕ → Bool
is_piece Blanks p = is_blanks p
is_piece Comment p = is_comment p
is_piece OpenComment p = is_open_comment p
is_piece Word p = is_word p
is_piece Number p = is_number p
is_piece Sign p = is_sign p
