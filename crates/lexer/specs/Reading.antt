-- What the lexer finds at the start of a text, by its first bytes. No public contract cites this file.
use Rattle.std.specs.Prelude.{◌≡◌, ℕ, ◌&&◌, ◌+◌, ◌==◌, nat_lt, List, [], ◌∷◌, length, take, Option, Some, None, Ok, option_map, if◌then◌else◌}
use Rattle.std.specs.List.{prefix_len}
use Rattle.lexer.specs.declared.pieces.Piece.{Piece}
use Rattle.lexer.specs.declared.pieces.Piece.TheVariants.{Blanks, Comment, OpenComment, Word, Number, Sign}
use Rattle.lexer.specs.declared.pieces.Front.{Front}
use Rattle.lexer.specs.declared.tokens.Token.{Token}
use Rattle.lexer.specs.declared.tokens.TokenKind.{TokenKind}
use Rattle.lexer.specs.Pieces.{is_blank, is_letter, is_digit, is_word_byte, is_in_line, is_sign, starts_close}
use Rattle.lexer.specs.Tokens.{Longest, meaning}

-- a piece of this kind and length at the start of a text
abbrev pub front_of : Piece → ℕ → Front
front_of kind len = record { kind = kind; len = len }

-- where the first `*/` ends
abbrev pub close_end : List ℕ → Option ℕ
close_end [] = None
close_end (c ∷ cs) = if starts_close (c ∷ cs) then Some 2 else option_map (λ n. 1 + n) (close_end cs)

-- the front of a text that begins with `/*`, by where the first `*/` after it ends
abbrev pub block_by : ℕ → Option ℕ → Front
block_by rest None = front_of OpenComment (2 + rest)
block_by rest (Some n) = front_of Comment (2 + n)

-- the front of a text that begins with `/*`, by the bytes behind that
abbrev pub block_front : List ℕ → Front
block_front cs = block_by (length cs) (close_end cs)

-- the front of a text that begins with `/`
abbrev pub slash_front : List ℕ → Front
slash_front [] = front_of Sign 1
slash_front (c ∷ cs) =
    if c == 47 then front_of Comment (2 + prefix_len is_in_line cs) else (if c == 42 then block_front cs else front_of Sign 1)

-- the front of a text that begins with no letter, digit, blank or `/`
abbrev pub sign_front : List ℕ → Option Front
sign_front text =
    if nat_lt 1 (length text) && is_sign (take 2 text)
    then Some (front_of Sign 2)
    else (if nat_lt 0 (length text) && is_sign (take 1 text) then Some (front_of Sign 1) else None)

-- the longest piece at the start of a text, where there is one
abbrev pub longest_piece : List ℕ → Option Front
longest_piece [] = None
longest_piece (c ∷ cs) =
    if is_blank c
    then Some (front_of Blanks (1 + prefix_len is_blank cs))
    else (if is_letter c
    then Some (front_of Word (1 + prefix_len is_word_byte cs))
    else (if c == 48
    then Some (front_of Number 1)
    else (if is_digit c
    then Some (front_of Number (1 + prefix_len is_digit cs))
    else (if c == 47
    then Some (slash_front cs)
    else sign_front (c ∷ cs)))))

-- the text is a piece with this meaning, and then the rest
pub record IsCut (text : List ℕ) (at : ℕ) (means : Option TokenKind) (bytes rest : List ℕ) : Type 0 where
  pub kind : Piece
  pub longest : Longest text bytes rest kind
  pub is_meant : meaning kind bytes at ≡ Ok means

-- the tokens that a piece gives: one or none
abbrev pub tokens_of : Option TokenKind → List ℕ → ℕ → List Token
tokens_of None bytes at = []
tokens_of (Some kind) bytes at = record { kind = kind; text = bytes; at = at } ∷ []
