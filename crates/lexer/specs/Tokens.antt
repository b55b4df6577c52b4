-- The tokens of a source, and its first fault: a whole text is cut from the left into slices, each the longest piece that begins there.
use Rattle.std.specs.Prelude.{◌≡◌, ℕ, ◌+◌, ◌<◌, ◌≤◌, true, false, nat_lt, List, [], ◌∷◌, ◌++◌, length, take, drop, Option, Some, None, Result, Ok, Err, if◌then◌else◌}
use Rattle.std.specs.Str.Parse.{digits_value}
use Rattle.lexer.specs.declared.pieces.Piece.{Piece}
use Rattle.lexer.specs.declared.pieces.Piece.TheVariants as piece
use Rattle.lexer.specs.declared.tokens.Token.{Token}
use Rattle.lexer.specs.declared.tokens.TokenKind.{TokenKind}
use Rattle.lexer.specs.declared.tokens.TokenKind.TheVariants as token
use Rattle.lexer.specs.declared.faults.LexFault.{LexFault}
use Rattle.lexer.specs.declared.faults.LexFault.TheVariants as fault
use Rattle.lexer.specs.Limits.{greatest_literal, longest_word}
use Rattle.lexer.specs.Pieces.{is_piece, is_word, is_number, is_sign}
use Rattle.lexer.specs.Reserved.{is_reserved}

-- the text is the piece and then the rest, and no longer piece begins the text
pub record Longest (text bytes rest : List ℕ) (kind : Piece) : Type 0 where
  pub whole : text ≡ bytes ++ rest
  pub is : is_piece kind bytes ≡ true
  pub longest : (other after : List ℕ) (its : Piece) → text ≡ other ++ after → is_piece its other ≡ true → length other ≤ length bytes

-- no piece begins the text
abbrev pub NoPiece : List ℕ → Type 0
NoPiece text = (other after : List ℕ) (its : Piece) → text ≡ other ++ after → is_piece its other ≡ true → ⊥

-- what a word that isn't too long is
abbrev pub word_kind : List ℕ → TokenKind
word_kind bytes = if is_reserved bytes then token.Word else token.Name

-- what a piece at an offset means: no token, a token of some kind, or a fault
abbrev pub meaning : Piece → List ℕ → ℕ → Result (Option TokenKind) LexFault
meaning piece.Blanks bytes at = Ok None
meaning piece.Comment bytes at = Ok None
meaning piece.OpenComment bytes at = Err (fault.OpenComment at)
meaning piece.Word bytes at = if nat_lt longest_word (length bytes) then Err (fault.NameTooLong at) else Ok (Some (word_kind bytes))
meaning piece.Number bytes at =
    if nat_lt greatest_literal (digits_value 10 bytes) then Err (fault.LiteralTooLarge at) else Ok (Some (token.Number (digits_value 10 bytes)))
meaning piece.Sign bytes at = Ok (Some token.Sign)

-- the bytes from an offset on have these tokens
pub data TokensFrom : List ℕ → ℕ → List Token → Type 0 where
  at_end : {at : ℕ} → TokensFrom [] at []
  a_gap : {text bytes rest : List ℕ} {at : ℕ} {ts : List Token} (kind : Piece) → Longest text bytes rest kind → meaning kind bytes at ≡ Ok None
      → TokensFrom rest (at + length bytes) ts → TokensFrom text at ts
  a_token : {text bytes rest : List ℕ} {at : ℕ} {ts : List Token} (kind : Piece) (its : TokenKind) → Longest text bytes rest kind
      → meaning kind bytes at ≡ Ok (Some its) → TokensFrom rest (at + length bytes) ts
      → TokensFrom text at (record { kind = its; text = bytes; at = at } ∷ ts)

-- the text has these tokens
abbrev pub Tokens : List ℕ → List Token → Type 0
Tokens text ts = TokensFrom text 0 ts

-- in the bytes from an offset on, this is the first fault
pub data FaultFrom : List ℕ → ℕ → LexFault → Type 0 where
  no_piece : {text : List ℕ} {at : ℕ} → 0 < length text → NoPiece text → FaultFrom text at (fault.BadCharacter at)
  a_bad_piece : {text bytes rest : List ℕ} {at : ℕ} {its : LexFault} (kind : Piece) → Longest text bytes rest kind → meaning kind bytes at ≡ Err its
      → FaultFrom text at its
  after_a_piece : {text bytes rest : List ℕ} {at : ℕ} {its : LexFault} (kind : Piece) (token : Option TokenKind) → Longest text bytes rest kind
      → meaning kind bytes at ≡ Ok token → FaultFrom rest (at + length bytes) its → FaultFrom text at its

-- this is the first fault of the text
abbrev pub FirstFault : List ℕ → LexFault → Type 0
FirstFault text its = FaultFrom text 0 its

-- blanks and comments, or nothing
pub data Gap : List ℕ → Type 0 where
  no_gap : Gap []
  after_blanks : (bytes rest : List ℕ) → is_piece piece.Blanks bytes ≡ true → Gap rest → Gap (bytes ++ rest)
  after_comment : (bytes rest : List ℕ) → is_piece piece.Comment bytes ≡ true → Gap rest → Gap (bytes ++ rest)

-- from an offset on, the text is these tokens in turn, each at its offset, with gaps before, between and after them
abbrev pub LaidFrom : List ℕ → ℕ → List Token → Type 0
LaidFrom text at [] = Gap text
LaidFrom text at (t ∷ ts) = (gap rest : List ℕ) × Gap gap × (text ≡ gap ++ (t.text ++ rest)) × (t.at ≡ at + length gap) × LaidFrom rest (t.at + length t.text) ts

-- the token's text is the slice of the source at its offset
abbrev pub IsSlice : List ℕ → Token → Type 0
IsSlice text t = (t.at + length t.text ≤ length text) × (take (length t.text) (drop t.at text) ≡ t.text)

-- each token begins where the one before it ends, or later
abbrev pub Ascend : ℕ → List Token → Type 0
Ascend from [] = Unit {0}
Ascend from (t ∷ ts) = (from ≤ t.at) × (0 < length t.text) × Ascend (t.at + length t.text) ts

-- the bytes are the text of a token of this kind
abbrev pub IsOfKind : TokenKind → List ℕ → Type 0
IsOfKind token.Name bytes = (is_word bytes ≡ true) × (length bytes ≤ longest_word) × (is_reserved bytes ≡ false)
IsOfKind token.Word bytes = (is_word bytes ≡ true) × (length bytes ≤ longest_word) × (is_reserved bytes ≡ true)
IsOfKind (token.Number n) bytes = (is_number bytes ≡ true) × (n ≤ greatest_literal) × (digits_value 10 bytes ≡ n)
IsOfKind token.Sign bytes = is_sign bytes ≡ true
