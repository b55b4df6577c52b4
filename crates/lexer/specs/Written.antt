-- What may follow a piece, so that it is cut off there again: for those who write sources.
use Rattle.std.specs.Prelude.{ℕ, ◌==◌, ◌&&◌, ◌||◌, Bool, true, false, not, List, [], ◌∷◌, ◌++◌, bytes_eq, codes}
use Rattle.lexer.specs.declared.tokens.TokenKind.{TokenKind}
use Rattle.lexer.specs.declared.tokens.TokenKind.TheVariants as token
use Rattle.lexer.specs.Pieces.{is_digit, is_word_byte, is_sign}

-- the bytes begin with none that passes the test
abbrev pub stops : (ℕ → Bool) → List ℕ → Bool
stops test [] = true
stops test (c ∷ cs) = not (test c)

-- the sign and what follows it make a longer sign, or begin a comment
abbrev pub sign_goes_on : List ℕ → List ℕ → Bool
sign_goes_on sign [] = false
sign_goes_on sign (c ∷ cs) = is_sign (sign ++ c ∷ []) || (bytes_eq sign (codes "/") && (c == 47 || c == 42))

-- the bytes don't go on a token of this kind
abbrev pub may_follow : TokenKind → List ℕ → List ℕ → Bool
may_follow token.Name bytes rest = stops is_word_byte rest
may_follow token.Word bytes rest = stops is_word_byte rest
may_follow (token.Number n) bytes rest = stops is_digit rest
may_follow token.Sign bytes rest = not (sign_goes_on bytes rest)
