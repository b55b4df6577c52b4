-- Tokens of texts.
use Rattle.std.specs.Prelude.{ℕ, List}
use Rattle.lexer.specs.declared.tokens.Token.{Token}
use Rattle.lexer.specs.declared.tokens.TokenKind.{TokenKind}

-- a token at an offset
abbrev pub token_cut : TokenKind → List ℕ → ℕ → Token
token_cut kind text at = record { kind = kind; text = text; at = at }
