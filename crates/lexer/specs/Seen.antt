-- A token as plain data: `Token` stands for it wherever a definition or a clause speaks of one.
use Rattle.std.specs.Prelude.{ℕ, List}
use Rattle.lexer.specs.declared.tokens.TokenKind.{TokenKind}

-- the kind, the bytes of the text, and the offset of the first of them
pub record SeenToken : Type 0 where
  pub kind : TokenKind
  pub text : List ℕ
  pub at : ℕ
