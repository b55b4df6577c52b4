-- The tokens of canonical text.
use Rattle.std.specs.Prelude.{◌≡◌, ℕ, Bool, true, false, List, [], ◌∷◌}
use Rattle.lexer.specs.declared.tokens.Token.{Token}
use Rattle.lexer.specs.declared.tokens.TokenKind.{TokenKind}
use Rattle.lexer.specs.declared.tokens.TokenKind.TheVariants as K
use Rattle.lexer.specs.Tokens.{IsOfKind, Tokens}
use Rattle.syntax.specs.declared.terminal.Terminal.TheVariants as T
use Rattle.syntax.specs.Grammar.{Grammar}
use Rattle.printer.specs.Layout.{PlainToken, Fixed, Named, Numeral, lexeme_text, plain_token_at}
use Rattle.syntax.specs.Tokens.{terminal_kind}
use Rattle.syntax.specs.Trees.{ProgramTree}
use Rattle.printer.specs.Unplaced.{without_offsets}

-- the kind of the token that a lexer makes of this lexeme
abbrev pub lexeme_kind : PlainToken → TokenKind
lexeme_kind (Fixed t) = terminal_kind t
lexeme_kind (Named name) = K.Name
lexeme_kind (Numeral n) = K.Number n

-- each text is that of a token of its kind
abbrev pub AreLexemes : List PlainToken → Type 0
AreLexemes [] = Unit {0}
AreLexemes (x ∷ xs) = IsOfKind (lexeme_kind x) (lexeme_text x) × AreLexemes xs

-- whether a lexeme is `!`, which would be another token with a `=` directly after it
abbrev pub is_bang : PlainToken → Bool
is_bang (Fixed T.Bang) = true
is_bang x = false

-- whether a lexeme begins with `=`: the signs `=` and `==`
abbrev pub begins_with_assign : PlainToken → Bool
begins_with_assign (Fixed T.Assign) = true
begins_with_assign (Fixed T.EqualTo) = true
begins_with_assign x = false

-- after each `!` comes something that doesn't begin with `=`; the flag says that a `!` stands before
abbrev pub Parted : Bool → List PlainToken → Type 0
Parted bang [] = bang ≡ false
Parted bang (x ∷ xs) = (bang ≡ true → begins_with_assign x ≡ false) × Parted (is_bang x) xs

-- the tokens are these, each at its own offset
abbrev pub AreTokensOf : List PlainToken → List Token → Type 0
AreTokensOf [] [] = Unit {0}
AreTokensOf [] (t ∷ ts) = ⊥
AreTokensOf (x ∷ xs) [] = ⊥
AreTokensOf (x ∷ xs) (t ∷ ts) = (t ≡ plain_token_at t.at x) × AreTokensOf xs ts

-- the text has tokens that the grammar relates to a tree, which is this one but for offsets
pub record ReadsBack (text : List ℕ) (tree : ProgramTree) : Type 0 where
  pub tokens : List Token
  pub cut : Tokens text tokens
  pub again : ProgramTree
  pub related : Grammar tokens again
  pub same : without_offsets again ≡ without_offsets tree
