-- Canonical text: how tokens are laid out in lines.
use Rattle.std.specs.Prelude.{◌≡◌, ℕ, zero, suc, ◌+◌, ◌-◌, List, [], ◌∷◌, ◌++◌, codes, decimal}
use Rattle.base.specs.Texts.{KeepsText}
use Rattle.lexer.specs.declared.tokens.Token.{Token}
use Rattle.lexer.specs.declared.tokens.TokenKind.TheVariants as K
use Rattle.printer.specs.declared.page.Lead.{Lead}
use Rattle.printer.specs.declared.page.Lead.TheVariants as L
use Rattle.printer.specs.declared.page.NextPlace.{NextPlace}
use Rattle.printer.specs.declared.page.NextPlace.TheVariants as P
use Rattle.syntax.specs.declared.terminal.Terminal.{Terminal}
use Rattle.syntax.specs.declared.terminal.Terminal.TheVariants as T
use Rattle.syntax.specs.Tokens.{spelling, token, number_token}

-- a token without its offset: a terminal of the grammar, a name, or a number
pub data PlainToken : Type 0 where
  Fixed : Terminal → PlainToken
  Named : List ℕ → PlainToken
  Numeral : ℕ → PlainToken

-- how a token is written; a number in decimal without leading zeros
abbrev pub lexeme_text : PlainToken → List ℕ
lexeme_text (Fixed t) = spelling t
lexeme_text (Named name) = name
lexeme_text (Numeral n) = decimal n

-- the token at an offset
abbrev pub plain_token_at : ℕ → PlainToken → Token
plain_token_at at (Fixed t) = token t at
plain_token_at at (Named name) = record { kind = K.Name; text = name; at = at }
plain_token_at at (Numeral n) = number_token n (decimal n) at

-- a line ends after `{`, `}` and `;`
abbrev pub line_end_after : PlainToken → List ℕ
line_end_after (Fixed T.OpenBrace) = codes "\n"
line_end_after (Fixed T.CloseBrace) = codes "\n"
line_end_after (Fixed T.Semicolon) = codes "\n"
line_end_after x = []

-- the number of open braces after a token
abbrev pub braces_after : ℕ → PlainToken → ℕ
braces_after depth (Fixed T.OpenBrace) = depth + 1
braces_after depth (Fixed T.CloseBrace) = depth - 1
braces_after depth x = depth

-- how a token joins what is before it: no blank stands before `;`, `,`, `)` and `.`
abbrev pub lead_of : PlainToken → Lead
lead_of (Fixed T.Semicolon) = L.Joined
lead_of (Fixed T.Comma) = L.Joined
lead_of (Fixed T.CloseParen) = L.Joined
lead_of (Fixed T.Dot) = L.Joined
lead_of (Fixed T.OpenParen) = L.OpenParen
lead_of (Fixed T.CloseBrace) = L.CloseBrace
lead_of x = L.Spaced

-- the place behind a token: no blank stands after `(`, `.` and `!`; names and `Thread` are followed by a `(` without one
abbrev pub place_after : PlainToken → NextPlace
place_after (Fixed T.OpenBrace) = P.LineStart
place_after (Fixed T.CloseBrace) = P.LineStart
place_after (Fixed T.Semicolon) = P.LineStart
place_after (Fixed T.OpenParen) = P.Joined
place_after (Fixed T.Dot) = P.Joined
place_after (Fixed T.Bang) = P.Joined
place_after (Fixed T.Thread) = P.Callee
place_after (Fixed T.Out) = P.Callee
place_after (Fixed T.Println) = P.Callee
place_after (Fixed T.Start) = P.Callee
place_after (Named name) = P.Callee
place_after x = P.Spaced

-- four blanks for each open brace
abbrev pub indent : ℕ → List ℕ
indent zero = []
indent (suc depth) = codes "    " ++ indent depth

-- what stands before a token: the indentation of a line, which is less by one before `}`, or one blank, or nothing
abbrev pub gap : NextPlace → ℕ → Lead → List ℕ
gap P.LineStart depth L.CloseBrace = indent (depth - 1)
gap P.LineStart depth L.OpenParen = indent depth
gap P.LineStart depth L.Joined = indent depth
gap P.LineStart depth L.Spaced = indent depth
gap P.Joined depth lead = []
gap P.Callee depth L.CloseBrace = codes " "
gap P.Callee depth L.OpenParen = []
gap P.Callee depth L.Joined = []
gap P.Callee depth L.Spaced = codes " "
gap P.Spaced depth L.CloseBrace = codes " "
gap P.Spaced depth L.OpenParen = codes " "
gap P.Spaced depth L.Joined = []
gap P.Spaced depth L.Spaced = codes " "

-- tokens laid out from a place on, where so many braces are open
abbrev pub layout : NextPlace → ℕ → List PlainToken → List ℕ
layout place depth [] = []
layout place depth (x ∷ xs) = gap place depth (lead_of x) ++ (lexeme_text x ++ (line_end_after x ++ layout (place_after x) (braces_after depth x) xs))

-- tokens laid out from the start of a text on
abbrev pub laid_out : List PlainToken → List ℕ
laid_out xs = layout P.LineStart 0 xs

-- what is written, how many braces are open, and the place of the next token
pub record Page : Type 0 where
  pub text : List ℕ
  pub depth : ℕ
  pub place : NextPlace

-- the page with one token more
unfoldable pub put : Page → PlainToken → Page
put page x = record {
  text = page.text ++ (gap page.place page.depth (lead_of x) ++ (lexeme_text x ++ line_end_after x));
  depth = braces_after page.depth x;
  place = place_after x;
}

-- the page with more tokens
unfoldable pub writes : Page → List PlainToken → Page
writes page [] = page
writes page (x ∷ xs) = writes (put page x) xs

-- the page with maybe bytes behind its text
pub record KeepsPage (old new : Page) : Type 0 where
  pub text : KeepsText old.text new.text
  pub depth : new.depth ≡ old.depth
  pub place : new.place ≡ old.place
