-- Tokens at other offsets: how a list of lexemes is placed, and that what is written is of its kind.
use Rattle.std.proofs.Common.{◌≡◌, ℕ, zero, suc, ◌<◌, ◌≤◌, ◌==◌, true, false, List, [], ◌∷◌, ◌++◌, get_or, All, refl, ap, arith, decimal}
use Rattle.std.specs.List.{list_all}
use Rattle.std.specs.Str.Parse.{IsNumeral, AllDigits}
use Rattle.std.specs.Char.{digit_value}
use Rattle.std.proofs.lemmas.Fmt.{decimal_is_IsNumeral, first_decimal, decimal_digit}
use Rattle.std.proofs.lemmas.Str.Parse.{digit_from_value}
use Rattle.std.proofs.lemmas.Bool.Decides.{nat_tests}
use Rattle.lexer.specs.declared.tokens.Token.{Token}
use Rattle.lexer.specs.declared.tokens.TokenKind.TheVariants as K
use Rattle.lexer.specs.Limits.{greatest_literal}
use Rattle.lexer.specs.Pieces.{is_number, is_digit}
use Rattle.lexer.specs.Tokens.{IsOfKind}
use Rattle.syntax.specs.declared.terminal.Terminal.{Terminal}
use Rattle.syntax.specs.declared.terminal.Terminal.TheVariants as T
use Rattle.syntax.specs.declared.tree.Name.{Name}
use Rattle.printer.specs.Layout.{PlainToken, plain_token_at}
use Rattle.printer.specs.Reprinted.{AreLexemes}
use Rattle.syntax.specs.Tokens.{terminal_kind, spelling}

-- the tokens, the first at the offset with the number k, and so on
abbrev pub placed : (ℕ → ℕ) → ℕ → List PlainToken → List Token
placed f k [] = []
placed f k (x ∷ xs) = plain_token_at (f k) x ∷ placed f (suc k) xs

abbrev pub after : ℕ → List PlainToken → ℕ
after k [] = k
after k (x ∷ xs) = after (suc k) xs

pub placed_both : (f : ℕ → ℕ) (k : ℕ) (xs ys : List PlainToken) → placed f k (xs ++ ys) ≡ placed f k xs ++ placed f (after k xs) ys
placed_both f k [] ys = refl
placed_both f k (x ∷ xs) ys = ap (λ z. plain_token_at (f k) x ∷ z) (placed_both f (suc k) xs ys)

-- each token is of its kind
abbrev pub Known : List Token → Type 0
Known [] = Unit {0}
Known (t ∷ ts) = IsOfKind t.kind t.text × Known ts

pub known_all : (ts : List Token) → All (λ t. IsOfKind t.kind t.text) ts → Known ts
known_all [] h = tt
known_all (t ∷ ts) h = (h 0 t (omega arith), known_all ts (λ k d below. h (suc k) d (omega arith)))

pub front : (xs ys : List Token) → Known (xs ++ ys) → Known xs
front [] ys k = tt
front (x ∷ xs) ys k = (k.0, front xs ys k.1)

pub back : (xs ys : List Token) → Known (xs ++ ys) → Known ys
back [] ys k = k
back (x ∷ xs) ys k = back xs ys k.1

pub together : (xs ys : List PlainToken) → AreLexemes xs → AreLexemes ys → AreLexemes (xs ++ ys)
together [] ys k l = l
together (x ∷ xs) ys k l = (k.0, together xs ys k.1 l)

pub spelled : (t : Terminal) → IsOfKind (terminal_kind t) (spelling t)
spelled T.OpenParen = refl
spelled T.CloseParen = refl
spelled T.OpenBrace = refl
spelled T.CloseBrace = refl
spelled T.Semicolon = refl
spelled T.Comma = refl
spelled T.Dot = refl
spelled T.Assign = refl
spelled T.EqualTo = refl
spelled T.NotEqual = refl
spelled T.Less = refl
spelled T.LessEqual = refl
spelled T.Greater = refl
spelled T.GreaterEqual = refl
spelled T.Plus = refl
spelled T.Minus = refl
spelled T.Star = refl
spelled T.Slash = refl
spelled T.Percent = refl
spelled T.Bang = refl
spelled T.AndAnd = refl
spelled T.OrOr = refl
spelled t = (refl, omega arith, refl)

pub digit_of : (c : ℕ) → digit_value c < 10 → is_digit c ≡ true
digit_of c h = let r = digit_from_value c h in grind (arith, nat_tests)

pub digits_of : (cs : List ℕ) → AllDigits 10 cs → list_all is_digit cs ≡ true
digits_of [] h = refl
digits_of (c ∷ cs) h = rw (digit_of c h.0) (digits_of cs h.1)

pub no_zero : (c : ℕ) → 48 < c → (c == 48) ≡ false
no_zero c h = grind (arith, nat_tests)

pub no_leading_zero : (ds : List ℕ) → IsNumeral 10 ds → 48 < get_or ds 0 0 → is_number ds ≡ true
no_leading_zero [] h l = absurd (omega (arith, h.0))
no_leading_zero (c ∷ cs) h l = rw (no_zero c l, digit_of c h.1.0) (digits_of cs h.1.1)

pub number_of : (n : ℕ) → n ≤ greatest_literal → is_number (decimal n) ≡ true
number_of zero h = rw (decimal_digit 0 (omega arith)) refl
number_of (suc n) h = no_leading_zero (decimal (suc n)) (decimal_is_IsNumeral (suc n) (omega arith)).0 (first_decimal (suc n) (omega arith) (omega arith))

pub numbered : (n : ℕ) → n ≤ greatest_literal → IsOfKind (K.Number n) (decimal n)
numbered n h = (number_of n h, h, (decimal_is_IsNumeral n (omega arith)).1)

abbrev pub named : Name → ℕ → Name
named n o = record { text = n.text; at = o }

-- the lexemes of a part are known, and at any offsets they spell a part that differs in offsets alone
pub record Law {A : Type 0} (R : A → List Token → Type 0) (g : A → List PlainToken) (bare : A → A) (a : A) : Type 0 where
  pub known : AreLexemes (g a)
  pub moved : (f : ℕ → ℕ) (k : ℕ) → (b : A) × R b (placed f k (g a)) × (bare b ≡ bare a)
