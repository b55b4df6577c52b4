-- The canonical text is cut into the tokens that were laid out.
use Rattle.std.proofs.Common.{◌≡◌, ℕ, zero, suc, ◌+◌, ◌-◌, ◌==◌, ◌&&◌, not, Bool, true, false, List, [], ◌∷◌, ◌++◌, length, codes, refl, sym, subst, arith, append_assoc, decimal, eqb-true, inl, inr, if◌then◌else◌}
use Rattle.std.proofs.lemmas.Bool.{and_parts, or_cases}
use Rattle.std.proofs.lemmas.Bool.Decides.{nat_tests}
use Rattle.std.specs.List.{list_all, list_any}
use Rattle.lexer.specs.declared.tokens.Token.{Token}
use Rattle.lexer.specs.declared.tokens.TokenKind.TheVariants as K
use Rattle.lexer.specs.Pieces.{is_blank, is_word, is_number, is_letter, is_digit, is_word_byte}
use Rattle.lexer.specs.Tokens.{IsOfKind, TokensFrom, at_end}
use Rattle.lexer.specs.Written.{stops, may_follow}
use Rattle.lexer.proofs.Written.{written_token, written_gap}
use Rattle.printer.specs.declared.page.Lead.{Lead}
use Rattle.printer.specs.declared.page.Lead.TheVariants as L
use Rattle.printer.specs.declared.page.NextPlace.{NextPlace}
use Rattle.printer.specs.declared.page.NextPlace.TheVariants as P
use Rattle.syntax.specs.declared.terminal.Terminal.{Terminal}
use Rattle.syntax.specs.declared.terminal.Terminal.TheVariants as T
use Rattle.printer.specs.Layout.{PlainToken, Fixed, Named, Numeral, gap, indent, layout, lead_of, place_after, braces_after, lexeme_text, line_end_after, plain_token_at}
use Rattle.printer.specs.Reprinted.{lexeme_kind, AreLexemes, Parted, is_bang, begins_with_assign, AreTokensOf}
use Rattle.syntax.specs.Tokens.{terminal_kind, spelling}

-- bytes that go on no token of those before which they stand: blanks, `;`, `,`, `)`, `.` and `(`
abbrev quiet_bytes : List ℕ
quiet_bytes = 32 ∷ 10 ∷ 59 ∷ 44 ∷ 41 ∷ 46 ∷ 40 ∷ []

abbrev is_quiet : ℕ → Bool
is_quiet c = list_any (λ d. c == d) quiet_bytes

abbrev begins_quietly : List ℕ → Bool
begins_quietly [] = true
begins_quietly (c ∷ cs) = is_quiet c

-- within a line a token follows quietly
spaced_quiet : (x : PlainToken) (depth : ℕ) (rest : List ℕ) → begins_quietly (gap P.Spaced depth (lead_of x) ++ (lexeme_text x ++ rest)) ≡ true
spaced_quiet (Fixed T.Semicolon) depth rest = refl
spaced_quiet (Fixed T.Comma) depth rest = refl
spaced_quiet (Fixed T.CloseParen) depth rest = refl
spaced_quiet (Fixed T.Dot) depth rest = refl
spaced_quiet (Fixed T.OpenParen) depth rest = refl
spaced_quiet (Fixed T.CloseBrace) depth rest = refl
spaced_quiet x depth rest = refl

callee_quiet : (x : PlainToken) (depth : ℕ) (rest : List ℕ) → begins_quietly (gap P.Callee depth (lead_of x) ++ (lexeme_text x ++ rest)) ≡ true
callee_quiet (Fixed T.Semicolon) depth rest = refl
callee_quiet (Fixed T.Comma) depth rest = refl
callee_quiet (Fixed T.CloseParen) depth rest = refl
callee_quiet (Fixed T.Dot) depth rest = refl
callee_quiet (Fixed T.OpenParen) depth rest = refl
callee_quiet (Fixed T.CloseBrace) depth rest = refl
callee_quiet x depth rest = refl

all_at : (p : ℕ → Bool) (all : List ℕ) (c : ℕ) → list_all p all ≡ true → list_any (λ d. c == d) all ≡ true → p c ≡ true
all_at p [] c a h = absurd (cc)
all_at p (d ∷ ds) c a h =
    let b = and_parts (p d) (list_all p ds) a in
    elim (or_cases (c == d) (list_any (λ e. c == e) ds) h) [
      | inl e ↦ subst (λ y. p y ≡ true) (sym (eqb-true c d e)) b.0
      | inr r ↦ all_at p ds c b.1 r
    ]

word_quiet : (rest : List ℕ) → begins_quietly rest ≡ true → stops is_word_byte rest ≡ true
word_quiet [] h = refl
word_quiet (c ∷ cs) h = all_at (λ d. not (is_word_byte d)) quiet_bytes c refl h

digit_quiet : (rest : List ℕ) → begins_quietly rest ≡ true → stops is_digit rest ≡ true
digit_quiet [] h = refl
digit_quiet (c ∷ cs) h = all_at (λ d. not (is_digit d)) quiet_bytes c refl h

terminal_quiets : (t : Terminal) (cs : List ℕ) → list_all (λ c. may_follow (terminal_kind t) (spelling t) (c ∷ cs)) quiet_bytes ≡ true
terminal_quiets T.Public cs = refl
terminal_quiets t cs = refl

terminal_end : (t : Terminal) → may_follow (terminal_kind t) (spelling t) [] ≡ true
terminal_end T.Public = refl
terminal_end t = refl

terminal_quiet : (t : Terminal) (rest : List ℕ) → begins_quietly rest ≡ true → may_follow (terminal_kind t) (spelling t) rest ≡ true
terminal_quiet t [] h = terminal_end t
terminal_quiet t (c ∷ cs) h = all_at (λ c. may_follow (terminal_kind t) (spelling t) (c ∷ cs)) quiet_bytes c (terminal_quiets t cs) h

-- nothing goes on `(` or `.`
open_follows : (rest : List ℕ) → may_follow K.Sign (codes "(") rest ≡ true
open_follows [] = refl
open_follows (c ∷ cs) = refl

dot_follows : (rest : List ℕ) → may_follow K.Sign (codes ".") rest ≡ true
dot_follows [] = refl
dot_follows (c ∷ cs) = refl

letter_no_assign : (c : ℕ) → is_letter c ≡ true → (c == 61) ≡ false
letter_no_assign c h = grind (arith, nat_tests)

digit_no_assign : (c : ℕ) → is_digit c ≡ true → (c == 61) ≡ false
digit_no_assign c h = grind (arith, nat_tests)

letter_no_blank : (c : ℕ) → is_letter c ≡ true → is_blank c ≡ false
letter_no_blank c h = grind (arith, nat_tests)

digit_no_blank : (c : ℕ) → is_digit c ≡ true → is_blank c ≡ false
digit_no_blank c h = grind (arith, nat_tests)

number_digit : (c : ℕ) (cs : List ℕ) (zero : Bool) → (c == 48) ≡ zero → (if zero then length cs == 0 else (is_digit c && list_all is_digit cs)) ≡ true → is_digit c ≡ true
number_digit c cs true e h = rw (eqb-true c 48 e) refl
number_digit c cs false e h = (and_parts (is_digit c) (list_all is_digit cs) h).0

bang_by : (c : ℕ) (cs : List ℕ) → (c == 61) ≡ false → may_follow K.Sign (codes "!") (c ∷ cs) ≡ true
bang_by c cs h = rw h refl

-- a `!` ends before what doesn't begin with `=`
bang_word : (bytes rest : List ℕ) → is_word bytes ≡ true → may_follow K.Sign (codes "!") (bytes ++ rest) ≡ true
bang_word [] rest h = absurd (cc)
bang_word (c ∷ cs) rest h = bang_by c (cs ++ rest) (letter_no_assign c (and_parts (is_letter c) (list_all is_word_byte cs) h).0)

bang_number : (bytes rest : List ℕ) → is_number bytes ≡ true → may_follow K.Sign (codes "!") (bytes ++ rest) ≡ true
bang_number [] rest h = absurd (cc)
bang_number (c ∷ cs) rest h = bang_by c (cs ++ rest) (digit_no_assign c (number_digit c cs (c == 48) refl h))

bang_follows : (x : PlainToken) (rest : List ℕ) → IsOfKind (lexeme_kind x) (lexeme_text x) → begins_with_assign x ≡ false → may_follow K.Sign (codes "!") (lexeme_text x ++ rest) ≡ true
bang_follows (Named name) rest k h = bang_word name rest k.0
bang_follows (Numeral n) rest k h = bang_number (decimal n) rest k.0
bang_follows (Fixed T.Assign) rest k h = absurd (cc)
bang_follows (Fixed T.EqualTo) rest k h = absurd (cc)
bang_follows (Fixed t) rest k h = refl

-- no token begins with a blank
blank_word : (bytes rest : List ℕ) → is_word bytes ≡ true → stops is_blank (bytes ++ rest) ≡ true
blank_word [] rest h = absurd (cc)
blank_word (c ∷ cs) rest h = rw (letter_no_blank c (and_parts (is_letter c) (list_all is_word_byte cs) h).0) refl

blank_number : (bytes rest : List ℕ) → is_number bytes ≡ true → stops is_blank (bytes ++ rest) ≡ true
blank_number [] rest h = absurd (cc)
blank_number (c ∷ cs) rest h = rw (digit_no_blank c (number_digit c cs (c == 48) refl h)) refl

no_blank : (x : PlainToken) (rest : List ℕ) → IsOfKind (lexeme_kind x) (lexeme_text x) → stops is_blank (lexeme_text x ++ rest) ≡ true
no_blank (Named name) rest k = blank_word name rest k.0
no_blank (Numeral n) rest k = blank_number (decimal n) rest k.0
no_blank (Fixed T.Public) rest k = refl
no_blank (Fixed t) rest k = refl

spaced_layout : (xs : List PlainToken) (depth : ℕ) → begins_quietly (layout P.Spaced depth xs) ≡ true
spaced_layout [] depth = refl
spaced_layout (x ∷ xs) depth = spaced_quiet x depth (line_end_after x ++ layout (place_after x) (braces_after depth x) xs)

callee_layout : (xs : List PlainToken) (depth : ℕ) → begins_quietly (layout P.Callee depth xs) ≡ true
callee_layout [] depth = refl
callee_layout (x ∷ xs) depth = callee_quiet x depth (line_end_after x ++ layout (place_after x) (braces_after depth x) xs)

-- what is laid out behind a token doesn't go on it
follow : (x : PlainToken) (xs : List PlainToken) (depth : ℕ) → AreLexemes xs → Parted (is_bang x) xs
    → may_follow (lexeme_kind x) (lexeme_text x) (line_end_after x ++ layout (place_after x) depth xs) ≡ true
follow (Named name) xs depth k p = word_quiet (layout P.Callee depth xs) (callee_layout xs depth)
follow (Numeral n) xs depth k p = digit_quiet (layout P.Spaced depth xs) (spaced_layout xs depth)
follow (Fixed T.OpenBrace) xs depth k p = refl
follow (Fixed T.CloseBrace) xs depth k p = refl
follow (Fixed T.Semicolon) xs depth k p = refl
follow (Fixed T.OpenParen) xs depth k p = open_follows (layout P.Joined depth xs)
follow (Fixed T.Dot) xs depth k p = dot_follows (layout P.Joined depth xs)
follow (Fixed T.Bang) [] depth k p = absurd (cc)
follow (Fixed T.Bang) (x ∷ xs) depth k p = bang_follows x (line_end_after x ++ layout (place_after x) (braces_after depth x) xs) k.0 (p.0 refl)
follow (Fixed T.Thread) xs depth k p = terminal_quiet T.Thread (layout P.Callee depth xs) (callee_layout xs depth)
follow (Fixed T.Out) xs depth k p = terminal_quiet T.Out (layout P.Callee depth xs) (callee_layout xs depth)
follow (Fixed T.Println) xs depth k p = terminal_quiet T.Println (layout P.Callee depth xs) (callee_layout xs depth)
follow (Fixed T.Start) xs depth k p = terminal_quiet T.Start (layout P.Callee depth xs) (callee_layout xs depth)
follow (Fixed t) xs depth k p = terminal_quiet t (layout P.Spaced depth xs) (spaced_layout xs depth)

all_both : (p : ℕ → Bool) (xs ys : List ℕ) → list_all p xs ≡ true → list_all p ys ≡ true → list_all p (xs ++ ys) ≡ true
all_both p [] ys h k = k
all_both p (x ∷ xs) ys h k = let b = and_parts (p x) (list_all p xs) h in rw (b.0) (all_both p xs ys b.1 k)

indent_blank : (depth : ℕ) → list_all is_blank (indent depth) ≡ true
indent_blank zero = refl
indent_blank (suc depth) = indent_blank depth

gap_blank : (place : NextPlace) (depth : ℕ) (lead : Lead) → list_all is_blank (gap place depth lead) ≡ true
gap_blank P.LineStart depth L.CloseBrace = indent_blank (depth - 1)
gap_blank P.LineStart depth L.OpenParen = indent_blank depth
gap_blank P.LineStart depth L.Joined = indent_blank depth
gap_blank P.LineStart depth L.Spaced = indent_blank depth
gap_blank P.Joined depth lead = refl
gap_blank P.Callee depth L.CloseBrace = refl
gap_blank P.Callee depth L.OpenParen = refl
gap_blank P.Callee depth L.Joined = refl
gap_blank P.Callee depth L.Spaced = refl
gap_blank P.Spaced depth L.CloseBrace = refl
gap_blank P.Spaced depth L.OpenParen = refl
gap_blank P.Spaced depth L.Joined = refl
gap_blank P.Spaced depth L.Spaced = refl

line_end_blank : (x : PlainToken) → list_all is_blank (line_end_after x) ≡ true
line_end_blank (Fixed T.OpenBrace) = refl
line_end_blank (Fixed T.CloseBrace) = refl
line_end_blank (Fixed T.Semicolon) = refl
line_end_blank x = refl

-- blanks, or none, before tokens
blanks_first : (bytes rest : List ℕ) (at : ℕ) (ts : List Token) → list_all is_blank bytes ≡ true → stops is_blank rest ≡ true
    → TokensFrom rest (at + length bytes) ts → TokensFrom (bytes ++ rest) at ts
blanks_first [] rest at ts b s h = subst (λ n. TokensFrom rest n ts) (omega arith) h
blanks_first (c ∷ cs) rest at ts b s h = written_gap (c ∷ cs) rest at ts b s h

same_token : (x : PlainToken) (at : ℕ) → record { kind = lexeme_kind x; text = lexeme_text x; at = at } ≡ plain_token_at at x
same_token (Fixed t) at = refl
same_token (Named name) at = refl
same_token (Numeral n) at = refl

pub cut : (xs : List PlainToken) (place : NextPlace) (depth at : ℕ) (bang : Bool) (before : List ℕ) → list_all is_blank before ≡ true → AreLexemes xs → Parted bang xs
    → (ts : List Token) × TokensFrom (before ++ layout place depth xs) at ts × AreTokensOf xs ts
cut [] place depth at bang before b k p = ([], blanks_first before [] at [] b refl at_end, tt)
cut (x ∷ xs) place depth at bang before b k p =
    let g = gap place depth (lead_of x) in
    let blanks = before ++ g in
    let behind = line_end_after x ++ layout (place_after x) (braces_after depth x) xs in
    let start = at + length blanks in
    let more = cut xs (place_after x) (braces_after depth x) (start + length (lexeme_text x)) (is_bang x) (line_end_after x) (line_end_blank x) k.1 p.1 in
    let here : TokensFrom (lexeme_text x ++ behind) start (record { kind = lexeme_kind x; text = lexeme_text x; at = start } ∷ more.0) =
    written_token (lexeme_kind x) (lexeme_text x) behind start more.0 k.0 (follow x xs (braces_after depth x) k.1 p.1) more.1 in
    let whole = blanks_first blanks (lexeme_text x ++ behind) at _ (all_both is_blank before g b (gap_blank place depth (lead_of x))) (no_blank x behind k.0) here in (
      record { kind = lexeme_kind x; text = lexeme_text x; at = start } ∷ more.0,
      subst (λ z. TokensFrom z at (record { kind = lexeme_kind x; text = lexeme_text x; at = start } ∷ more.0)) (append_assoc before g (lexeme_text x ++ behind)) whole,
      (same_token x start, more.2),
    )
