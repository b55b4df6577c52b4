-- What the pieces of each kind begin with, so that no text is a piece of two kinds.
use Rattle.std.proofs.Common.{◌≡◌, ℕ, ◌≤◌, ◌==◌, ◌&&◌, ◌||◌, not, nat_le, Bool, true, false, List, [], ◌∷◌, inl, inr, length, bytes_eq, if◌then◌else◌, refl, sym, ◌∙◌, subst, arith, eqb-true}
use Rattle.std.proofs.lemmas.Bool.{and_parts, or_cases, not-true}
use Rattle.std.proofs.lemmas.Bool.Decides.{nat_tests}
use Rattle.std.proofs.lemmas.Slice.Eq.{bytes_eq-Decides}
use Rattle.std.specs.List.{list_all, list_any}
use Rattle.lexer.specs.declared.pieces.Piece.{Piece}
use Rattle.lexer.specs.declared.pieces.Piece.TheVariants.{Blanks, Comment, OpenComment, Word, Number, Sign}
use Rattle.lexer.specs.Pieces.{is_piece, is_blank, is_letter, is_digit, is_word_byte, is_in_line, is_sign, signs, closes, holds_close, starts_close}
use Rattle.lexer.proofs.Numbers.{number_digits}

-- no blank, letter or digit
abbrev pub is_mark : ℕ → Bool
is_mark c = not (is_blank c) && not (is_letter c) && not (is_digit c)

-- a sign has one or two bytes, and begins with a mark; only one begins with `/`
abbrev pub is_good_sign : List ℕ → Bool
is_good_sign [] = false
is_good_sign (c ∷ o) = is_mark c && (nat_le (length o) 1 && (if c == 47 then length o == 0 else true))

pub all_of : (test : List ℕ → Bool) (p : List ℕ) (all : List (List ℕ)) → list_all test all ≡ true → list_any (bytes_eq p) all ≡ true → test p ≡ true
all_of test p [] a h = absurd (cc)
all_of test p (x ∷ xs) a h =
    let b = and_parts (test x) (list_all test xs) a in
    elim (or_cases (bytes_eq p x) (list_any (bytes_eq p) xs) h) [
      | inl e ↦ subst (λ y. test y ≡ true) (sym ((bytes_eq-Decides p x).0 e)) b.0
      | inr r ↦ all_of test p xs b.1 r
    ]

pub sign_is_good : (p : List ℕ) → is_sign p ≡ true → is_good_sign p ≡ true
sign_is_good p h = all_of is_good_sign p signs refl h

pub record SignFacts (c : ℕ) (o : List ℕ) : Type 0 where
  pub blank : is_blank c ≡ false
  pub letter : is_letter c ≡ false
  pub digit : is_digit c ≡ false
  pub short : length o ≤ 1
  pub slash : (c == 47) ≡ true → o ≡ []

none_left : (o : List ℕ) → (length o == 0) ≡ true → o ≡ []
none_left [] h = refl
none_left (c ∷ o) h = absurd (let e : length (c ∷ o) ≡ 0 = eqb-true (length (c ∷ o)) 0 h in omega arith)

pub sign_facts : (c : ℕ) (o : List ℕ) → is_sign (c ∷ o) ≡ true → SignFacts c o
sign_facts c o h =
    let good = and_parts (is_mark c) (nat_le (length o) 1 && (if c == 47 then length o == 0 else true)) (sign_is_good (c ∷ o) h) in
    let m = and_parts (not (is_blank c) && not (is_letter c)) (not (is_digit c)) good.0 in
    let n = and_parts (not (is_blank c)) (not (is_letter c)) m.0 in
    let r = and_parts (nat_le (length o) 1) (if c == 47 then length o == 0 else true) good.1 in
    let le : nat_le (length o) 1 ≡ true = r.0 in
    let s : (if c == 47 then length o == 0 else true) ≡ true = r.1 in
    record {
      blank = not-true (is_blank c) n.0;
      letter = not-true (is_letter c) n.1;
      digit = not-true (is_digit c) m.1;
      short = grind (arith, nat_tests);
      slash = λ e. none_left o (subst (λ b. (if b then length o == 0 else true) ≡ true) e s);
    }

closed_by : (here later holds one : Bool) → (if here then one else later) ≡ true → (later ≡ true → holds ≡ true) → (here || holds) ≡ true
closed_by true later holds one h f = refl
closed_by false later holds one h f = f h

pub closes_holds : (o : List ℕ) → closes o ≡ true → holds_close o ≡ true
closes_holds [] h = absurd (cc)
closes_holds (c ∷ o) h = closed_by (starts_close (c ∷ o)) (closes o) (holds_close o) (length o == 1) h (closes_holds o)

-- the kind of a piece, by its first two bytes
abbrev after_slash : List ℕ → Piece
after_slash [] = Sign
after_slash (d ∷ o) = if d == 47 then Comment else (if d == 42 then (if holds_close o then Comment else OpenComment) else Sign)

abbrev pub kind_of : List ℕ → Piece
kind_of [] = Sign
kind_of (c ∷ o) =
    if is_blank c then Blanks else (if is_letter c then Word else (if is_digit c then Number else (if c == 47 then after_slash o else Sign)))

comment_kind : (d : ℕ) (o : List ℕ) (line block : Bool) → (d == 47) ≡ line → (d == 42) ≡ block → ((line && list_all is_in_line o) || (block && closes o)) ≡ true
    → after_slash (d ∷ o) ≡ Comment
comment_kind d o true block i j h = rw i refl
comment_kind d o false true i j h = rw (i, j, closes_holds o h) refl
comment_kind d o false false i j h = absurd (cc)

open_kind : (d : ℕ) (o : List ℕ) → (d == 42 && not (holds_close o)) ≡ true → after_slash (d ∷ o) ≡ OpenComment
open_kind d o h =
    let b = and_parts (d == 42) (not (holds_close o)) h in
    let e : d ≡ 42 = eqb-true d 42 b.0 in
    rw (e, not-true (holds_close o) b.1) refl

sign_kind : (c : ℕ) (o : List ℕ) (slash : Bool) → (c == 47) ≡ slash → ((c == 47) ≡ true → o ≡ []) → (if c == 47 then after_slash o else Sign) ≡ Sign
sign_kind c o true e f = rw (e, f e) refl
sign_kind c o false e f = rw e refl

pub kind_is : (kind : Piece) (p : List ℕ) → is_piece kind p ≡ true → kind_of p ≡ kind
kind_is Blanks [] h = absurd (cc)
kind_is Blanks (c ∷ o) h = rw ((and_parts (is_blank c) (list_all is_blank o) h).0) refl
kind_is Comment [] h = absurd (cc)
kind_is Comment (c ∷ []) h = absurd (cc)
kind_is Comment (c ∷ d ∷ o) h =
    let b = and_parts (c == 47) ((d == 47 && list_all is_in_line o) || (d == 42 && closes o)) h in
    let e : c ≡ 47 = eqb-true c 47 b.0 in
    rw e (comment_kind d o (d == 47) (d == 42) refl refl b.1)
kind_is OpenComment [] h = absurd (cc)
kind_is OpenComment (c ∷ []) h = absurd (cc)
kind_is OpenComment (c ∷ d ∷ o) h =
    let b = and_parts (c == 47) (d == 42 && not (holds_close o)) h in
    let e : c ≡ 47 = eqb-true c 47 b.0 in
    rw e (open_kind d o b.1)
kind_is Word [] h = absurd (cc)
kind_is Word (c ∷ o) h =
    let l = (and_parts (is_letter c) (list_all is_word_byte o) h).0 in
    let b : is_blank c ≡ false = grind (arith, nat_tests) in
    rw (b, l) refl
kind_is Number [] h = absurd (cc)
kind_is Number (c ∷ o) h =
    let d = (number_digits c o (c == 48) refl h).0 in
    let b : is_blank c ≡ false = grind (arith, nat_tests) in
    let l : is_letter c ≡ false = grind (arith, nat_tests) in
    rw (b, l, d) refl
kind_is Sign [] h = refl
kind_is Sign (c ∷ o) h = let f = sign_facts c o h in rw (f.blank, f.letter, f.digit) (sign_kind c o (c == 47) refl f.slash)

pub one_kind : (j k : Piece) (p : List ℕ) → is_piece j p ≡ true → is_piece k p ≡ true → j ≡ k
one_kind j k p a b = sym (kind_is j p a) ∙ kind_is k p b

-- no bytes are no piece
pub empty : (j : Piece) → is_piece j [] ≡ true → ⊥
empty Blanks h = cc
empty Comment h = cc
empty OpenComment h = cc
empty Word h = cc
empty Number h = cc
empty Sign h = cc
