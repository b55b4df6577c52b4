-- Pieces that are written one after another are cut off there again.
use Rattle.std.proofs.Common.{◌≡◌, ℕ, suc, ◌+◌, ◌≤◌, ◌==◌, ◌&&◌, ◌||◌, nat_lt, bytes_eq, Bool, true, false, List, [], ◌∷◌, ◌++◌, length, take, drop, Some, None, Ok, Err, All, if◌then◌else◌, refl, ap, ap₂, sym, ◌∙◌, subst, arith, eqb-true, one-add}
use Rattle.std.proofs.Math.Seq.{drop-append_seam, take-append_seam}
use Rattle.std.proofs.lemmas.Bool.{and_parts, or_parts, not-true}
use Rattle.std.proofs.lemmas.Bool.Decides.{nat_tests}
use Rattle.std.specs.List.{prefix_len, list_all}
use Rattle.lexer.specs.Limits.{greatest_literal, longest_word}
use Rattle.lexer.specs.declared.pieces.Piece.{Piece}
use Rattle.lexer.specs.declared.pieces.Piece.TheVariants.{Blanks, Comment, OpenComment, Word, Number, Sign}
use Rattle.lexer.specs.Pieces.{is_piece, is_blanks, is_word, is_number, is_blank, is_letter, is_digit, is_word_byte, is_sign}
use Rattle.lexer.specs.Reading.{front_of, slash_front, sign_front, longest_piece}
use Rattle.lexer.specs.declared.tokens.Token.{Token}
use Rattle.lexer.specs.declared.tokens.TokenKind.{TokenKind}
use Rattle.lexer.specs.declared.tokens.TokenKind.TheVariants as token
use Rattle.lexer.specs.declared.faults.LexFault.TheVariants as fault
use Rattle.lexer.specs.Reserved.{is_reserved}
use Rattle.std.specs.Str.Parse.{digits_value}
use Rattle.std.proofs.lemmas.List.Elements.{All-cons}
use Rattle.lexer.specs.Tokens.{Longest, meaning, word_kind, TokensFrom, at_end, a_gap, a_token, IsOfKind}
use Rattle.lexer.specs.Written.{stops, sign_goes_on, may_follow}
use Rattle.lexer.proofs.Sorts.{sign_facts}
use Rattle.lexer.proofs.Fronts.{found_split}

-- a run ends where the next byte doesn't pass
run_exact : (p : ℕ → Bool) (o rest : List ℕ) → list_all p o ≡ true → stops p rest ≡ true → prefix_len p (o ++ rest) ≡ length o
run_exact p [] [] h s = refl
run_exact p [] (c ∷ cs) h s = rw (not-true (p c) s) refl
run_exact p (c ∷ o) rest h s = let b = and_parts (p c) (list_all p o) h in rw (b.0) (rw (one-add) (ap suc (run_exact p o rest b.1 s)))

written : (bytes rest : List ℕ) (kind : Piece) (n : ℕ) → longest_piece (bytes ++ rest) ≡ Some (front_of kind n) → n ≡ length bytes → Longest (bytes ++ rest) bytes rest kind
written bytes rest kind n e l =
    found_split (bytes ++ rest) bytes rest (front_of kind n) e (sym (ap₂ take l refl ∙ take-append_seam bytes rest)) (sym (ap₂ drop l refl ∙ drop-append_seam bytes rest))

pub written_blanks : (bytes rest : List ℕ) → is_blanks bytes ≡ true → stops is_blank rest ≡ true → Longest (bytes ++ rest) bytes rest Blanks
written_blanks [] rest h s = absurd (cc)
written_blanks (c ∷ o) rest h s =
    let b = and_parts (is_blank c) (list_all is_blank o) h in
    written (c ∷ o) rest Blanks (1 + prefix_len is_blank (o ++ rest)) (rw (b.0) refl) (one-add (prefix_len is_blank (o ++ rest)) ∙ ap suc (run_exact is_blank o rest b.1 s))

pub written_word : (bytes rest : List ℕ) → is_word bytes ≡ true → stops is_word_byte rest ≡ true → Longest (bytes ++ rest) bytes rest Word
written_word [] rest h s = absurd (cc)
written_word (c ∷ o) rest h s =
    let b = and_parts (is_letter c) (list_all is_word_byte o) h in
    let l = b.0 in
    let n : is_blank c ≡ false = grind (arith, nat_tests) in
    written (c ∷ o) rest Word (1 + prefix_len is_word_byte (o ++ rest)) (rw (n, l) refl) (one-add (prefix_len is_word_byte (o ++ rest)) ∙ ap suc (run_exact is_word_byte o rest b.1 s))

zero_only : (o : List ℕ) → (length o == 0) ≡ true → 1 ≡ suc (length o)
zero_only o h = let e : length o ≡ 0 = eqb-true (length o) 0 h in omega arith

number_by : (c : ℕ) (o rest : List ℕ) (zero : Bool) → (c == 48) ≡ zero → (if zero then length o == 0 else (is_digit c && list_all is_digit o)) ≡ true → stops is_digit rest ≡ true
    → Longest (c ∷ (o ++ rest)) (c ∷ o) rest Number
number_by c o rest true e h s =
    let z : c ≡ 48 = eqb-true c 48 e in
    written (c ∷ o) rest Number 1 (subst (λ x. longest_piece (x ∷ (o ++ rest)) ≡ Some (front_of Number 1)) (sym z) refl) (zero_only o h)
number_by c o rest false e h s =
    let b = and_parts (is_digit c) (list_all is_digit o) h in
    let d = b.0 in
    let n : is_blank c ≡ false = grind (arith, nat_tests) in
    let l : is_letter c ≡ false = grind (arith, nat_tests) in
    written (c ∷ o) rest Number (1 + prefix_len is_digit (o ++ rest)) (rw (n, l, e, d) refl) (one-add (prefix_len is_digit (o ++ rest)) ∙ ap suc (run_exact is_digit o rest b.1 s))

pub written_number : (bytes rest : List ℕ) → is_number bytes ≡ true → stops is_digit rest ≡ true → Longest (bytes ++ rest) bytes rest Number
written_number [] rest h s = absurd (cc)
written_number (c ∷ o) rest h s = number_by c o rest (c == 48) refl h s

zero_no_sign : (c : ℕ) → is_digit c ≡ false → (c == 48) ≡ false
zero_no_sign c h = grind (arith, nat_tests)

both_front : (a b two one : Bool) → two ≡ false → b ≡ true → one ≡ true
    → (if a && two then Some (front_of Sign 2) else (if b && one then Some (front_of Sign 1) else None)) ≡ Some (front_of Sign 1)
both_front true b two one i j k = rw (i, j, k) refl
both_front false b two one i j k = rw (j, k) refl

-- the front of a text that begins with a sign
sign_front_is : (c : ℕ) (o cs : List ℕ) → is_sign (c ∷ o) ≡ true → (c == 47) ≡ false → longest_piece (c ∷ cs) ≡ sign_front (c ∷ cs)
sign_front_is c o cs h s =
    let f = sign_facts c o h in
    let z : (c == 48) ≡ false = zero_no_sign c f.digit in
    rw (f.blank, f.letter, z, f.digit, s) refl

two_front : (c d : ℕ) (rest : List ℕ) → is_sign (c ∷ d ∷ []) ≡ true → sign_front (c ∷ d ∷ rest) ≡ Some (front_of Sign 2)
two_front c d rest h = let l : nat_lt 1 (length (c ∷ d ∷ rest)) ≡ true = grind (arith, nat_tests) in rw (l, h) refl

one_front : (c : ℕ) (rest : List ℕ) → is_sign (c ∷ []) ≡ true → sign_goes_on (c ∷ []) rest ≡ false → sign_front (c ∷ rest) ≡ Some (front_of Sign 1)
one_front c [] h g = rw h refl
one_front c (d ∷ rest) h g =
    let n = (or_parts (is_sign (c ∷ d ∷ [])) (bytes_eq (c ∷ []) (47 ∷ []) && (d == 47 || d == 42)) g).0 in
    let l : nat_lt 0 (length (c ∷ d ∷ rest)) ≡ true = grind (arith, nat_tests) in
    both_front (nat_lt 1 (length (c ∷ d ∷ rest))) (nat_lt 0 (length (c ∷ d ∷ rest))) (is_sign (c ∷ d ∷ [])) (is_sign (c ∷ [])) n l h

slash_front_is : (rest : List ℕ) → sign_goes_on (47 ∷ []) rest ≡ false → slash_front rest ≡ front_of Sign 1
slash_front_is [] g = refl
slash_front_is (d ∷ rest) g =
    let n = (or_parts (is_sign (47 ∷ d ∷ [])) (d == 47 || d == 42) g).1 in
    let m = or_parts (d == 47) (d == 42) n in
    rw (m.0, m.1) refl

one_by : (c : ℕ) (rest : List ℕ) (slash : Bool) → (c == 47) ≡ slash → is_sign (c ∷ []) ≡ true → sign_goes_on (c ∷ []) rest ≡ false
    → longest_piece (c ∷ rest) ≡ Some (front_of Sign 1)
one_by c rest true e h g =
    let s : c ≡ 47 = eqb-true c 47 e in
    subst (λ x. longest_piece (x ∷ rest) ≡ Some (front_of Sign 1)) (sym s) (ap Some (slash_front_is rest (subst (λ x. sign_goes_on (x ∷ []) rest ≡ false) s g)))
one_by c rest false e h g = sign_front_is c [] rest h e ∙ one_front c rest h g

two_by : (c d : ℕ) (rest : List ℕ) (slash : Bool) → (c == 47) ≡ slash → is_sign (c ∷ d ∷ []) ≡ true → longest_piece (c ∷ d ∷ rest) ≡ Some (front_of Sign 2)
two_by c d rest true e h = absurd (let f = (sign_facts c (d ∷ []) h).slash e in cc)
two_by c d rest false e h = sign_front_is c (d ∷ []) (d ∷ rest) h e ∙ two_front c d rest h

pub written_sign : (bytes rest : List ℕ) → is_sign bytes ≡ true → sign_goes_on bytes rest ≡ false → Longest (bytes ++ rest) bytes rest Sign
written_sign [] rest h g = absurd (cc)
written_sign (c ∷ []) rest h g = written (c ∷ []) rest Sign 1 (one_by c rest (c == 47) refl h g) refl
written_sign (c ∷ d ∷ []) rest h g = written (c ∷ d ∷ []) rest Sign 2 (two_by c d rest (c == 47) refl h) refl
written_sign (c ∷ d ∷ f ∷ o) rest h g = absurd (let s = (sign_facts c (d ∷ f ∷ o) h).short in omega arith)

word_means : (bytes : List ℕ) (at : ℕ) (reserved : Bool) → length bytes ≤ longest_word → is_reserved bytes ≡ reserved
    → meaning Word bytes at ≡ Ok (Some (if reserved then token.Word else token.Name))
word_means bytes at reserved l r = let s : nat_lt longest_word (length bytes) ≡ false = grind (arith, nat_tests) in rw (s, r) refl

number_means : (bytes : List ℕ) (at n : ℕ) → n ≤ greatest_literal → digits_value 10 bytes ≡ n → meaning Number bytes at ≡ Ok (Some (token.Number n))
number_means bytes at n l e =
    let s : nat_lt greatest_literal (digits_value 10 bytes) ≡ false = grind (arith, nat_tests) in rw s (ap (λ v. Ok (Some (token.Number v))) e)

-- a token that is written first is the first token
pub written_token : (kind : TokenKind) (bytes rest : List ℕ) (at : ℕ) (ts : List Token) → IsOfKind kind bytes → may_follow kind bytes rest ≡ true
    → TokensFrom rest (at + length bytes) ts → TokensFrom (bytes ++ rest) at (record { kind = kind; text = bytes; at = at } ∷ ts)
written_token token.Name bytes rest at ts (w, l, r) f h = a_token Word token.Name (written_word bytes rest w f) (word_means bytes at false l r) h
written_token token.Word bytes rest at ts (w, l, r) f h = a_token Word token.Word (written_word bytes rest w f) (word_means bytes at true l r) h
written_token (token.Number n) bytes rest at ts (w, l, e) f h = a_token Number (token.Number n) (written_number bytes rest w f) (number_means bytes at n l e) h
written_token token.Sign bytes rest at ts w f h = a_token Sign token.Sign (written_sign bytes rest w (not-true (sign_goes_on bytes rest) f)) refl h

pub written_gap : (bytes rest : List ℕ) (at : ℕ) (ts : List Token) → is_blanks bytes ≡ true → stops is_blank rest ≡ true
    → TokensFrom rest (at + length bytes) ts → TokensFrom (bytes ++ rest) at ts
written_gap bytes rest at ts w f h = a_gap Blanks (written_blanks bytes rest w f) refl h

-- what the tokens of a text are

reserved_kind : (bytes : List ℕ) (reserved : Bool) (its : TokenKind) → is_reserved bytes ≡ reserved → is_word bytes ≡ true → length bytes ≤ longest_word
    → (if reserved then token.Word else token.Name) ≡ its → IsOfKind its bytes
reserved_kind bytes true its r w l e = subst (λ k. IsOfKind k bytes) e (w, l, r)
reserved_kind bytes false its r w l e = subst (λ k. IsOfKind k bytes) e (w, l, r)

word_by : (bytes : List ℕ) (at : ℕ) (its : TokenKind) (long : Bool) → nat_lt longest_word (length bytes) ≡ long → is_word bytes ≡ true
    → (if long then Err (fault.NameTooLong at) else Ok (Some (word_kind bytes))) ≡ Ok (Some its) → IsOfKind its bytes
word_by bytes at its true s w e = absurd (cc)
word_by bytes at its false s w e =
    let l : length bytes ≤ longest_word = grind (arith, nat_tests) in
    let k : word_kind bytes ≡ its = cc in
    reserved_kind bytes (is_reserved bytes) its refl w l k

number_by_value : (bytes : List ℕ) (at : ℕ) (its : TokenKind) (large : Bool) → nat_lt greatest_literal (digits_value 10 bytes) ≡ large → is_number bytes ≡ true
    → (if large then Err (fault.LiteralTooLarge at) else Ok (Some (token.Number (digits_value 10 bytes)))) ≡ Ok (Some its) → IsOfKind its bytes
number_by_value bytes at its true s w e = absurd (cc)
number_by_value bytes at its false s w e =
    let l : digits_value 10 bytes ≤ greatest_literal = grind (arith, nat_tests) in
    let k : token.Number (digits_value 10 bytes) ≡ its = cc in
    subst (λ k. IsOfKind k bytes) k (w, l, refl)

of_kind : (kind : Piece) (bytes : List ℕ) (at : ℕ) (its : TokenKind) → is_piece kind bytes ≡ true → meaning kind bytes at ≡ Ok (Some its) → IsOfKind its bytes
of_kind Blanks bytes at its is m = absurd (cc)
of_kind Comment bytes at its is m = absurd (cc)
of_kind OpenComment bytes at its is m = absurd (cc)
of_kind Word bytes at its is m = word_by bytes at its (nat_lt longest_word (length bytes)) refl is m
of_kind Number bytes at its is m = number_by_value bytes at its (nat_lt greatest_literal (digits_value 10 bytes)) refl is m
of_kind Sign bytes at its is m = let k : token.Sign ≡ its = cc in subst (λ k. IsOfKind k bytes) k is

pub kinds_from : {text : List ℕ} {at : ℕ} {ts : List Token} → TokensFrom text at ts → All (λ t. IsOfKind t.kind t.text) ts
kinds_from at_end = λ k d below. absurd (omega arith)
kinds_from (a_gap kind x m r) = kinds_from r
kinds_from (a_token {bytes = bytes} {at = at} {ts = ts} kind its x m r) =
    All-cons (λ t. IsOfKind t.kind t.text) (record { kind = its; text = bytes; at = at }) ts (of_kind kind bytes at its x.is m) (kinds_from r)
