-- The front that is found is the longest piece that begins the text.
use Rattle.std.proofs.Common.{◌≡◌, ℕ, suc, ◌+◌, ◌<◌, ◌≤◌, ◌==◌, ◌&&◌, ◌||◌, nat_lt, Bool, true, false, List, [], ◌∷◌, ◌++◌, inl, inr, length, take, drop, get_or, Some, None, Option, if◌then◌else◌, refl, ap, sym, ◌∙◌, subst, arith, eqb-true, length-append, eq-or-lt_of_le, IsUtf8, IsCharBoundary, take-append-drop}
use Rattle.std.proofs.lemmas.Bool.Decides.{nat_tests}
use Rattle.std.proofs.lemmas.Grind.{common_steps}
use Rattle.std.proofs.lemmas.List.Sums.{prefix_len-le-length, prefix_len_stops}
use Rattle.std.proofs.lemmas.Str.{IsCharBoundary-end, IsCharBoundary-before_ascii, IsCharBoundary-after_ascii}
use Rattle.std.specs.List.{prefix_len, list_all}
use Rattle.lexer.specs.declared.pieces.Piece.{Piece}
use Rattle.lexer.specs.declared.pieces.Piece.TheVariants.{Blanks, Comment, OpenComment, Word, Number, Sign}
use Rattle.lexer.specs.declared.pieces.Front.{Front}
use Rattle.lexer.specs.Pieces.{is_piece, is_blank, is_letter, is_digit, is_word_byte, is_in_line, is_sign, is_open_comment, signs, closes, holds_close}
use Rattle.lexer.specs.Reading.{front_of, close_end, block_by, block_front, slash_front, sign_front, longest_piece}
use Rattle.lexer.specs.Tokens.{Longest, NoPiece}
use Rattle.lexer.proofs.Sorts.{kind_of, kind_is, sign_facts, all_of, empty}
use Rattle.lexer.proofs.Closing.{close_none, closes_end, close_after, close_at, CloseAt}
use Rattle.lexer.proofs.Runs.{Found, is_ascii, edge_ascii, run_all, longest_by, run_bound, blanks_found, word_found, number_found, zero_found}

-- Comments, and the sign `/`

whole_longest : (text other after : List ℕ) → text ≡ other ++ after → length other ≤ length text
whole_longest text other after e = omega (arith, ap length e, length-append other after)

line_by : (line : Bool) → (line || false) ≡ true → line ≡ true
line_by true h = refl
line_by false h = absurd (cc)

line_of : (o : List ℕ) → is_piece Comment (47 ∷ 47 ∷ o) ≡ true → list_all is_in_line o ≡ true
line_of o h = line_by (list_all is_in_line o) h

line_end_ascii : (c : ℕ) → is_in_line c ≡ false → c < 128
line_end_ascii c h = grind (arith, nat_tests)

line_edge : (cs : List ℕ) → IsCharBoundary (47 ∷ 47 ∷ cs) (suc (suc (prefix_len is_in_line cs)))
line_edge cs = elim (eq-or-lt_of_le (prefix_len-le-length is_in_line cs)) [
  | inl e ↦ subst (λ n. IsCharBoundary (47 ∷ 47 ∷ cs) (suc (suc n))) (sym e) (IsCharBoundary-end (47 ∷ 47 ∷ cs))
  | inr l ↦ IsCharBoundary-before_ascii (47 ∷ 47 ∷ cs) (suc (suc (prefix_len is_in_line cs))) (omega arith)
      (line_end_ascii (get_or cs (prefix_len is_in_line cs) 0) (prefix_len_stops is_in_line cs 0 l))
]

line_bound : (cs other after : List ℕ) (its : Piece) → 47 ∷ 47 ∷ cs ≡ other ++ after → is_piece its other ≡ true
    → length other ≤ suc (suc (prefix_len is_in_line cs))
line_bound cs [] after its w is = omega arith
line_bound cs (a ∷ []) after its w is = omega arith
line_bound cs (a ∷ b ∷ o) after its w is =
    let e : a ≡ 47 = cc in
    let f : b ≡ 47 = cc in
    let g : cs ≡ o ++ after = cc in
    let here : is_piece its (47 ∷ 47 ∷ o) ≡ true = subst (λ x. is_piece its (x ∷ 47 ∷ o) ≡ true) e (subst (λ x. is_piece its (a ∷ x ∷ o) ≡ true) f is) in
    let i : its ≡ Comment = sym (kind_is its (47 ∷ 47 ∷ o) here) in
    let line = line_of o (subst (λ j. is_piece j (47 ∷ 47 ∷ o) ≡ true) i here) in
    let r = run_bound is_in_line cs o after g line in
    omega arith

line_found : (cs : List ℕ) → Found (47 ∷ 47 ∷ cs) Comment (suc (suc (prefix_len is_in_line cs)))
line_found cs = record {
  within = omega (arith, prefix_len-le-length is_in_line cs);
  is = rw (run_all is_in_line cs) refl;
  longest = line_bound cs;
  edge = λ u. line_edge cs;
}

block_of : (o : List ℕ) → is_piece Comment (47 ∷ 42 ∷ o) ≡ true → closes o ≡ true
block_of o h = h

block_kinds : (o after : List ℕ) (n : ℕ) (holds : Bool) (its : Piece) → holds_close o ≡ holds → close_end (o ++ after) ≡ Some n
    → (if holds then Comment else OpenComment) ≡ its → is_piece its (47 ∷ 42 ∷ o) ≡ true → length o ≤ n
block_kinds o after n true its h e k is =
    let c = block_of o (subst (λ j. is_piece j (47 ∷ 42 ∷ o) ≡ true) (sym k) is) in
    let s : Some (length o) ≡ Some n = sym (closes_end o after c) ∙ e in
    let l : length o ≡ n = cc in
    omega arith
block_kinds o after n false its h e k is = close_after o after n h e

block_bound : (cs : List ℕ) (n : ℕ) → close_end cs ≡ Some n → (other after : List ℕ) (its : Piece) → 47 ∷ 42 ∷ cs ≡ other ++ after → is_piece its other ≡ true
    → length other ≤ suc (suc n)
block_bound cs n end [] after its w is = omega arith
block_bound cs n end (a ∷ []) after its w is = omega arith
block_bound cs n end (a ∷ b ∷ o) after its w is =
    let e : a ≡ 47 = cc in
    let f : b ≡ 42 = cc in
    let g : cs ≡ o ++ after = cc in
    let here : is_piece its (47 ∷ 42 ∷ o) ≡ true = subst (λ x. is_piece its (x ∷ 42 ∷ o) ≡ true) e (subst (λ x. is_piece its (a ∷ x ∷ o) ≡ true) f is) in
    let r = block_kinds o after n (holds_close o) its refl (subst (λ xs. close_end xs ≡ Some n) g end) (kind_is its (47 ∷ 42 ∷ o) here) here in
    omega arith

block_edge : (cs : List ℕ) (n : ℕ) → CloseAt cs n → IsUtf8 (47 ∷ 42 ∷ cs) → IsCharBoundary (47 ∷ 42 ∷ cs) (suc (suc n))
block_edge cs n at u =
    let w = at.within in
    let i = at.ends in
    let l : get_or (47 ∷ 42 ∷ cs) (suc (suc at.index)) 0 < 128 = let e = at.last in omega arith in
    subst (IsCharBoundary (47 ∷ 42 ∷ cs)) (let p : suc (suc at.index) + 1 ≡ suc (suc n) = omega arith in p)
    (IsCharBoundary-after_ascii (47 ∷ 42 ∷ cs) (suc (suc at.index)) u (omega arith) l)

open_is : (cs : List ℕ) → holds_close cs ≡ false → is_open_comment (47 ∷ 42 ∷ take (length cs) cs) ≡ true
open_is cs h = let e : take (length cs) cs ≡ cs = grind (arith, common_steps) in rw (e, h) refl

block_found : (cs : List ℕ) (n : ℕ) → close_end cs ≡ Some n → Found (47 ∷ 42 ∷ cs) Comment (suc (suc n))
block_found cs n e =
    let at = close_at cs n e in
    record {
      within = omega (arith, at.within);
      is = at.closed;
      longest = block_bound cs n e;
      edge = λ u. block_edge cs n at u;
    }

open_found : (cs : List ℕ) → close_end cs ≡ None → Found (47 ∷ 42 ∷ cs) OpenComment (suc (suc (length cs)))
open_found cs e = record {
  within = omega arith;
  is = open_is cs (close_none cs e);
  longest = λ other after its w is. whole_longest (47 ∷ 42 ∷ cs) other after w;
  edge = λ u. IsCharBoundary-end (47 ∷ 42 ∷ cs);
}

no_more : (o : List ℕ) → length o ≤ 0 → o ≡ []
no_more [] h = refl
no_more (c ∷ o) h = absurd (omega arith)

-- the sign `/` alone, where no comment begins
slash_alone : (b : ℕ) (o : List ℕ) (its : Piece) → (b == 47) ≡ false → (b == 42) ≡ false → is_piece its (47 ∷ b ∷ o) ≡ true → ⊥
slash_alone b o its x y is =
    let k : kind_of (47 ∷ b ∷ o) ≡ Sign = rw (x, y) refl in
    let i : its ≡ Sign = sym (kind_is its (47 ∷ b ∷ o) is) ∙ k in
    let f = sign_facts 47 (b ∷ o) (subst (λ j. is_piece j (47 ∷ b ∷ o) ≡ true) i is) in
    let e = f.slash refl in cc

slash_bound : (d : ℕ) (cs : List ℕ) → (d == 47) ≡ false → (d == 42) ≡ false → (other after : List ℕ) (its : Piece) → 47 ∷ d ∷ cs ≡ other ++ after
    → is_piece its other ≡ true → length other ≤ 1
slash_bound d cs x y [] after its w is = omega arith
slash_bound d cs x y (a ∷ []) after its w is = omega arith
slash_bound d cs x y (a ∷ b ∷ o) after its w is =
    let e : a ≡ 47 = cc in
    let f : b ≡ d = cc in
    absurd (slash_alone d o its x y (subst (λ z. is_piece its (z ∷ d ∷ o) ≡ true) e (subst (λ z. is_piece its (a ∷ z ∷ o) ≡ true) f is)))

slash_sign : (d : ℕ) (cs : List ℕ) → (d == 47) ≡ false → (d == 42) ≡ false → Found (47 ∷ d ∷ cs) Sign 1
slash_sign d cs x y = record {
  within = omega arith;
  is = refl;
  longest = slash_bound d cs x y;
  edge = edge_ascii (47 ∷ d ∷ cs) 1 (omega arith) refl;
}

slash_end : Found (47 ∷ []) Sign 1
slash_end = record {
  within = omega arith;
  is = refl;
  longest = λ other after its w is. whole_longest (47 ∷ []) other after w;
  edge = edge_ascii (47 ∷ []) 1 (omega arith) refl;
}

two_more : (text : List ℕ) (kind : Piece) (n : ℕ) → Found text kind (suc (suc n)) → Found text kind (2 + n)
two_more text kind n f = let e : suc (suc n) ≡ 2 + n = omega arith in subst (Found text kind) e f

one_more : (text : List ℕ) (kind : Piece) (n : ℕ) → Found text kind (suc n) → Found text kind (1 + n)
one_more text kind n f = let e : suc n ≡ 1 + n = omega arith in subst (Found text kind) e f

block_by_end : (cs : List ℕ) (o : Option ℕ) → close_end cs ≡ o → Found (47 ∷ 42 ∷ cs) (block_by (length cs) o).kind (block_by (length cs) o).len
block_by_end cs None e = two_more (47 ∷ 42 ∷ cs) OpenComment (length cs) (open_found cs e)
block_by_end cs (Some n) e = two_more (47 ∷ 42 ∷ cs) Comment n (block_found cs n e)

slash_by_star : (d : ℕ) (cs : List ℕ) (star : Bool) → (d == 47) ≡ false → (d == 42) ≡ star
    → Found (47 ∷ d ∷ cs) (if star then block_front cs else front_of Sign 1).kind (if star then block_front cs else front_of Sign 1).len
slash_by_star d cs true x y =
    let e : d ≡ 42 = eqb-true d 42 y in
    subst (λ z. Found (47 ∷ z ∷ cs) (block_front cs).kind (block_front cs).len) (sym e) (block_by_end cs (close_end cs) refl)
slash_by_star d cs false x y = slash_sign d cs x y

slash_by : (d : ℕ) (cs : List ℕ) (slash : Bool) → (d == 47) ≡ slash
    → Found (47 ∷ d ∷ cs) (if slash then front_of Comment (2 + prefix_len is_in_line cs) else (if d == 42 then block_front cs else front_of Sign 1)).kind
    (if slash then front_of Comment (2 + prefix_len is_in_line cs) else (if d == 42 then block_front cs else front_of Sign 1)).len
slash_by d cs true x =
    let e : d ≡ 47 = eqb-true d 47 x in
    subst (λ z. Found (47 ∷ z ∷ cs) Comment (2 + prefix_len is_in_line cs)) (sym e) (two_more (47 ∷ 47 ∷ cs) Comment (prefix_len is_in_line cs) (line_found cs))
slash_by d cs false x = slash_by_star d cs (d == 42) x refl

slash_found : (cs : List ℕ) → Found (47 ∷ cs) (slash_front cs).kind (slash_front cs).len
slash_found [] = slash_end
slash_found (d ∷ cs) = slash_by d cs (d == 47) refl

-- Signs

sign_ascii : (p : List ℕ) → is_sign p ≡ true → list_all is_ascii p ≡ true
sign_ascii p h = all_of (list_all is_ascii) p signs refl h

-- a byte that begins no word, number, blank or comment
pub record Mark (c : ℕ) : Type 0 where
  blank : is_blank c ≡ false
  letter : is_letter c ≡ false
  digit : is_digit c ≡ false
  slash : (c == 47) ≡ false

sign_only : (c : ℕ) → Mark c → (o : List ℕ) → kind_of (c ∷ o) ≡ Sign
sign_only c m o = rw (m.blank, m.letter, m.digit, m.slash) refl

two_found : (c d : ℕ) (cs : List ℕ) → Mark c → is_sign (c ∷ d ∷ []) ≡ true → Found (c ∷ d ∷ cs) Sign 2
two_found c d cs m h = record {
  within = omega arith;
  is = h;
  longest = longest_by c (d ∷ cs) Sign 1 (sign_only c m) (λ o after e is. (sign_facts c o is).short);
  edge = edge_ascii (c ∷ d ∷ cs) 2 (omega arith) (sign_ascii (c ∷ d ∷ []) h);
}

-- no sign of two bytes begins the text
abbrev NoTwo : ℕ → List ℕ → Type 0
NoTwo c cs = (d : ℕ) (after : List ℕ) → cs ≡ d ∷ after → is_sign (c ∷ d ∷ []) ≡ true → ⊥

sign_bound : (c : ℕ) (cs : List ℕ) → NoTwo c cs → (o after : List ℕ) → cs ≡ o ++ after → is_sign (c ∷ o) ≡ true → length o ≤ 0
sign_bound c cs no_two [] after e is = omega arith
sign_bound c cs no_two (d ∷ []) after e is = absurd (no_two d after e is)
sign_bound c cs no_two (d ∷ f ∷ o) after e is = absurd (let s = (sign_facts c (d ∷ f ∷ o) is).short in omega arith)

one_found : (c : ℕ) (cs : List ℕ) → Mark c → NoTwo c cs → is_sign (c ∷ []) ≡ true → Found (c ∷ cs) Sign 1
one_found c cs m no_two h = record {
  within = omega arith;
  is = h;
  longest = longest_by c cs Sign 0 (sign_only c m) (sign_bound c cs no_two);
  edge = edge_ascii (c ∷ cs) 1 (omega arith) (sign_ascii (c ∷ []) h);
}

no_sign : (c : ℕ) (cs : List ℕ) → Mark c → NoTwo c cs → is_sign (c ∷ []) ≡ false → NoPiece (c ∷ cs)
no_sign c cs m no_two h [] after its w is = empty its is
no_sign c cs m no_two h (d ∷ o) after its w is =
    let e : d ≡ c = cc in
    let f : cs ≡ o ++ after = cc in
    let here : is_piece its (c ∷ o) ≡ true = subst (λ x. is_piece its (x ∷ o) ≡ true) e is in
    let i : its ≡ Sign = sym (kind_is its (c ∷ o) here) ∙ sign_only c m o in
    let sign : is_sign (c ∷ o) ≡ true = subst (λ j. is_piece j (c ∷ o) ≡ true) i here in
    let n : o ≡ [] = no_more o (sign_bound c cs no_two o after f sign) in
    let one : is_sign (c ∷ []) ≡ true = subst (λ x. is_sign (c ∷ x) ≡ true) n sign in
    cc

none_two : (c : ℕ) → NoTwo c []
none_two c d after e is = cc

not_two : (c d : ℕ) (cs : List ℕ) → is_sign (c ∷ d ∷ []) ≡ false → NoTwo c (d ∷ cs)
not_two c d cs h b after e is = let same : d ≡ b = cc in let two : is_sign (c ∷ d ∷ []) ≡ true = subst (λ x. is_sign (c ∷ x ∷ []) ≡ true) (sym same) is in cc

by_tests : (a b two one : Bool) (o : Option Front) → a ≡ true → b ≡ true
    → (if a && two then Some (front_of Sign 2) else (if b && one then Some (front_of Sign 1) else None)) ≡ o
    → (if two then Some (front_of Sign 2) else (if one then Some (front_of Sign 1) else None)) ≡ o
by_tests false b two one o i j e = absurd (cc)
by_tests true false two one o i j e = absurd (cc)
by_tests true true two one o i j e = e

-- where two bytes stand, the code's tests are these
sign_tests : (c d : ℕ) (cs : List ℕ) (o : Option Front) → sign_front (c ∷ d ∷ cs) ≡ o
    → (if is_sign (c ∷ d ∷ []) then Some (front_of Sign 2) else (if is_sign (c ∷ []) then Some (front_of Sign 1) else None)) ≡ o
sign_tests c d cs o e =
    let l : nat_lt 1 (length (c ∷ d ∷ cs)) ≡ true = grind (arith, nat_tests) in
    let m : nat_lt 0 (length (c ∷ d ∷ cs)) ≡ true = grind (arith, nat_tests) in
    by_tests (nat_lt 1 (length (c ∷ d ∷ cs))) (nat_lt 0 (length (c ∷ d ∷ cs))) (is_sign (c ∷ d ∷ [])) (is_sign (c ∷ [])) o l m e

-- what the code finds, by its two tests
one_by : (c : ℕ) (cs : List ℕ) (f : Front) (one : Bool) → Mark c → NoTwo c cs → is_sign (c ∷ []) ≡ one
    → (if one then Some (front_of Sign 1) else None) ≡ Some f → Found (c ∷ cs) f.kind f.len
one_by c cs f true m no_two h e = let g : front_of Sign 1 ≡ f = cc in subst (λ x. Found (c ∷ cs) x.kind x.len) g (one_found c cs m no_two h)
one_by c cs f false m no_two h e = absurd (cc)

two_by : (c d : ℕ) (cs : List ℕ) (f : Front) (two : Bool) → Mark c → is_sign (c ∷ d ∷ []) ≡ two
    → (if two then Some (front_of Sign 2) else (if is_sign (c ∷ []) then Some (front_of Sign 1) else None)) ≡ Some f → Found (c ∷ d ∷ cs) f.kind f.len
two_by c d cs f true m h e = let g : front_of Sign 2 ≡ f = cc in subst (λ x. Found (c ∷ d ∷ cs) x.kind x.len) g (two_found c d cs m h)
two_by c d cs f false m h e = one_by c (d ∷ cs) f (is_sign (c ∷ [])) m (not_two c d cs h) refl e

sign_found : (c : ℕ) (cs : List ℕ) (f : Front) → Mark c → sign_front (c ∷ cs) ≡ Some f → Found (c ∷ cs) f.kind f.len
sign_found c [] f m e = one_by c [] f (is_sign (c ∷ [])) m (none_two c) refl e
sign_found c (d ∷ cs) f m e = two_by c d cs f (is_sign (c ∷ d ∷ [])) m refl (sign_tests c d cs (Some f) e)

none_one_by : (c : ℕ) (cs : List ℕ) (one : Bool) → Mark c → NoTwo c cs → is_sign (c ∷ []) ≡ one
    → (if one then Some (front_of Sign 1) else None) ≡ None → NoPiece (c ∷ cs)
none_one_by c cs true m no_two h e = absurd (cc)
none_one_by c cs false m no_two h e = no_sign c cs m no_two h

none_two_by : (c d : ℕ) (cs : List ℕ) (two : Bool) → Mark c → is_sign (c ∷ d ∷ []) ≡ two
    → (if two then Some (front_of Sign 2) else (if is_sign (c ∷ []) then Some (front_of Sign 1) else None)) ≡ None → NoPiece (c ∷ d ∷ cs)
none_two_by c d cs true m h e = absurd (cc)
none_two_by c d cs false m h e = none_one_by c (d ∷ cs) (is_sign (c ∷ [])) m (not_two c d cs h) refl e

no_sign_found : (c : ℕ) (cs : List ℕ) → Mark c → sign_front (c ∷ cs) ≡ None → NoPiece (c ∷ cs)
no_sign_found c [] m e = none_one_by c [] (is_sign (c ∷ [])) m (none_two c) refl e
no_sign_found c (d ∷ cs) m e = none_two_by c d cs (is_sign (c ∷ d ∷ [])) m refl (sign_tests c d cs None e)

-- The whole, by the class of the first byte

-- what stands for a front, and for none
abbrev Tells : ℕ → List ℕ → Option Front → Type 0
Tells c cs None = NoPiece (c ∷ cs)
Tells c cs (Some f) = Found (c ∷ cs) f.kind f.len

sign_tells : (c : ℕ) (cs : List ℕ) (o : Option Front) → Mark c → sign_front (c ∷ cs) ≡ o → Tells c cs o
sign_tells c cs None m e = no_sign_found c cs m e
sign_tells c cs (Some f) m e = sign_found c cs f m e

slash_tells : (c : ℕ) (cs : List ℕ) (b : Bool) → is_blank c ≡ false → is_letter c ≡ false → is_digit c ≡ false → (c == 47) ≡ b
    → Tells c cs (if b then Some (slash_front cs) else sign_front (c ∷ cs))
slash_tells c cs true i j k e =
    let s : c ≡ 47 = eqb-true c 47 e in
    subst (λ z. Found (z ∷ cs) (slash_front cs).kind (slash_front cs).len) (sym s) (slash_found cs)
slash_tells c cs false i j k e = sign_tells c cs (sign_front (c ∷ cs)) (record { blank = i; letter = j; digit = k; slash = e }) refl

digit_tells : (c : ℕ) (cs : List ℕ) (b : Bool) → is_blank c ≡ false → is_letter c ≡ false → (c == 48) ≡ false → is_digit c ≡ b
    → Tells c cs (if b then Some (front_of Number (1 + prefix_len is_digit cs)) else (if c == 47 then Some (slash_front cs) else sign_front (c ∷ cs)))
digit_tells c cs true i j z e = one_more (c ∷ cs) Number (prefix_len is_digit cs) (number_found c cs i j z e)
digit_tells c cs false i j z e = slash_tells c cs (c == 47) i j e refl

zero_tells : (c : ℕ) (cs : List ℕ) (b : Bool) → is_blank c ≡ false → is_letter c ≡ false → (c == 48) ≡ b
    → Tells c cs (if b then Some (front_of Number 1) else (if is_digit c then Some (front_of Number (1 + prefix_len is_digit cs))
    else (if c == 47 then Some (slash_front cs) else sign_front (c ∷ cs))))
zero_tells c cs true i j e = let z : c ≡ 48 = eqb-true c 48 e in subst (λ x. Found (x ∷ cs) Number 1) (sym z) (zero_found cs)
zero_tells c cs false i j e = digit_tells c cs (is_digit c) i j e refl

letter_tells : (c : ℕ) (cs : List ℕ) (b : Bool) → is_blank c ≡ false → is_letter c ≡ b
    → Tells c cs (if b then Some (front_of Word (1 + prefix_len is_word_byte cs)) else (if c == 48 then Some (front_of Number 1)
    else (if is_digit c then Some (front_of Number (1 + prefix_len is_digit cs)) else (if c == 47 then Some (slash_front cs) else sign_front (c ∷ cs)))))
letter_tells c cs true i e = one_more (c ∷ cs) Word (prefix_len is_word_byte cs) (word_found c cs i e)
letter_tells c cs false i e = zero_tells c cs (c == 48) i e refl

blank_tells : (c : ℕ) (cs : List ℕ) (b : Bool) → is_blank c ≡ b
    → Tells c cs (if b then Some (front_of Blanks (1 + prefix_len is_blank cs)) else (if is_letter c then Some (front_of Word (1 + prefix_len is_word_byte cs))
    else (if c == 48 then Some (front_of Number 1) else (if is_digit c then Some (front_of Number (1 + prefix_len is_digit cs))
    else (if c == 47 then Some (slash_front cs) else sign_front (c ∷ cs))))))
blank_tells c cs true e = one_more (c ∷ cs) Blanks (prefix_len is_blank cs) (blanks_found c cs e)
blank_tells c cs false e = letter_tells c cs (is_letter c) e refl

pub found : (text : List ℕ) (f : Front) → longest_piece text ≡ Some f → Found text f.kind f.len
found [] f e = absurd (cc)
found (c ∷ cs) f e = subst (Tells c cs) e (blank_tells c cs (is_blank c) refl)

pub found_none : (text : List ℕ) → 0 < length text → longest_piece text ≡ None → NoPiece text
found_none [] some e = absurd (omega arith)
found_none (c ∷ cs) some e = subst (Tells c cs) e (blank_tells c cs (is_blank c) refl)

pub found_longest : (text : List ℕ) (f : Front) → longest_piece text ≡ Some f → Longest text (take f.len text) (drop f.len text) f.kind
found_longest text f e =
    let x = found text f e in
    let size : length (take f.len text) ≡ f.len = let w = x.within in grind (arith, common_steps) in
    record {
      whole = sym (take-append-drop f.len text);
      is = x.is;
      longest = λ other after its whole is. subst (λ n. length other ≤ n) (sym size) (x.longest other after its whole is);
    }

pub found_split : (text a b : List ℕ) (f : Front) → longest_piece text ≡ Some f → a ≡ take f.len text → b ≡ drop f.len text → Longest text a b f.kind
found_split text a b f e i j = subst (λ x. Longest text x b f.kind) (sym i) (subst (λ x. Longest text (take f.len text) x f.kind) (sym j) (found_longest text f e))

pub nothing_found : (text bytes : List ℕ) (o : Option Front) → 0 < length text → bytes ≡ text → o ≡ longest_piece bytes → o ≡ None → NoPiece text
nothing_found text bytes o some same is none = found_none text some (ap longest_piece (sym same) ∙ sym is ∙ none)
