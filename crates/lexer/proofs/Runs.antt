-- Fronts that are runs of bytes: blanks, words and numbers. Each is the longest piece that begins the text.
use Rattle.std.proofs.Common.{◌≡◌, ℕ, suc, zero, ◌+◌, ◌<◌, ◌≤◌, ◌==◌, nat_lt, Bool, true, false, cond, List, [], ◌∷◌, ◌++◌, length, take, get_or, refl, sym, ◌∙◌, subst, arith, eqb-true, one-add, IsUtf8, IsCharBoundary}
use Rattle.std.proofs.lemmas.Bool.{and_parts}
use Rattle.std.proofs.lemmas.Bool.Decides.{nat_tests}
use Rattle.std.proofs.lemmas.List.Sums.{prefix_len-le-length}
use Rattle.std.proofs.lemmas.Str.{IsCharBoundary-from_take, IsUtf8-from_ascii}
use Rattle.std.specs.List.{prefix_len, list_all}
use Rattle.lexer.specs.declared.pieces.Piece.{Piece}
use Rattle.lexer.specs.declared.pieces.Piece.TheVariants.{Blanks, Word, Number}
use Rattle.lexer.specs.Pieces.{is_piece, is_blank, is_letter, is_digit, is_word_byte}
use Rattle.lexer.proofs.Numbers.{number_digits}
use Rattle.lexer.proofs.Sorts.{kind_of, kind_is}

-- the first n bytes are the longest piece that begins the text, and a text may be cut there
pub record Found (text : List ℕ) (kind : Piece) (n : ℕ) : Type 0 where
  pub within : n ≤ length text
  pub is : is_piece kind (take n text) ≡ true
  pub longest : (other after : List ℕ) (its : Piece) → text ≡ other ++ after → is_piece its other ≡ true → length other ≤ n
  pub edge : IsUtf8 text → IsCharBoundary text n

-- Bytes that are all ASCII

abbrev pub is_ascii : ℕ → Bool
is_ascii c = nat_lt c 128

all_weaker : (p q : ℕ → Bool) → ((c : ℕ) → p c ≡ true → q c ≡ true) → (o : List ℕ) → list_all p o ≡ true → list_all q o ≡ true
all_weaker p q f [] h = refl
all_weaker p q f (c ∷ o) h = let b = and_parts (p c) (list_all p o) h in rw (f c b.0) (all_weaker p q f o b.1)

ascii_at : (o : List ℕ) → list_all is_ascii o ≡ true → (i : ℕ) → get_or o i 0 < 128
ascii_at [] h i = omega arith
ascii_at (c ∷ o) h zero = let e = (and_parts (is_ascii c) (list_all is_ascii o) h).0 in grind (arith, nat_tests)
ascii_at (c ∷ o) h (suc i) = ascii_at o (and_parts (is_ascii c) (list_all is_ascii o) h).1 i

pub edge_ascii : (text : List ℕ) (n : ℕ) → n ≤ length text → list_all is_ascii (take n text) ≡ true → IsUtf8 text → IsCharBoundary text n
edge_ascii text n w a u = IsCharBoundary-from_take text n u w (IsUtf8-from_ascii (take n text) (ascii_at (take n text) a))

-- Runs

run_by : (p : ℕ → Bool) (c : ℕ) (cs : List ℕ) (b : Bool) → p c ≡ b → list_all p (take (prefix_len p cs) cs) ≡ true
    → list_all p (take (cond b (1 + prefix_len p cs) 0) (c ∷ cs)) ≡ true
run_by p c cs true e h = rw (one-add, e) h
run_by p c cs false e h = refl

pub run_all : (p : ℕ → Bool) (cs : List ℕ) → list_all p (take (prefix_len p cs) cs) ≡ true
run_all p [] = refl
run_all p (c ∷ cs) = run_by p c cs (p c) refl (run_all p cs)

run_longest : (p : ℕ → Bool) (o after : List ℕ) → list_all p o ≡ true → length o ≤ prefix_len p (o ++ after)
run_longest p [] after h = omega arith
run_longest p (c ∷ o) after h =
    let b = and_parts (p c) (list_all p o) h in
    let l = run_longest p o after b.1 in
    rw (b.0) (omega arith)

-- Longest pieces, by the kind that the first byte gives

pub longest_by : (c : ℕ) (cs : List ℕ) (kind : Piece) (n : ℕ) → ((o : List ℕ) → kind_of (c ∷ o) ≡ kind)
    → ((o after : List ℕ) → cs ≡ o ++ after → is_piece kind (c ∷ o) ≡ true → length o ≤ n)
    → (other after : List ℕ) (its : Piece) → c ∷ cs ≡ other ++ after → is_piece its other ≡ true → length other ≤ suc n
longest_by c cs kind n k bound [] after its w is = omega arith
longest_by c cs kind n k bound (d ∷ o) after its w is =
    let e : d ≡ c = cc in
    let f : cs ≡ o ++ after = cc in
    let here : is_piece its (c ∷ o) ≡ true = subst (λ x. is_piece its (x ∷ o) ≡ true) e is in
    let i : its ≡ kind = sym (kind_is its (c ∷ o) here) ∙ k o in
    let b = bound o after f (subst (λ j. is_piece j (c ∷ o) ≡ true) i here) in
    omega arith

pub run_bound : (p : ℕ → Bool) (cs o after : List ℕ) → cs ≡ o ++ after → list_all p o ≡ true → length o ≤ prefix_len p cs
run_bound p cs o after e h = subst (λ xs. length o ≤ prefix_len p xs) (sym e) (run_longest p o after h)

ascii_run : (p : ℕ → Bool) (c : ℕ) (cs : List ℕ) → ((d : ℕ) → p d ≡ true → is_ascii d ≡ true) → is_ascii c ≡ true
    → list_all is_ascii (c ∷ take (prefix_len p cs) cs) ≡ true
ascii_run p c cs f h = rw h (all_weaker p is_ascii f (take (prefix_len p cs) cs) (run_all p cs))

blank_ascii : (c : ℕ) → is_blank c ≡ true → is_ascii c ≡ true
blank_ascii c h = grind (arith, nat_tests)

word_ascii : (c : ℕ) → is_word_byte c ≡ true → is_ascii c ≡ true
word_ascii c h = grind (arith, nat_tests)

letter_ascii : (c : ℕ) → is_letter c ≡ true → is_ascii c ≡ true
letter_ascii c h = grind (arith, nat_tests)

digit_ascii : (c : ℕ) → is_digit c ≡ true → is_ascii c ≡ true
digit_ascii c h = grind (arith, nat_tests)

pub blanks_found : (c : ℕ) (cs : List ℕ) → is_blank c ≡ true → Found (c ∷ cs) Blanks (suc (prefix_len is_blank cs))
blanks_found c cs h =
    let w : suc (prefix_len is_blank cs) ≤ suc (length cs) = omega (arith, prefix_len-le-length is_blank cs) in
    record {
      within = w;
      is = rw h (run_all is_blank cs);
      longest = longest_by c cs Blanks (prefix_len is_blank cs) (λ o. rw h refl) (λ o after e is. run_bound is_blank cs o after e (and_parts (is_blank c) (list_all is_blank o) is).1);
      edge = edge_ascii (c ∷ cs) (suc (prefix_len is_blank cs)) w (ascii_run is_blank c cs blank_ascii (blank_ascii c h));
    }

pub word_found : (c : ℕ) (cs : List ℕ) → is_blank c ≡ false → is_letter c ≡ true → Found (c ∷ cs) Word (suc (prefix_len is_word_byte cs))
word_found c cs b h =
    let w : suc (prefix_len is_word_byte cs) ≤ suc (length cs) = omega (arith, prefix_len-le-length is_word_byte cs) in
    record {
      within = w;
      is = rw h (run_all is_word_byte cs);
      longest = longest_by c cs Word (prefix_len is_word_byte cs) (λ o. rw (b, h) refl) (λ o after e is. run_bound is_word_byte cs o after e (and_parts (is_letter c) (list_all is_word_byte o) is).1);
      edge = edge_ascii (c ∷ cs) (suc (prefix_len is_word_byte cs)) w (ascii_run is_word_byte c cs word_ascii (letter_ascii c h));
    }

pub number_found : (c : ℕ) (cs : List ℕ) → is_blank c ≡ false → is_letter c ≡ false → (c == 48) ≡ false → is_digit c ≡ true
    → Found (c ∷ cs) Number (suc (prefix_len is_digit cs))
number_found c cs b l z h =
    let w : suc (prefix_len is_digit cs) ≤ suc (length cs) = omega (arith, prefix_len-le-length is_digit cs) in
    record {
      within = w;
      is = rw (z, h) (run_all is_digit cs);
      longest = longest_by c cs Number (prefix_len is_digit cs) (λ o. rw (b, l, h) refl) (λ o after e is. run_bound is_digit cs o after e (number_digits c o (c == 48) refl is).1);
      edge = edge_ascii (c ∷ cs) (suc (prefix_len is_digit cs)) w (ascii_run is_digit c cs digit_ascii (digit_ascii c h));
    }

zero_alone : (o : List ℕ) → is_piece Number (48 ∷ o) ≡ true → length o ≤ 0
zero_alone [] h = omega arith
zero_alone (c ∷ o) h = absurd (let e : length (c ∷ o) ≡ 0 = eqb-true (length (c ∷ o)) 0 h in omega arith)

pub zero_found : (cs : List ℕ) → Found (48 ∷ cs) Number 1
zero_found cs = record {
  within = omega arith;
  is = refl;
  longest = longest_by 48 cs Number 0 (λ o. refl) (λ o after e is. zero_alone o is);
  edge = edge_ascii (48 ∷ cs) 1 (omega arith) refl;
}
