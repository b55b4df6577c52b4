-- What is read of the parts of a line was written so, and what is written is read.
use Rattle.std.proofs.Common.{◌≡◌, ℕ, ◌-◌, ◌==◌, ◌<◌, ◌^◌, Bool, true, false, List, [], ◌∷◌, ◌++◌, length, drop, take, decimal, cond, if◌then◌else◌, Ok, Err, refl, sym, ◌∙◌, ap, subst, arith}
use Rattle.std.proofs.Math.Seq.{drop-append_seam}
use Rattle.std.proofs.lemmas.Bool.{and_parts, and_from, or_left}
use Rattle.std.proofs.lemmas.Bool.Decides.{nat_tests}
use Rattle.std.proofs.lemmas.List.{take-append-drop, take_rest}
use Rattle.std.proofs.lemmas.List.Elements.{All-from_recursion}
use Rattle.std.proofs.lemmas.Str.{IsUtf8-from_ascii}
use Rattle.std.proofs.lemmas.Str.Ascii.{IsAscii-from_all}
use Rattle.std.proofs.lemmas.List.Folds.{length-prefix_len}
use Rattle.std.proofs.lemmas.List.Sums.{take_while-cons}
use Rattle.std.specs.List.{take_while, list_all, AllByRecursion}
use Rattle.std.specs.Str.{IsUtf8}
use Rattle.lexer.specs.Pieces.{is_letter, is_digit, is_word_byte, is_word}
use Rattle.books.specs.declared.stop.Kind.{Kind}
use Rattle.books.specs.declared.stop.Kind.TheVariants.{Form}
use Rattle.books.specs.Combine.{Res, ◌>>=◌, expect}
use Rattle.books.specs.Reading.{number_at, is_at_end}
use Rattle.books.proofs.BookLaws.{after_ok, sound_ok}
use Rattle.books.proofs.Complete.{complete_number}
use Rattle.books.proofs.Sound.{Bytes, IsNumber, sound_expect, sound_number}
use Rattle.level_check.specs.Reading.{first_word, name_at, level_at}

picked : (b : Bool) (x : ℕ) (xs ys : List ℕ) → b ≡ true → xs ≡ ys → cond b (x ∷ xs) [] ≡ x ∷ ys
picked true x xs ys e same = ap (λ z. x ∷ z) same
picked false x xs ys e same = absurd (let no : false ≡ true = e in cc)

-- a run of bytes that names go on with ends before a blank
run_word : (bs more : List ℕ) → list_all is_word_byte bs ≡ true → take_while is_word_byte (bs ++ (32 ∷ more)) ≡ bs
run_word [] more all = take_while-cons is_word_byte 32 more
run_word (b ∷ bs) more all =
    let parts = and_parts (is_word_byte b) (list_all is_word_byte bs) all in
    take_while-cons is_word_byte b (bs ++ (32 ∷ more)) ∙ picked (is_word_byte b) b (take_while is_word_byte (bs ++ (32 ∷ more))) bs parts.0 (run_word bs more parts.1)

chosen : (b : Bool) (x y z : List ℕ) → b ≡ true → x ≡ z → (if b then x else y) ≡ z
chosen true x y z e same = same
chosen false x y z e same = absurd (let no : false ≡ true = e in cc)

first_written : (name more : List ℕ) → is_word name ≡ true → first_word (name ++ (32 ∷ more)) ≡ name
first_written [] more is = absurd (let no : false ≡ true = is in cc)
first_written (b ∷ bs) more is =
    let parts = and_parts (is_letter b) (list_all is_word_byte bs) is in
    chosen (is_letter b) (take_while is_word_byte (b ∷ (bs ++ (32 ∷ more)))) [] (b ∷ bs) parts.0
    (run_word (b ∷ bs) more (and_from (is_word_byte b) (list_all is_word_byte bs) (or_left (is_letter b) (is_digit b) parts.0) parts.1))

-- a name of these first bytes, and the blank behind it
name_with : List ℕ → List ℕ → Res (List ℕ)
name_with word ts = if is_at_end word then Err (Form, ts) else (expect (32 ∷ []) (drop (length word) ts) >>= λ u rest. Ok (word, rest))

name_with-is : (ts : List ℕ) → name_at ts ≡ name_with (first_word ts) ts
unfolding name_at name_with
name_with-is ts = refl

pub complete_name : (name more : List ℕ) → is_word name ≡ true → name_at (name ++ (32 ∷ more)) ≡ Ok (name, more)
unfolding name_with
complete_name name more is =
    name_with-is (name ++ (32 ∷ more)) ∙ ap (λ w. name_with w (name ++ (32 ∷ more))) (first_written name more is) ∙ read name is
  where
    some : (name : List ℕ) → is_word name ≡ true → is_at_end name ≡ false
    some [] e = absurd (let no : false ≡ true = e in cc)
    some (b ∷ bs) e = refl

    read : (name : List ℕ) → is_word name ≡ true → name_with name (name ++ (32 ∷ more)) ≡ Ok (name, more)
    read name e = rw (some name e, drop-append_seam name (32 ∷ more)) refl

-- the first bytes are a name, where there are any
run_all : (p : ℕ → Bool) (ts : List ℕ) → list_all p (take_while p ts) ≡ true
run_all p [] = refl
run_all p (b ∷ ts) = subst (λ z. list_all p z ≡ true) (sym (take_while-cons p b ts)) (both (p b) refl (run_all p ts))
  where
    both : (k : Bool) → p b ≡ k → list_all p (take_while p ts) ≡ true → list_all p (cond k (b ∷ take_while p ts) []) ≡ true
    both true e rest = and_from (p b) (list_all p (take_while p ts)) e rest
    both false e rest = refl

is_first_word : (ts : List ℕ) → is_at_end (first_word ts) ≡ false → is_word (first_word ts) ≡ true
is_first_word [] some = absurd (let no : true ≡ false = some in cc)
is_first_word (b ∷ ts) some = by (is_letter b) refl some
  where
    word : (k : Bool) → is_word_byte b ≡ k → is_letter b ≡ true → is_word (cond k (b ∷ take_while is_word_byte ts) []) ≡ true
    word true e letter = and_from (is_letter b) (list_all is_word_byte (take_while is_word_byte ts)) letter (run_all is_word_byte ts)
    word false e letter = absurd (let no : false ≡ true = sym e ∙ or_left (is_letter b) (is_digit b) letter in cc)

    by : (k : Bool) → is_letter b ≡ k → is_at_end (if k then take_while is_word_byte (b ∷ ts) else []) ≡ false → is_word (if k then take_while is_word_byte (b ∷ ts) else []) ≡ true
    by true e some = subst (λ z. is_word z ≡ true) (sym (take_while-cons is_word_byte b ts)) (word (is_word_byte b) refl e)
    by false e some = absurd (let no : true ≡ false = some in cc)

run_first : (p : ℕ → Bool) (ts : List ℕ) → take (length (take_while p ts)) ts ≡ take_while p ts
run_first p ts = ap (λ k. take k ts) (length-prefix_len p ts)

word_first : (ts : List ℕ) → take (length (first_word ts)) ts ≡ first_word ts
word_first [] = refl
word_first (b ∷ ts) = by (is_letter b)
  where
    by : (k : Bool) → take (length (if k then take_while is_word_byte (b ∷ ts) else [])) (b ∷ ts) ≡ (if k then take_while is_word_byte (b ∷ ts) else [])
    by true = run_first is_word_byte (b ∷ ts)
    by false = refl

-- a name that was read
pub record IsNamed (ts name rest : List ℕ) : Type 0 where
  pub whole : ts ≡ name ++ (32 ∷ rest)
  pub word : is_word name ≡ true

same_pair : {A : Type 0} (a b : A) (x y : List ℕ) → (let p : Res A = Ok (a, x) in p ≡ Ok (b, y)) → (a ≡ b) × (x ≡ y)
same_pair {A} a b x y e = (ap (λ z. z.0) (pair (a, x) (b, y) e), ap (λ z. z.1) (pair (a, x) (b, y) e))
  where
    pair : (p q : A × List ℕ) → (let r : Res A = Ok p in r ≡ Ok q) → p ≡ q
    pair p q h = cc

pub same_read : {A : Type 0} (r : Res A) (a b : A) (x y : List ℕ) → r ≡ Ok (a, x) → r ≡ Ok (b, y) → (a ≡ b) × (x ≡ y)
same_read r a b x y e f = same_pair a b x y (sym e ∙ f)

pub same_fault : {A : Type 0} (r : Res A) (k j : Kind) (x y : List ℕ) → r ≡ Err (k, x) → r ≡ Err (j, y) → x ≡ y
same_fault {A} r k j x y e f = ap (λ z. z.1) (pair (k, x) (j, y) (sym e ∙ f))
  where
    pair : (p q : Kind × List ℕ) → (let r : Res A = Err p in r ≡ Err q) → p ≡ q
    pair p q h = cc

pub read_or_not : {A : Type 0} (r : Res A) (a : A) (x : List ℕ) (d : Kind × List ℕ) → r ≡ Ok (a, x) → r ≡ Err d → ⊥
read_or_not r a x d e f = absurd (cc)

-- the name and what is behind the blank, as they are cut from the text
pub named_by : (ts rest : List ℕ) (n : ℕ) → n ≡ length (first_word ts) → (n ≡ 0 → ⊥) → expect (32 ∷ []) (take (length ts - n) (drop n ts)) ≡ Ok (tt, rest) → name_at ts ≡ Ok (take n ts, rest)
unfolding name_with
named_by ts rest n e some read =
    name_with-is ts ∙ by (is_at_end (first_word ts)) refl
    ∙ ap (λ w. Ok (w, rest)) (sym (word_first ts) ∙ ap (λ k. take k ts) (sym e))
  where
    nothing_in : (w : List ℕ) → is_at_end w ≡ true → length w ≡ 0
    nothing_in [] h = refl
    nothing_in (b ∷ bs) h = absurd (let no : false ≡ true = h in cc)

    behind : expect (32 ∷ []) (drop (length (first_word ts)) ts) ≡ Ok (tt, rest)
    behind = ap (λ k. expect (32 ∷ []) (drop k ts)) (sym e) ∙ ap (expect (32 ∷ [])) (sym (take_rest ts n)) ∙ read

    by : (k : Bool) → is_at_end (first_word ts) ≡ k → (if k then Err (Form, ts) else (expect (32 ∷ []) (drop (length (first_word ts)) ts) >>= λ u rest. Ok (first_word ts, rest))) ≡ Ok (first_word ts, rest)
    by true h = absurd (some (e ∙ nothing_in (first_word ts) h))
    by false h = ap (λ r. r >>= λ u rest. Ok (first_word ts, rest)) behind

-- each byte of a name is ASCII

low : (b : ℕ) → is_word_byte b ≡ true → b < 128
low b is = grind (arith, nat_tests)

all_low : (bs : List ℕ) → list_all is_word_byte bs ≡ true → AllByRecursion (λ b. b < 128) bs
all_low [] all = tt
all_low (b ∷ bs) all = let parts = and_parts (is_word_byte b) (list_all is_word_byte bs) all in (low b parts.0, all_low bs parts.1)

pub word_text : (bs : List ℕ) → is_word bs ≡ true → IsUtf8 bs
word_text [] is = absurd (let no : false ≡ true = is in cc)
word_text (b ∷ bs) is =
    let parts = and_parts (is_letter b) (list_all is_word_byte bs) is in
    IsUtf8-from_ascii (b ∷ bs) (IsAscii-from_all (b ∷ bs) (All-from_recursion (λ b. b < 128) (b ∷ bs)
    (all_low (b ∷ bs) (and_from (is_word_byte b) (list_all is_word_byte bs) (or_left (is_letter b) (is_digit b) parts.0) parts.1))))

-- no name stands at the end
pub nothing_named : name_at [] ≡ Err (Form, [])
unfolding name_at
nothing_named = refl

pub sound_name : (ts name rest : List ℕ) → name_at ts ≡ Ok (name, rest) → IsNamed ts name rest
unfolding name_with
sound_name ts name rest e = by (is_at_end (first_word ts)) refl (sym (name_with-is ts) ∙ e)
  where
    by : (k : Bool) → is_at_end (first_word ts) ≡ k → (if k then Err (Form, ts) else (expect (32 ∷ []) (drop (length (first_word ts)) ts) >>= λ u rest. Ok (first_word ts, rest))) ≡ Ok (name, rest) → IsNamed ts name rest
    by true k e = absurd (cc)
    by false k e =
        let w = first_word ts in
        let f = after_ok (expect (32 ∷ []) (drop (length w) ts)) (λ u rest. Ok (w, rest)) (name, rest) e in
        let same = same_pair w name f.1 rest f.3 in
        let s = sound_ok (Bytes (32 ∷ [])) (drop (length w) ts) f.0 f.1 (expect (32 ∷ []) (drop (length w) ts)) (sound_expect (32 ∷ []) (drop (length w) ts)) f.2 in
        let behind : drop (length w) ts ≡ 32 ∷ rest = s.1 ∙ ap (λ z. z ++ f.1) s.2 ∙ ap (λ z. 32 ∷ z) same.1 in
        record {
          whole = sym (take-append-drop (length w) ts) ∙ (λ i. (word_first ts ∙ same.0) i ++ behind i);
          word = subst (λ z. is_word z ≡ true) same.0 (is_first_word ts k);
        }

-- a level that was read
pub record IsLeveled (ts : List ℕ) (n : ℕ) (rest : List ℕ) : Type 0 where
  pub whole : ts ≡ decimal n ++ (10 ∷ rest)
  pub positive : 0 < n
  pub fits : n < 2 ^ 32

pub sound_level : (ts : List ℕ) (n : ℕ) (rest : List ℕ) → level_at ts ≡ Ok (n, rest) → IsLeveled ts n rest
unfolding level_at
sound_level ts n rest e =
    let f = after_ok (number_at (2 ^ 32) ts) (λ n behind. if n == 0 then Err (Form, ts) else (expect (10 ∷ []) behind >>= λ u rest. Ok (n, rest))) (n, rest) e in
    by f.0 f.1 f.2 (f.0 == 0) refl f.3
  where
    by : (m : ℕ) (behind : List ℕ) → number_at (2 ^ 32) ts ≡ Ok (m, behind) → (k : Bool) → (m == 0) ≡ k → (if k then Err (Form, ts) else (expect (10 ∷ []) behind >>= λ u rest. Ok (m, rest))) ≡ Ok (n, rest) → IsLeveled ts n rest
    by m behind read true k e = absurd (cc)
    by m behind read false k e =
        let s = sound_ok (IsNumber (2 ^ 32)) ts m behind (number_at (2 ^ 32) ts) (sound_number (2 ^ 32) (omega arith) ts) read in
        let f = after_ok (expect (10 ∷ []) behind) (λ u rest. Ok (m, rest)) (n, rest) e in
        let same = same_pair m n f.1 rest f.3 in
        let b = sound_ok (Bytes (10 ∷ [])) behind f.0 f.1 (expect (10 ∷ []) behind) (sound_expect (10 ∷ []) behind) f.2 in
        let some : 0 < m = grind (arith, nat_tests) in
        record {
          whole = s.1 ∙ (λ i. (s.2.0 ∙ ap decimal same.0) i ++ (b.1 ∙ ap (λ z. z ++ f.1) b.2 ∙ ap (λ z. 10 ∷ z) same.1) i);
          positive = subst (λ z. 0 < z) same.0 some;
          fits = subst (λ z. z < 2 ^ 32) same.0 s.2.1;
        }

pub complete_level : (n : ℕ) (more : List ℕ) → 0 < n → n < 2 ^ 32 → level_at (decimal n ++ (10 ∷ more)) ≡ Ok (n, more)
unfolding level_at
complete_level n more some fits =
    let test : (n == 0) ≡ false = grind (arith, nat_tests) in
    rw (complete_number (2 ^ 32) n (10 ∷ more) fits (omega arith) refl, test) refl
