-- Digits at the front of a text, and the number that they write.
use Rattle.std.proofs.Common.{◌≡◌, ℕ, zero, suc, ◌+◌, ◌-◌, ◌*◌, ◌^◌, ◌<◌, ◌≤◌, ◌&&◌, ◌||◌, Bool, true, false, not, nat_lt, List, [], ◌∷◌, length, take, drop, Some, None, if◌then◌else◌, cond, ◌==◌, get_or, Ok, Err, refl, sym, ◌∙◌, ap, arith}
use Rattle.std.proofs.lemmas.Bool.{and_parts, and_from, and_right, false_from_ne_true, ltb-true, lt-ltb}
use Rattle.std.proofs.lemmas.Int.Digits.{digits_value_more}
use Rattle.std.proofs.lemmas.Str.Parse.{digits_value-take-le}
use Rattle.std.proofs.lemmas.List.Sums.{take_while-cons}
use Rattle.std.proofs.lemmas.List.Folds.{length-prefix_len}
use Rattle.std.proofs.lemmas.Bool.Decides.{nat_tests}
use Rattle.std.specs.Char.{is_ascii_digit}
use Rattle.std.specs.List.{take_while}
use Rattle.std.specs.Str.{all_ascii_digits}
use Rattle.std.specs.Str.Parse.{digits_value}
use Rattle.base.proofs.Digits.{worth}
use Rattle.books.specs.declared.stop.Kind.TheVariants.{Form}
use Rattle.books.specs.Combine.{Res}
use Rattle.books.specs.Reading.{number_digits, number_at, is_at_end}

digits_first : (b : Bool) (byte : ℕ) (text : List ℕ) → is_ascii_digit byte ≡ b → all_ascii_digits (take_while is_ascii_digit text) ≡ true →
    all_ascii_digits (cond b (byte ∷ take_while is_ascii_digit text) []) ≡ true
digits_first true byte text is rest = rw (is, rest) refl
digits_first false byte text is rest = refl

-- the first digits are digits
run_is : (text : List ℕ) → all_ascii_digits (take_while is_ascii_digit text) ≡ true
run_is [] = refl
run_is (byte ∷ text) = rw (take_while-cons is_ascii_digit byte text) (digits_first (is_ascii_digit byte) byte text refl (run_is text))

digits_cases : (b : Bool) (byte : ℕ) (ds : List ℕ) → (byte == 48) ≡ b → all_ascii_digits ds ≡ true → all_ascii_digits (if b then byte ∷ [] else ds) ≡ true
digits_cases true byte ds e are = let same : byte ≡ 48 = grind (arith, nat_tests) in rw same refl
digits_cases false byte ds e are = are

pub digits_are : (text : List ℕ) → all_ascii_digits (number_digits text) ≡ true
digits_are [] = refl
digits_are (byte ∷ text) = digits_cases (byte == 48) byte (take_while is_ascii_digit (byte ∷ text)) refl (run_is (byte ∷ text))

-- the slice of their length is the digits themselves
pub take-run : (text : List ℕ) (n : ℕ) → n ≡ length (take_while is_ascii_digit text) → take n text ≡ take_while is_ascii_digit text
take-run text n e = ap (λ k. take k text) (e ∙ length-prefix_len is_ascii_digit text)

-- a digit in the middle
pub digit_at : (digits : List ℕ) (i : ℕ) → all_ascii_digits digits ≡ true → i < length digits → is_ascii_digit (get_or digits i 0) ≡ true
digit_at [] i are less = absurd (omega (arith, less))
digit_at (d ∷ digits) zero are less = (and_parts (is_ascii_digit d) (all_ascii_digits digits) are).0
digit_at (d ∷ digits) (suc i) are less = digit_at digits i (and_parts (is_ascii_digit d) (all_ascii_digits digits) are).1 (omega (arith, less))

pub from_48 : (d : ℕ) → is_ascii_digit d ≡ true → 48 ≤ d
from_48 d e = grind (arith, nat_tests)

-- the number of one digit more
pub next_number : (digits : List ℕ) (i n : ℕ) → all_ascii_digits digits ≡ true → i < length digits → n ≡ digits_value 10 (take i digits)
    → digits_value 10 (take (i + 1) digits) ≡ n * 10 + (get_or digits i 0 - 48)
next_number digits i n are less is = rw (digits_value_more 10 digits i less, worth (get_or digits i 0) (digit_at digits i are less), is) refl

-- digits whose front writes a number that doesn't fit
pub no_number : (digits : List ℕ) (i : ℕ) → (digits_value 10 (take i digits) < 2 ^ 64 → ⊥)
    → (if nat_lt 0 (length digits) && nat_lt (digits_value 10 digits) (2 ^ 64) then Some (digits_value 10 digits) else None) ≡ None
no_number digits i large =
    let most = digits_value-take-le 10 digits i (omega arith) in
    let test : (nat_lt 0 (length digits) && nat_lt (digits_value 10 digits) (2 ^ 64)) ≡ false =
    and_right (nat_lt 0 (length digits)) (nat_lt (digits_value 10 digits) (2 ^ 64))
    (false_from_ne_true (nat_lt (digits_value 10 digits) (2 ^ 64)) (λ e. let small = ltb-true (digits_value 10 digits) (2 ^ 64) e in large (omega (arith, most, small)))) in
    rw test refl

-- the tests of a number, by what the digits are
unfoldable pub number_with : ℕ → List ℕ → List ℕ → Res ℕ
number_with end ds ts =
    if is_at_end ds || not (nat_lt (digits_value 10 ds) end) then Err (Form, ts) else Ok (digits_value 10 ds, drop (length ds) ts)

pub number_with-is : (end : ℕ) (ts : List ℕ) → number_at end ts ≡ number_with end (number_digits ts) ts
unfolding number_at number_with
number_with-is end ts = refl

some_if : (b : Bool) (n m : ℕ) → Some n ≡ (if b then Some m else None) → (b ≡ true) × (n ≡ m)
some_if true n m e = (refl, cc)
some_if false n m e = absurd (cc)

none_if : (b : Bool) (m : ℕ) → None ≡ (if b then Some m else None) → b ≡ false
none_if true m e = absurd (let e : None ≡ Some m = e in cc)
none_if false m e = refl

not_empty : (ds : List ℕ) → nat_lt 0 (length ds) ≡ true → is_at_end ds ≡ false
not_empty [] e = absurd (let e : false ≡ true = e in cc)
not_empty (d ∷ ds) e = refl

read_with : (end : ℕ) (ds ts : List ℕ) (n : ℕ) → Some n ≡ (if nat_lt 0 (length ds) && nat_lt (digits_value 10 ds) (2 ^ 64) then Some (digits_value 10 ds) else None) →
    n < end → number_with end ds ts ≡ Ok (n, drop (length ds) ts)
unfolding number_with
read_with end ds ts n found small =
    let w = some_if (nat_lt 0 (length ds) && nat_lt (digits_value 10 ds) (2 ^ 64)) n (digits_value 10 ds) found in
    let some : is_at_end ds ≡ false = not_empty ds (and_parts (nat_lt 0 (length ds)) (nat_lt (digits_value 10 ds) (2 ^ 64)) w.0).0 in
    let fits : nat_lt (digits_value 10 ds) end ≡ true = lt-ltb (digits_value 10 ds) end (omega (arith, small, w.1)) in
    rw (some, fits) (ap (λ m. Ok (m, drop (length ds) ts)) (sym w.1))

large_with : (end : ℕ) (ds ts : List ℕ) (n : ℕ) → Some n ≡ (if nat_lt 0 (length ds) && nat_lt (digits_value 10 ds) (2 ^ 64) then Some (digits_value 10 ds) else None) →
    end ≤ n → number_with end ds ts ≡ Err (Form, ts)
unfolding number_with
large_with end ds ts n found large =
    let w = some_if (nat_lt 0 (length ds) && nat_lt (digits_value 10 ds) (2 ^ 64)) n (digits_value 10 ds) found in
    let some : is_at_end ds ≡ false = not_empty ds (and_parts (nat_lt 0 (length ds)) (nat_lt (digits_value 10 ds) (2 ^ 64)) w.0).0 in
    let past : nat_lt (digits_value 10 ds) end ≡ false = false_from_ne_true (nat_lt (digits_value 10 ds) end) (λ e. absurd (omega (arith, ltb-true (digits_value 10 ds) end e, w.1, large))) in
    rw (some, past) refl

none_with : (end : ℕ) (ds ts : List ℕ) → None ≡ (if nat_lt 0 (length ds) && nat_lt (digits_value 10 ds) (2 ^ 64) then Some (digits_value 10 ds) else None) →
    end ≤ 2 ^ 32 → number_with end ds ts ≡ Err (Form, ts)
unfolding number_with
none_with end [] ts none small = refl
none_with end (d ∷ ds) ts none small =
    let test = none_if (nat_lt 0 (length (d ∷ ds)) && nat_lt (digits_value 10 (d ∷ ds)) (2 ^ 64)) (digits_value 10 (d ∷ ds)) none in
    let past : nat_lt (digits_value 10 (d ∷ ds)) end ≡ false = false_from_ne_true (nat_lt (digits_value 10 (d ∷ ds)) end) (λ e.
    let below = ltb-true (digits_value 10 (d ∷ ds)) end e in
    let both : (nat_lt 0 (length (d ∷ ds)) && nat_lt (digits_value 10 (d ∷ ds)) (2 ^ 64)) ≡ true =
    and_from (nat_lt 0 (length (d ∷ ds))) (nat_lt (digits_value 10 (d ∷ ds)) (2 ^ 64)) (lt-ltb 0 (length (d ∷ ds)) (omega arith)) (lt-ltb (digits_value 10 (d ∷ ds)) (2 ^ 64) (omega (arith, below, small))) in
    let no : false ≡ true = sym test ∙ both in absurd (cc)) in
    rw past refl

pub number_read : (end : ℕ) (ds ts : List ℕ) (n : ℕ) → ds ≡ number_digits ts →
    Some n ≡ (if nat_lt 0 (length ds) && nat_lt (digits_value 10 ds) (2 ^ 64) then Some (digits_value 10 ds) else None) →
    n < end → number_at end ts ≡ Ok (n, drop (length ds) ts)
number_read end ds ts n is found small = number_with-is end ts ∙ ap (λ z. number_with end z ts) (sym is) ∙ read_with end ds ts n found small

pub number_large : (end : ℕ) (ds ts : List ℕ) (n : ℕ) → ds ≡ number_digits ts →
    Some n ≡ (if nat_lt 0 (length ds) && nat_lt (digits_value 10 ds) (2 ^ 64) then Some (digits_value 10 ds) else None) →
    end ≤ n → number_at end ts ≡ Err (Form, ts)
number_large end ds ts n is found large = number_with-is end ts ∙ ap (λ z. number_with end z ts) (sym is) ∙ large_with end ds ts n found large

pub number_none : (end : ℕ) (ds ts : List ℕ) → ds ≡ number_digits ts →
    None ≡ (if nat_lt 0 (length ds) && nat_lt (digits_value 10 ds) (2 ^ 64) then Some (digits_value 10 ds) else None) →
    end ≤ 2 ^ 32 → number_at end ts ≡ Err (Form, ts)
number_none end ds ts is none small = number_with-is end ts ∙ ap (λ z. number_with end z ts) (sym is) ∙ none_with end ds ts none small
