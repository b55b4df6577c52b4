-- Digits at the front of a text, and the number that they write.
use Rattle.std.proofs.Common.{◌≡◌, ℕ, ◌^◌, ◌<◌, ◌≤◌, ◌&&◌, Bool, true, false, nat_lt, nat_le, List, [], ◌∷◌, length, take, get_or, Some, None, if◌then◌else◌, decimal, cond, ◌==◌, ◌+◌, ◌-◌, ◌*◌, suc, zero, refl, sym, ◌∙◌, ap, subst, arith}
use Rattle.std.proofs.lemmas.Fmt.{first_decimal, decimal_digit, decimal-digits_value, decimal_nonempty}
use Rattle.std.proofs.lemmas.Str.Parse.{digits_value-take-le}
use Rattle.std.proofs.lemmas.Int.Digits.{digits_value_more}
use Rattle.std.proofs.lemmas.List.{take-take}
use Rattle.std.proofs.lemmas.List.Sums.{take_while-cons, prefix_len_passes, prefix_len_stops}
use Rattle.std.proofs.lemmas.List.Folds.{length-prefix_len}
use Rattle.std.proofs.lemmas.Slice.Eq.{bytes_eq-Decides}
use Rattle.std.proofs.lemmas.Bool.{ltb-false, le-ltb, eqb-true, false_from_ne_true, and_from, and_parts}
use Rattle.std.proofs.lemmas.Bool.Decides.{nat_tests}
use Rattle.std.proofs.lemmas.Option.{cond_some}
use Rattle.std.specs.List.{prefix_len}
use Rattle.std.specs.Char.{is_ascii_digit}
use Rattle.std.specs.Str.{all_ascii_digits, bytes_eq}
use Rattle.std.specs.Str.Parse.{digits_value}
use Rattle.std.specs.Cmp.{both_ways}
use Rattle.base.proofs.Digits.{numerals, worth}
use Rattle.schedule.specs.Faults.{writes_number, first_digits}

digits_first : (b : Bool) (byte : ℕ) (text : List ℕ) → is_ascii_digit byte ≡ b → all_ascii_digits (first_digits text) ≡ true → all_ascii_digits (cond b (byte ∷ first_digits text) []) ≡ true
digits_first true byte text is rest = rw (is, rest) refl
digits_first false byte text is rest = refl

-- the first digits are digits
pub digits_are : (text : List ℕ) → all_ascii_digits (first_digits text) ≡ true
digits_are [] = refl
digits_are (byte ∷ text) = rw (take_while-cons is_ascii_digit byte text) (digits_first (is_ascii_digit byte) byte text refl (digits_are text))

-- the slice of their length is the digits themselves
pub take-digits : (text : List ℕ) (n : ℕ) → n ≡ length (first_digits text) → take n text ≡ first_digits text
take-digits text n e = ap (λ k. take k text) (e ∙ length-prefix_len is_ascii_digit text)

less : (a b : ℕ) → nat_lt a b ≡ true → a < b
less a b e = grind (arith, nat_tests)

at_most : (a b : ℕ) → nat_le a b ≡ true → a ≤ b
at_most a b e = grind (arith, nat_tests)

is_less : (a b : ℕ) → a < b → nat_lt a b ≡ true
is_less a b e = grind (arith, nat_tests)

is_at_most : (a b : ℕ) → a ≤ b → nat_le a b ≡ true
is_at_most a b e = grind (arith, nat_tests)

-- what the test says
pub number_is : (low end : ℕ) (digits : List ℕ) → writes_number low end digits ≡ true →
    (decimal (digits_value 10 digits) ≡ digits) × (low ≤ digits_value 10 digits) × (digits_value 10 digits < end)
number_is low end digits e =
    let parts = and_parts (bytes_eq (decimal (digits_value 10 digits)) digits) (nat_le low (digits_value 10 digits) && nat_lt (digits_value 10 digits) end) e in
    let range = and_parts (nat_le low (digits_value 10 digits)) (nat_lt (digits_value 10 digits) end) parts.1 in
    ((bytes_eq-Decides (decimal (digits_value 10 digits)) digits).0 parts.0, at_most low (digits_value 10 digits) range.0, less (digits_value 10 digits) end range.1)

pub is_number : (low end n : ℕ) (digits : List ℕ) → n ≡ digits_value 10 digits → decimal n ≡ digits → low ≤ n → n < end → writes_number low end digits ≡ true
is_number low end n digits value same from to =
    subst (λ m. (bytes_eq (decimal m) digits && (nat_le low m && nat_lt m end)) ≡ true) value
    (and_from (bytes_eq (decimal n) digits) (nat_le low n && nat_lt n end) ((bytes_eq-Decides (decimal n) digits).1 same) (and_from (nat_le low n) (nat_lt n end) (is_at_most low n from) (is_less n end to)))

no_leading_zero : (n : ℕ) (digits : List ℕ) → decimal n ≡ digits → n < 2 ^ 64 → 1 < length digits → get_or digits 0 0 ≡ 48 → ⊥
no_leading_zero zero digits same small long first =
    let one : length digits ≡ 1 = ap length (sym same ∙ decimal_digit 0 (omega arith)) in omega (arith, one, long)
no_leading_zero (suc n) digits same small long first =
    let high = first_decimal (suc n) (omega arith) small in
    let there : get_or (decimal (suc n)) 0 0 ≡ get_or digits 0 0 = ap (λ ds. get_or ds 0 0) same in
    omega (arith, high, there, first)

-- a leading zero
pub leading_zero : (digits : List ℕ) → (nat_lt 1 (length digits) && (get_or digits 0 0 == 48)) ≡ true → writes_number 0 (2 ^ 64) digits ≡ false
leading_zero digits e =
    let parts = and_parts (nat_lt 1 (length digits)) (get_or digits 0 0 == 48) e in
    false_from_ne_true (writes_number 0 (2 ^ 64) digits) (λ w. let n = number_is 0 (2 ^ 64) digits w in
    no_leading_zero (digits_value 10 digits) digits n.0 n.2 (less 1 (length digits) parts.0) (eqb-true (get_or digits 0 0) 48 parts.1))

one_digit : (digits : List ℕ) → (nat_lt 1 (length digits) && (get_or digits 0 0 == 48)) ≡ false → get_or digits 0 0 ≡ 48 → 0 < length digits → length digits ≡ 1
one_digit digits e first some = grind (arith, nat_tests)

-- no leading zero
pub plain_number : (digits : List ℕ) → all_ascii_digits digits ≡ true → (nat_lt 1 (length digits) && (get_or digits 0 0 == 48)) ≡ false →
    (nat_lt 0 (length digits) && nat_lt (digits_value 10 digits) (2 ^ 64)) ≡ writes_number 0 (2 ^ 64) digits
plain_number digits are first = both_ways (nat_lt 0 (length digits) && nat_lt (digits_value 10 digits) (2 ^ 64)) (writes_number 0 (2 ^ 64) digits)
    (λ e. let parts = and_parts (nat_lt 0 (length digits)) (nat_lt (digits_value 10 digits) (2 ^ 64)) e in
    let some = less 0 (length digits) parts.0 in
    let small = less (digits_value 10 digits) (2 ^ 64) parts.1 in
    is_number 0 (2 ^ 64) (digits_value 10 digits) digits refl (decimal-digits_value numerals digits are some (λ zero. one_digit digits first zero some) small) (omega arith) small)
    (λ w. let n = number_is 0 (2 ^ 64) digits w in
    let some : 0 < length digits = subst (λ ds. 0 < length ds) n.0 (decimal_nonempty (digits_value 10 digits) n.2) in
    and_from (nat_lt 0 (length digits)) (nat_lt (digits_value 10 digits) (2 ^ 64)) (is_less 0 (length digits) some) (is_less (digits_value 10 digits) (2 ^ 64) n.2))

-- no digits write no number
pub no_digits : (digits : List ℕ) → length digits ≡ 0 → writes_number 0 (2 ^ 64) digits ≡ false
no_digits [] none = sym (plain_number [] refl refl)
no_digits (d ∷ digits) none = absurd (omega (arith, none))

-- the test of digits without a leading zero is whether the number fits
pub some_digits : (digits : List ℕ) → all_ascii_digits digits ≡ true → (nat_lt 1 (length digits) && (get_or digits 0 0 == 48)) ≡ false → 0 < length digits →
    nat_lt (digits_value 10 digits) (2 ^ 64) ≡ writes_number 0 (2 ^ 64) digits
some_digits digits are first some = sym (ap (λ b. b && nat_lt (digits_value 10 digits) (2 ^ 64)) (is_less 0 (length digits) some)) ∙ plain_number digits are first

-- A text's digits so far.

-- one more digit
pub more_digits : (text : List ℕ) (i : ℕ) → i ≤ prefix_len is_ascii_digit text → i < length text → is_ascii_digit (get_or text i 0) ≡ true → i + 1 ≤ prefix_len is_ascii_digit text
more_digits text i so_far within is = by (nat_lt i (prefix_len is_ascii_digit text)) refl
  where
    by : (b : Bool) → nat_lt i (prefix_len is_ascii_digit text) ≡ b → i + 1 ≤ prefix_len is_ascii_digit text
    by true e = let l = less i (prefix_len is_ascii_digit text) e in omega (arith, l)
    by false e =
        let over = ltb-false i (prefix_len is_ascii_digit text) e in
        let same : prefix_len is_ascii_digit text ≡ i = omega (arith, so_far, over) in
        let stops = prefix_len_stops is_ascii_digit text 0 (omega (arith, same, within)) in
        let clash : true ≡ false = sym is ∙ ap (λ k. is_ascii_digit (get_or text k 0)) (sym same) ∙ stops in absurd cc

-- no more digit
pub all_digits : (text : List ℕ) (i : ℕ) → i ≤ prefix_len is_ascii_digit text → is_ascii_digit (get_or text i 0) ≡ false → i ≡ prefix_len is_ascii_digit text
all_digits text i so_far is = by (nat_lt i (prefix_len is_ascii_digit text)) refl
  where
    by : (b : Bool) → nat_lt i (prefix_len is_ascii_digit text) ≡ b → i ≡ prefix_len is_ascii_digit text
    by true e = let clash : true ≡ false = sym (prefix_len_passes is_ascii_digit text i 0 (less i (prefix_len is_ascii_digit text) e)) ∙ is in absurd cc
    by false e = let over = ltb-false i (prefix_len is_ascii_digit text) e in omega (arith, so_far, over)

-- the number of one digit more
pub next_number : (text : List ℕ) (i n : ℕ) → i < length text → is_ascii_digit (get_or text i 0) ≡ true → n ≡ digits_value 10 (take i text)
    → digits_value 10 (take (i + 1) text) ≡ n * 10 + (get_or text i 0 - 48)
next_number text i n within is so_far = rw (digits_value_more 10 text i within, worth (get_or text i 0) is, so_far) refl

-- a number that fits, and one that doesn't
pub fits_then : (m n : ℕ) → Some n ≡ (if nat_lt m (2 ^ 64) then Some m else None) → (n ≡ m) × (n < 2 ^ 64)
fits_then m n e =
    let parts = cond_some (nat_lt m (2 ^ 64)) m n (sym e) in
    (sym parts.1, subst (λ k. k < 2 ^ 64) parts.1 (less m (2 ^ 64) parts.0))

pub none_then : (m : ℕ) → None ≡ (if nat_lt m (2 ^ 64) then Some m else None) → nat_lt m (2 ^ 64) ≡ false
none_then m e = by (nat_lt m (2 ^ 64)) e
  where
    by : (b : Bool) → None ≡ (if b then Some m else None) → b ≡ false
    by true e = absurd cc
    by false e = refl

pub fitting : (n m : ℕ) → n ≡ m → n < 2 ^ 64 → Some n ≡ (if nat_lt m (2 ^ 64) then Some m else None)
fitting n m same small = subst (λ k. Some n ≡ (if nat_lt k (2 ^ 64) then Some k else None)) same (rw (is_less n (2 ^ 64) small) refl)

-- digits whose front writes a number that doesn't fit
pub too_large : (text : List ℕ) (i m : ℕ) → i ≤ prefix_len is_ascii_digit text → digits_value 10 (take i text) ≡ m → nat_lt m (2 ^ 64) ≡ false
    → None ≡ (if nat_lt (digits_value 10 (first_digits text)) (2 ^ 64) then Some (digits_value 10 (first_digits text)) else None)
too_large text i m within is large =
    let most = digits_value-take-le 10 (first_digits text) i (omega arith) in
    let front : digits_value 10 (take i (first_digits text)) ≡ m = ap (digits_value 10) (take-take i (prefix_len is_ascii_digit text) text within) ∙ is in
    let over = ltb-false m (2 ^ 64) large in
    rw (le-ltb (digits_value 10 (first_digits text)) (2 ^ 64) (omega (arith, most, front, over))) refl
