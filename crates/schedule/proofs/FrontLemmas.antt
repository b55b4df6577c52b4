-- What stands at the front of a text: a blank, a comment, an entry, or the fault of an entry.
use Rattle.std.proofs.Common.{◌≡◌, ℕ, ◌+◌, ◌-◌, ◌^◌, ◌<◌, ◌≤◌, ◌==◌, Bool, true, false, not, List, [], ◌∷◌, ◌++◌, length, take, drop, get_or, Option, Some, None, if◌then◌else◌, decimal, cond, suc, refl, sym, ◌∙◌, ap, subst, arith}
use Rattle.std.proofs.Math.Seq.{take-add}
use Rattle.std.proofs.lemmas.Grind.{common_steps}
use Rattle.std.specs.List.{prefix_len, list_all}
use Rattle.std.specs.Option.{option_map}
use Rattle.std.specs.Str.Parse.{digits_value}
use Rattle.std.proofs.lemmas.List.{take_rest}
use Rattle.std.proofs.lemmas.Option.{cond_some}
use Rattle.schedule.specs.Text.{blank, comment, single, group, is_schedule_blank, ends_entry, ends_comment, BeginsWithPiece, BeginsWithCount}
use Rattle.schedule.specs.Faults.{writes_number, first_digits, after_digits, begins_count, count_fault, form_fault}
use Rattle.schedule.proofs.NumberLemmas.{take-digits, number_is}

pub drop-drop : (n m : ℕ) (xs : List ℕ) → drop n (drop m xs) ≡ drop (m + n) xs
drop-drop n m xs = grind (arith, common_steps)

-- a number that was found
pub found_number : (text : List ℕ) (low end n size : ℕ) → size ≡ length (first_digits text) →
    Some n ≡ (if writes_number low end (first_digits text) then Some (digits_value 10 (first_digits text)) else None) →
    (writes_number low end (first_digits text) ≡ true) × (take size text ≡ decimal n) × (low ≤ n) × (n < end)
found_number text low end n size at found =
    let w = cond_some (writes_number low end (first_digits text)) (digits_value 10 (first_digits text)) n (sym found) in
    let number = number_is low end (first_digits text) w.0 in
    (w.0, take-digits text size at ∙ sym number.0 ∙ ap decimal w.1, omega (arith, number.1, w.1), omega (arith, number.2, w.1))

pub count_front : (text : List ℕ) (count size : ℕ) → size ≡ length (first_digits text) → size ≤ length text →
    Some count ≡ (if writes_number 1 (2 ^ 64) (first_digits text) then Some (digits_value 10 (first_digits text)) else None) →
    ends_entry (take (length text - size) (drop size text)) ≡ true → BeginsWithCount text count size
count_front text count size at within found ends =
    let number = found_number text 1 (2 ^ 64) count size at found in
    record { bytes = number.1; within = within; positive = number.2; fits = number.3; ends = subst (λ t. ends_entry t ≡ true) (take_rest text size) ends }

pub single_front : (text : List ℕ) (thread size : ℕ) → size ≡ length (first_digits text) → size ≤ length text →
    Some thread ≡ (if writes_number 0 (2 ^ 32) (first_digits text) then Some (digits_value 10 (first_digits text)) else None) →
    ends_entry (take (length text - size) (drop size text)) ≡ true → BeginsWithPiece text (single thread) size
single_front text thread size at within found ends =
    let number = found_number text 0 (2 ^ 32) thread size at found in
    record { bytes = number.1; within = within; piece_is = (number.3, subst (λ t. ends_entry t ≡ true) (take_rest text size) ends) }

-- a list that begins with a byte
first_byte : (rest : List ℕ) (byte : ℕ) → 0 < length rest → get_or rest 0 0 ≡ byte → rest ≡ byte ∷ drop 1 rest
first_byte [] byte some e = absurd (omega arith)
first_byte (b ∷ rest) byte some e = ap (λ x. x ∷ rest) e

group_take : (text tail : List ℕ) (size digits : ℕ) → drop size text ≡ 42 ∷ tail → take (size + 1 + digits) text ≡ take size text ++ (42 ∷ take digits tail)
group_take text tail size digits rest =
    let split : take (size + (1 + digits)) text ≡ take size text ++ take (1 + digits) (drop size text) = take-add size (1 + digits) text in
    let one : take (1 + digits) (drop size text) ≡ 42 ∷ take digits tail = rw rest (rw (add_suc digits) refl) in
    ap (λ n. take n text) (omega arith) ∙ split ∙ ap (λ t. take size text ++ t) one
  where
    add_suc : (n : ℕ) → 1 + n ≡ suc n
    add_suc n = omega arith

group_drop : (text tail : List ℕ) (size digits : ℕ) → drop size text ≡ 42 ∷ tail → drop (size + 1 + digits) text ≡ drop digits tail
group_drop text tail size digits rest =
    let one : drop 1 (drop size text) ≡ tail = rw rest refl in
    let e : drop (size + 1) text ≡ tail = sym (drop-drop 1 size text) ∙ one in
    sym (drop-drop digits (size + 1) text) ∙ ap (drop digits) e

-- the rest behind a thread that goes on with a count
pub star_rest : (text : List ℕ) (size : ℕ) → ends_entry (take (length text - size) (drop size text)) ≡ false → get_or (take (length text - size) (drop size text)) 0 0 ≡ 42 →
    drop size text ≡ 42 ∷ drop 1 (drop size text)
star_rest text size goes star =
    let rest = drop size text in
    let goes' : ends_entry rest ≡ false = subst (λ t. ends_entry t ≡ false) (take_rest text size) goes in
    let star' : get_or rest 0 0 ≡ 42 = subst (λ t. get_or t 0 0 ≡ 42) (take_rest text size) star in
    first_byte rest 42 (some rest goes') star'
  where
    some : (t : List ℕ) → ends_entry t ≡ false → 0 < length t
    some [] e = absurd (cc)
    some (b ∷ t) e = omega arith

-- the text behind the star, as a slice of a slice
pub star_tail : (text : List ℕ) (size : ℕ) → take (length (take (length text - size) (drop size text)) - 1) (drop 1 (take (length text - size) (drop size text))) ≡ drop 1 (drop size text)
star_tail text size = take_rest (take (length text - size) (drop size text)) 1 ∙ ap (drop 1) (take_rest text size)

pub group_front : (text tail : List ℕ) (thread size count digits : ℕ) → size ≡ length (first_digits text) → size ≤ length text →
    Some thread ≡ (if writes_number 0 (2 ^ 32) (first_digits text) then Some (digits_value 10 (first_digits text)) else None) →
    drop size text ≡ 42 ∷ tail → BeginsWithCount tail count digits → BeginsWithPiece text (group thread count) (size + 1 + digits)
group_front text tail thread size count digits at within found rest counted =
    let number = found_number text 0 (2 ^ 32) thread size at found in
    let long : length text ≡ size + (1 + length tail) = rw (sym (take-drop-length text size within)) (ap (λ t. size + length t) rest ∙ omega arith) in
    record {
      bytes = group_take text tail size digits rest ∙ ap (λ t. t ++ (42 ∷ take digits tail)) number.1 ∙ ap (λ t. decimal thread ++ (42 ∷ t)) counted.bytes;
      within = omega (arith, long, counted.within);
      piece_is = (number.3, counted.positive, counted.fits, subst (λ t. ends_entry t ≡ true) (sym (group_drop text tail size digits rest)) counted.ends);
    }
  where
    take-drop-length : (text : List ℕ) (n : ℕ) → n ≤ length text → n + length (drop n text) ≡ length text
    take-drop-length text n within = grind (arith, common_steps)

-- the tests of an entry's fault, one after another
pub fault_cases : (ended writes behind star : Bool) (size offset : ℕ) (count : Option ℕ) → ended ≡ false → writes ≡ true → behind ≡ false → star ≡ true → count ≡ Some offset →
    (if ended then None else (if not writes then Some 0 else (if behind then None else (if star then option_map (λ n. (size + 1) + n) count else Some size)))) ≡ Some ((size + 1) + offset)
fault_cases ended writes behind star size offset count e w b s c = rw (e, w, b, s, c) refl

-- the fault of a count behind a thread
pub count_behind : (text tail : List ℕ) (thread size offset : ℕ) → ends_entry text ≡ false → size ≡ length (first_digits text) →
    Some thread ≡ (if writes_number 0 (2 ^ 32) (first_digits text) then Some (digits_value 10 (first_digits text)) else None) →
    ends_entry (take (length text - size) (drop size text)) ≡ false → drop size text ≡ 42 ∷ tail → count_fault tail ≡ Some offset →
    form_fault text ≡ Some (size + 1 + offset)
count_behind text tail thread size offset begins at found goes rest fault =
    let number = found_number text 0 (2 ^ 32) thread size at found in
    let after : after_digits text ≡ 42 ∷ tail = ap (λ n. drop n text) (sym at) ∙ rest in
    let goes' : ends_entry (after_digits text) ≡ false = subst (λ t. ends_entry t ≡ false) (take_rest text size ∙ ap (λ n. drop n text) at) goes in
    let star : begins_count (after_digits text) ≡ true = ap begins_count after in
    let fault' : count_fault (drop 1 (after_digits text)) ≡ Some offset = ap (λ t. count_fault (drop 1 t)) after ∙ fault in
    fault_cases (ends_entry text) (writes_number 0 (2 ^ 32) (first_digits text)) (ends_entry (after_digits text)) (begins_count (after_digits text)) (length (first_digits text)) offset (count_fault (drop 1 (after_digits text)))
    begins number.0 goes' star fault' ∙ ap (λ n. Some (n + 1 + offset)) (sym at)

pub blank_front : (text : List ℕ) → 0 < length text → is_schedule_blank (get_or text 0 0) ≡ true → BeginsWithPiece text (blank (get_or text 0 0)) 1
blank_front [] some e = absurd (omega arith)
blank_front (byte ∷ text) some e = record { bytes = refl; within = omega arith; piece_is = e }

pub one_more : (n : ℕ) → 1 + n ≡ suc n
one_more n = omega arith

not_false : (b : Bool) → not b ≡ false → b ≡ true
not_false true e = refl
not_false false e = absurd (cc)

-- the bytes before the first LF have none, and LF or the end is behind them
record IsComment (m : ℕ) (text : List ℕ) : Type 0 where
  all : list_all (λ byte. not (byte == 10)) (take m text) ≡ true
  end : ends_comment (drop m text) ≡ true
  within : m ≤ length text

comment_step : (byte : ℕ) (text : List ℕ) (b : Bool) (m : ℕ) → not (byte == 10) ≡ b → IsComment m text → IsComment (cond b (1 + m) 0) (byte ∷ text)
comment_step byte text true m e rest = subst (λ n. IsComment n (byte ∷ text)) (sym (one_more m)) (record { all = rw e rest.all; end = rest.end; within = omega (arith, rest.within) })
comment_step byte text false m e rest = record { all = refl; end = not_false (byte == 10) e; within = omega arith }

comment_of : (text : List ℕ) → IsComment (prefix_len (λ byte. not (byte == 10)) text) text
comment_of [] = record { all = refl; end = refl; within = omega arith }
comment_of (byte ∷ text) = comment_step byte text (not (byte == 10)) (prefix_len (λ c. not (c == 10)) text) refl (comment_of text)

comment_at : (text : List ℕ) (m : ℕ) → IsComment m text → BeginsWithPiece (35 ∷ text) (comment (take m text)) (suc m)
comment_at text m rest = record { bytes = refl; within = omega (arith, rest.within); piece_is = (rest.all, rest.end) }

pub comment_front : (text : List ℕ) (n : ℕ) → 0 < length text → get_or text 0 0 ≡ 35 → n ≡ prefix_len (λ byte. not (byte == 10)) text →
    BeginsWithPiece text (comment (take (n - 1) (drop 1 text))) n
comment_front [] n some hash at = absurd (omega arith)
comment_front (byte ∷ text) n some hash at =
    let m = prefix_len (λ c. not (c == 10)) text in
    let count : n ≡ suc m = at ∙ ap (λ c. cond (not (c == 10)) (1 + m) 0) hash ∙ one_more m in
    let less : n - 1 ≡ m = omega (arith, count) in
    let front : BeginsWithPiece (35 ∷ text) (comment (take m text)) (suc m) = comment_at text m (comment_of text) in
    subst (λ b. BeginsWithPiece (b ∷ text) (comment (take (n - 1) text)) n) (sym hash)
    (subst (λ k. BeginsWithPiece (35 ∷ text) (comment (take k text)) n) (sym less) (subst (λ k. BeginsWithPiece (35 ∷ text) (comment (take m text)) k) (sym count) front))
