-- A text is cut into pieces in one way at most, and has one end: it is read, or has one first fault.
use Rattle.std.proofs.Common.{◌≡◌, ℕ, ◌+◌, ◌^◌, ◌<◌, ◌≤◌, ◌==◌, ◌||◌, Bool, true, false, not, List, [], ◌∷◌, ◌++◌, length, drop, Option, Some, None, if◌then◌else◌, decimal, cond, refl, sym, ◌∙◌, ap, subst, arith, append_assoc, ◌⊎◌, inl, inr, Vec, Result, Ok, Err, MatchResult}
use Rattle.std.specs.Global.{Global}
use Rattle.std.proofs.lemmas.Fmt.{digits_decimal, digits_value-decimal, decimal_nonempty}
use Rattle.std.proofs.lemmas.List.{append_cancel_left}
use Rattle.std.proofs.lemmas.List.Sums.{take_while-cons}
use Rattle.std.proofs.lemmas.Grind.{common_steps}
use Rattle.std.proofs.lemmas.Bool.Decides.{nat_tests}
use Rattle.std.specs.Char.{is_ascii_digit}
use Rattle.std.specs.List.{take_while, list_all}
use Rattle.std.specs.Option.{option_map}
use Rattle.std.specs.Str.{all_ascii_digits}
use Rattle.std.specs.Str.Parse.{digits_value}
use Rattle.std.proofs.lemmas.Bool.{or_parts, and_parts}
use Rattle.base.proofs.Digits.{numerals}
use Rattle.schedule.specs.Text.{Piece, blank, comment, single, group, spelled, is_schedule_blank, ends_entry, ends_comment, IsPiece, piece_count, joined, ArePieces, total, piece_steps, BeginsWithPieces, IsSchedule}
use Rattle.schedule.specs.Faults.{writes_number, first_digits, after_digits, begins_count, count_fault, form_fault, HasFormFault, HasLengthFault, IsReaderAnswer}
use Rattle.schedule.specs.declared.reader.SchedFault.{SchedFault}
use Rattle.schedule.specs.declared.reader.SchedFault.TheVariants as faults
use Rattle.schedule.proofs.ReadLemmas.{length-steps}
use Rattle.schedule.proofs.NumberLemmas.{is_number}

abbrev pub begins_with : (ℕ → Bool) → List ℕ → Bool
begins_with p [] = false
begins_with p (byte ∷ text) = p byte

-- the longest front that passes, where all of it passes and what follows does not
while_step : (p : ℕ → Bool) (byte : ℕ) (xs : List ℕ) (b : Bool) → p byte ≡ b → b ≡ true → cond b (byte ∷ xs) [] ≡ byte ∷ xs
while_step p byte xs true e t = refl
while_step p byte xs false e t = absurd (cc)

while_stop : (p : ℕ → Bool) (ys : List ℕ) → begins_with p ys ≡ false → take_while p ys ≡ []
while_stop p [] stop = refl
while_stop p (y ∷ ys) stop = take_while-cons p y ys ∙ ap (λ b. cond b (y ∷ take_while p ys) []) stop

pub first_of : (p : ℕ → Bool) (xs ys : List ℕ) → list_all p xs ≡ true → begins_with p ys ≡ false → take_while p (xs ++ ys) ≡ xs
first_of p [] ys all stop = while_stop p ys stop
first_of p (x ∷ xs) ys all stop =
    let parts = and_parts (p x) (list_all p xs) all in
    take_while-cons p x (xs ++ ys) ∙ while_step p x (take_while p (xs ++ ys)) (p x) refl parts.0 ∙ ap (λ t. x ∷ t) (first_of p xs ys parts.1 stop)

pub digits_all : (ds : List ℕ) → all_ascii_digits ds ≡ true → list_all is_ascii_digit ds ≡ true
digits_all [] all = refl
digits_all (d ∷ ds) all =
    let parts = and_parts (is_ascii_digit d) (all_ascii_digits ds) all in
    rw (parts.0, digits_all ds parts.1) refl

ends_no_digit : (more : List ℕ) → ends_entry more ≡ true → begins_with is_ascii_digit more ≡ false
ends_no_digit [] e = refl
ends_no_digit (byte ∷ more) e = grind (arith, nat_tests)

ends_no_star : (more : List ℕ) → ends_entry more ≡ true → begins_count more ≡ false
ends_no_star [] e = refl
ends_no_star (byte ∷ more) e = grind (arith, nat_tests)

digit_goes : (byte : ℕ) → is_ascii_digit byte ≡ true → (is_schedule_blank byte || (byte == 35)) ≡ false
digit_goes byte e = grind (arith, nat_tests)

-- digits end no entry
pub front_digit : (ds more : List ℕ) → all_ascii_digits ds ≡ true → 0 < length ds → ends_entry (ds ++ more) ≡ false
front_digit [] more all some = absurd (omega arith)
front_digit (d ∷ ds) more all some = digit_goes d (and_parts (is_ascii_digit d) (all_ascii_digits ds) all).0

pub drop-front : (xs ys : List ℕ) → drop (length xs) (xs ++ ys) ≡ ys
drop-front xs ys = grind (arith, common_steps)

-- a number before something that is no digit
record Number (n : ℕ) (more : List ℕ) : Type 0 where
  first : first_digits (decimal n ++ more) ≡ decimal n
  after : after_digits (decimal n ++ more) ≡ more
  value : digits_value 10 (first_digits (decimal n ++ more)) ≡ n
  goes : ends_entry (decimal n ++ more) ≡ false

number_of : (n : ℕ) (more : List ℕ) → n < 2 ^ 64 → begins_with is_ascii_digit more ≡ false → Number n more
number_of n more small stop =
    let all = digits_decimal numerals n small in
    let first = first_of is_ascii_digit (decimal n) more (digits_all (decimal n) all) stop in
    record {
      first = first;
      after = ap (λ ds. drop (length ds) (decimal n ++ more)) first ∙ drop-front (decimal n) more;
      value = ap (digits_value 10) first ∙ digits_value-decimal numerals n small;
      goes = front_digit (decimal n) more all (decimal_nonempty n small);
    }

writes : (low end n : ℕ) (more : List ℕ) → n < 2 ^ 64 → Number n more → low ≤ n → n < end → writes_number low end (first_digits (decimal n ++ more)) ≡ true
writes low end n more small number from to =
    subst (λ ds. writes_number low end ds ≡ true) (sym number.first) (is_number low end n (decimal n) (sym (digits_value-decimal numerals n small)) refl from to)

entry_at : List ℕ → Piece
entry_at text = if begins_count (after_digits text) then group (digits_value 10 (first_digits text)) (digits_value 10 (first_digits (drop 1 (after_digits text)))) else single (digits_value 10 (first_digits text))

-- the piece at the front of a text
piece_at : List ℕ → Piece
piece_at [] = blank 0
piece_at (byte ∷ rest) = if is_schedule_blank byte then blank byte else (if byte == 35 then comment (take_while (λ c. not (c == 10)) rest) else entry_at (byte ∷ rest))

entry_front : (text : List ℕ) → ends_entry text ≡ false → piece_at text ≡ entry_at text
unfolding piece_at
entry_front [] goes = absurd (cc)
entry_front (byte ∷ rest) goes = let parts = or_parts (is_schedule_blank byte) (byte == 35) goes in rw (parts.0, parts.1) refl

entry_single : (star : Bool) (thread count : ℕ) (n : ℕ) → star ≡ false → thread ≡ n → (if star then group thread count else single thread) ≡ single n
entry_single star thread count n e is = rw e (ap single is)

entry_group : (star : Bool) (thread count : ℕ) (n m : ℕ) → star ≡ true → thread ≡ n → count ≡ m → (if star then group thread count else single thread) ≡ group n m
entry_group star thread count n m e is also = rw e (ap (λ k. group k count) is ∙ ap (group n) also)

fault_single : (ended writes behind star : Bool) (size : ℕ) (count : Option ℕ) → ended ≡ false → writes ≡ true → behind ≡ true →
    (if ended then None else (if not writes then Some 0 else (if behind then None else (if star then option_map (λ n. (size + 1) + n) count else Some size)))) ≡ None
fault_single ended writes behind star size count e w b = rw (e, w, b) refl

fault_group : (ended writes behind star : Bool) (size : ℕ) (count : Option ℕ) → ended ≡ false → writes ≡ true → behind ≡ false → star ≡ true → count ≡ None →
    (if ended then None else (if not writes then Some 0 else (if behind then None else (if star then option_map (λ n. (size + 1) + n) count else Some size)))) ≡ None
fault_group ended writes behind star size count e w b s c = rw (e, w, b, s, c) refl

fault_count : (writes behind : Bool) (size : ℕ) → writes ≡ true → behind ≡ true → (if not writes then Some 0 else (if behind then None else Some size)) ≡ None
fault_count writes behind size w b = rw (w, b) refl

-- what a text is that begins with a piece
pub record Reads (piece : Piece) (text : List ℕ) : Type 0 where
  decoded : piece_at text ≡ piece
  pub sound : form_fault text ≡ None
  pub some : 0 < length text

reads_single : (thread : ℕ) (more : List ℕ) → thread < 2 ^ 32 → ends_entry more ≡ true → Reads (single thread) (decimal thread ++ more)
unfolding entry_at
reads_single thread more small ends =
    let text = decimal thread ++ more in
    let number = number_of thread more (omega arith) (ends_no_digit more ends) in
    record {
      decoded = entry_front text number.goes ∙ entry_single (begins_count (after_digits text)) (digits_value 10 (first_digits text)) (digits_value 10 (first_digits (drop 1 (after_digits text)))) thread
          (ap begins_count number.after ∙ ends_no_star more ends) number.value;
      sound = fault_single (ends_entry text) (writes_number 0 (2 ^ 32) (first_digits text)) (ends_entry (after_digits text)) (begins_count (after_digits text)) (length (first_digits text)) (count_fault (drop 1 (after_digits text)))
          number.goes (writes 0 (2 ^ 32) thread more (omega arith) number (omega arith) small) (ap ends_entry number.after ∙ ends);
      some = grind (arith, common_steps, decimal_nonempty thread (omega arith));
    }

no_count_fault : (count : ℕ) (more : List ℕ) → 0 < count → count < 2 ^ 64 → ends_entry more ≡ true → count_fault (decimal count ++ more) ≡ None
no_count_fault count more positive small ends =
    let text = decimal count ++ more in
    let number = number_of count more small (ends_no_digit more ends) in
    fault_count (writes_number 1 (2 ^ 64) (first_digits text)) (ends_entry (after_digits text)) (length (first_digits text)) (writes 1 (2 ^ 64) count more small number positive small) (ap ends_entry number.after ∙ ends)

reads_group_at : (thread count : ℕ) (more : List ℕ) → thread < 2 ^ 32 → 0 < count → count < 2 ^ 64 → ends_entry more ≡ true → Reads (group thread count) (decimal thread ++ (42 ∷ (decimal count ++ more)))
unfolding entry_at
reads_group_at thread count more small positive fits ends =
    let tail = decimal count ++ more in
    let text = decimal thread ++ (42 ∷ tail) in
    let number = number_of thread (42 ∷ tail) (omega arith) refl in
    let counted = number_of count more fits (ends_no_digit more ends) in
    record {
      decoded = entry_front text number.goes ∙ entry_group (begins_count (after_digits text)) (digits_value 10 (first_digits text)) (digits_value 10 (first_digits (drop 1 (after_digits text)))) thread count
          (ap begins_count number.after) number.value (ap (λ t. digits_value 10 (first_digits (drop 1 t))) number.after ∙ counted.value);
      sound = fault_group (ends_entry text) (writes_number 0 (2 ^ 32) (first_digits text)) (ends_entry (after_digits text)) (begins_count (after_digits text)) (length (first_digits text)) (count_fault (drop 1 (after_digits text)))
          number.goes (writes 0 (2 ^ 32) thread (42 ∷ tail) (omega arith) number (omega arith) small) (ap ends_entry number.after) (ap begins_count number.after)
          (ap (λ t. count_fault (drop 1 t)) number.after ∙ no_count_fault count more positive fits ends);
      some = grind (arith, common_steps, decimal_nonempty thread (omega arith));
    }

comment_ends : (more : List ℕ) → ends_comment more ≡ true → begins_with (λ c. not (c == 10)) more ≡ false
comment_ends [] e = refl
comment_ends (byte ∷ more) e = rw e refl

pub reads_of : (piece : Piece) (more : List ℕ) → IsPiece piece more → Reads piece (spelled piece ++ more)
unfolding piece_at
reads_of (blank byte) more is = record { decoded = rw is refl; sound = rw is refl; some = omega arith }
reads_of (comment text) more is = record { decoded = ap comment (first_of (λ c. not (c == 10)) text more is.0 (comment_ends more is.1)); sound = refl; some = omega arith }
reads_of (single thread) more is = reads_single thread more is.0 is.1
reads_of (group thread count) more is = subst (Reads (group thread count)) (sym (append_assoc (decimal thread) (42 ∷ decimal count) more)) (reads_group_at thread count more is.0 is.1 is.2 is.3)

pub same_piece : (p q : Piece) (text : List ℕ) → Reads p text → Reads q text → p ≡ q
same_piece p q text one other = sym one.decoded ∙ other.decoded

-- how a text ends behind its pieces
data Stop : Type 0 where
  finished : Stop
  form_at : ℕ → Stop
  too_long : Stop

record LongEntry (done : ℕ) (rest : List ℕ) : Type 0 where
  entry : Piece
  more : List ℕ
  whole : rest ≡ spelled entry ++ more
  entry_is : IsPiece entry more
  past : 200000 < done + piece_count entry

Stops : ℕ → List ℕ → Stop → Type 0
Stops done rest finished = rest ≡ []
Stops done rest (form_at offset) = form_fault rest ≡ Some offset
Stops done rest too_long = LongEntry done rest

-- where a piece goes on within the limit, no text ends
goes_on : (done : ℕ) (piece : Piece) (rest : List ℕ) (stop : Stop) → Reads piece rest → done + piece_count piece ≤ 200000 → Stops done rest stop → ⊥
unfolding Stops
goes_on done piece rest finished reads fits ends = omega (arith, reads.some, ap length ends)
goes_on done piece rest (form_at offset) reads fits ends = let e : None ≡ Some offset = sym reads.sound ∙ ends in cc
goes_on done piece rest too_long reads fits ends =
    let other = subst (Reads ends.entry) (sym ends.whole) (reads_of ends.entry ends.more ends.entry_is) in
    let same = ap piece_count (same_piece ends.entry piece rest other reads) in
    omega (arith, same, fits, ends.past)

same_stop : (done : ℕ) (rest : List ℕ) (a b : Stop) → Stops done rest a → Stops done rest b → a ≡ b
unfolding Stops
same_stop done rest finished finished one other = refl
same_stop done rest finished (form_at k) one other = absurd (let e : None ≡ Some k = ap form_fault (sym one) ∙ other in cc)
same_stop done rest finished too_long one other = absurd (let r = reads_of other.entry other.more other.entry_is in omega (arith, r.some, ap length (sym one ∙ other.whole)))
same_stop done rest (form_at k) finished one other = absurd (let e : None ≡ Some k = ap form_fault (sym other) ∙ one in cc)
same_stop done rest (form_at k) (form_at j) one other = let e : Some k ≡ Some j = sym one ∙ other in cc
same_stop done rest (form_at k) too_long one other = absurd (let r = reads_of other.entry other.more other.entry_is in let e : None ≡ Some k = sym r.sound ∙ ap form_fault (sym other.whole) ∙ one in cc)
same_stop done rest too_long finished one other = absurd (let r = reads_of one.entry one.more one.entry_is in omega (arith, r.some, ap length (sym other ∙ one.whole)))
same_stop done rest too_long (form_at k) one other = absurd (let r = reads_of one.entry one.more one.entry_is in let e : None ≡ Some k = sym r.sound ∙ ap form_fault (sym one.whole) ∙ other in cc)
same_stop done rest too_long too_long one other = refl

same_cut : (ps qs : List Piece) (done m n : ℕ) (r s : List ℕ) (a b : Stop) → m ≡ done + total ps → n ≡ done + total qs → m ≤ 200000 → n ≤ 200000 →
    joined ps r ≡ joined qs s → ArePieces ps r → ArePieces qs s → Stops m r a → Stops n s b → (ps ≡ qs) × (a ≡ b)
same_cut [] [] done m n r s a b mt nt mf nf same pr qs' one other =
    (refl, same_stop m r a b one (subst (λ k. Stops k r b) (nt ∙ sym mt) (subst (λ t. Stops n t b) (sym same) other)))
same_cut [] (q ∷ qs) done m n r s a b mt nt mf nf same pr qr one other =
    absurd (goes_on m q r a (subst (Reads q) (sym same) (reads_of q (joined qs s) qr.0)) (omega (arith, mt, nt, nf)) one)
same_cut (p ∷ ps) [] done m n r s a b mt nt mf nf same pr qr one other =
    absurd (goes_on n p s b (subst (Reads p) same (reads_of p (joined ps r) pr.0)) (omega (arith, mt, nt, mf)) other)
same_cut (p ∷ ps) (q ∷ qs) done m n r s a b mt nt mf nf same pr qr one other =
    let piece : p ≡ q = same_piece p q (spelled p ++ joined ps r) (reads_of p (joined ps r) pr.0) (subst (Reads q) (sym same) (reads_of q (joined qs s) qr.0)) in
    let rest : joined ps r ≡ joined qs s = append_cancel_left (spelled p) (joined ps r) (joined qs s) (same ∙ ap (λ x. spelled x ++ joined qs s) (sym piece)) in
    let more = same_cut ps qs (done + piece_count p) m n r s a b (omega (arith, mt)) (omega (arith, nt, ap piece_count piece)) mf nf rest pr.1 qr.1 one other in
    (ap (λ x. x ∷ ps) piece ∙ ap (λ xs. q ∷ xs) more.0, more.1)

same_end : (text : List ℕ) (ps qs : List Piece) (r s : List ℕ) (a b : Stop) → BeginsWithPieces text ps r → BeginsWithPieces text qs s → Stops (total ps) r a → Stops (total qs) s b → (ps ≡ qs) × (a ≡ b)
same_end text ps qs r s a b one other ends stops =
    same_cut ps qs 0 (total ps) (total qs) r s a b (omega arith) (omega arith) one.within other.within (sym one.whole ∙ other.whole) one.pieces_are other.pieces_are ends stops

-- a text's schedule has at most 200,000 steps
pub short_schedule : (text s : List ℕ) → IsSchedule text s → length s ≤ 200000
short_schedule text s is = let count = ap length is.steps_are ∙ length-steps is.pieces in omega (arith, count, is.begins.within)

pub one_schedule : (text s t : List ℕ) → IsSchedule text s → IsSchedule text t → s ≡ t
unfolding Stops
one_schedule text s t one other =
    one.steps_are ∙ ap piece_steps (same_end text one.pieces other.pieces [] [] finished finished one.begins other.begins refl refl).0 ∙ sym other.steps_are

pub schedule_or_form : (text s : List ℕ) (place : ℕ) → IsSchedule text s → HasFormFault text place → ⊥
unfolding Stops
schedule_or_form text s place one other =
    let e = (same_end text one.pieces other.pieces [] other.rest finished (form_at other.offset) one.begins other.begins refl other.fault).1 in cc

long_entry : (text : List ℕ) (place : ℕ) → (fault : HasLengthFault text place) → LongEntry (total fault.pieces) (spelled fault.entry ++ fault.rest)
long_entry text place fault = record { entry = fault.entry; more = fault.rest; whole = refl; entry_is = fault.entry_is; past = fault.past }

pub schedule_or_long : (text s : List ℕ) (place : ℕ) → IsSchedule text s → HasLengthFault text place → ⊥
unfolding Stops
schedule_or_long text s place one other =
    let e = (same_end text one.pieces other.pieces [] (spelled other.entry ++ other.rest) finished too_long one.begins other.begins refl (long_entry text place other)).1 in cc

pub form_or_long : (text : List ℕ) (place other_place : ℕ) → HasFormFault text place → HasLengthFault text other_place → ⊥
unfolding Stops
form_or_long text place other_place one other =
    let e = (same_end text one.pieces other.pieces one.rest (spelled other.entry ++ other.rest) (form_at one.offset) too_long one.begins other.begins one.fault (long_entry text other_place other)).1 in cc

offset_of : Stop → ℕ
offset_of finished = 0
offset_of (form_at k) = k
offset_of too_long = 0

pub one_form : (text : List ℕ) (place other_place : ℕ) → HasFormFault text place → HasFormFault text other_place → place ≡ other_place
unfolding Stops offset_of
one_form text place other_place one other =
    let same = same_end text one.pieces other.pieces one.rest other.rest (form_at one.offset) (form_at other.offset) one.begins other.begins one.fault other.fault in
    one.place_is ∙ ap (λ ps. length (joined ps []) + one.offset) same.0 ∙ ap (λ k. length (joined other.pieces []) + offset_of k) same.1 ∙ sym other.place_is

pub one_long : (text : List ℕ) (place other_place : ℕ) → HasLengthFault text place → HasLengthFault text other_place → place ≡ other_place
unfolding Stops
one_long text place other_place one other =
    let same = same_end text one.pieces other.pieces (spelled one.entry ++ one.rest) (spelled other.entry ++ other.rest) too_long too_long one.begins other.begins (long_entry text place one) (long_entry text other_place other) in
    one.place_is ∙ ap (λ ps. length (joined ps [])) same.0 ∙ sym other.place_is

-- the answer is the only right one
pub only_schedule : (text : List ℕ) (r : Result (Vec ℕ Global) SchedFault) → IsReaderAnswer text r → (schedule : List ℕ) → IsSchedule text schedule →
    MatchResult r (λ found. found.items ≡ schedule) (λ fault. fault ≡ faults.NoMemory)
only_schedule text (Ok found) answer schedule is = one_schedule text found.items schedule answer is
only_schedule text (Err (faults.Form place)) answer schedule is = absurd (schedule_or_form text schedule place is answer)
only_schedule text (Err (faults.TooLong place)) answer schedule is = absurd (schedule_or_long text schedule place is answer)
only_schedule text (Err faults.NoMemory) answer schedule is = refl

pub only_form : (text : List ℕ) (r : Result (Vec ℕ Global) SchedFault) → IsReaderAnswer text r → (place : ℕ) → HasFormFault text place →
    MatchResult r (λ found. ⊥) (λ fault. (fault ≡ faults.Form place) ⊎ (fault ≡ faults.NoMemory))
only_form text (Ok found) answer place is = schedule_or_form text found.items place answer is
only_form text (Err (faults.Form other)) answer place is = inl (ap faults.Form (one_form text other place answer is))
only_form text (Err (faults.TooLong other)) answer place is = absurd (form_or_long text place other is answer)
only_form text (Err faults.NoMemory) answer place is = inr refl

pub only_too_long : (text : List ℕ) (r : Result (Vec ℕ Global) SchedFault) → IsReaderAnswer text r → (place : ℕ) → HasLengthFault text place →
    MatchResult r (λ found. ⊥) (λ fault. (fault ≡ faults.TooLong place) ⊎ (fault ≡ faults.NoMemory))
only_too_long text (Ok found) answer place is = schedule_or_long text found.items place answer is
only_too_long text (Err (faults.Form other)) answer place is = absurd (form_or_long text other place answer is)
only_too_long text (Err (faults.TooLong other)) answer place is = inl (ap faults.TooLong (one_long text other place answer is))
only_too_long text (Err faults.NoMemory) answer place is = inr refl
