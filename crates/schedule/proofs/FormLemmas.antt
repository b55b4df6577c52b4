-- A fault of form, apart from the reader: what stands before its place begins a text of pieces, and with its byte nothing does.
use Rattle.std.proofs.Common.{◌≡◌, ℕ, ◌+◌, ◌^◌, ◌<◌, ◌==◌, Bool, true, false, not, List, [], ◌∷◌, ◌++◌, length, take, drop, Option, Some, None, if◌then◌else◌, decimal, suc, refl, sym, ◌∙◌, ap, subst, arith, append_assoc, ◌⊎◌, inl, inr}
use Rattle.std.proofs.lemmas.Fmt.{decimal_nonempty}
use Rattle.std.proofs.lemmas.List.{append_cancel_left, append-nil}
use Rattle.std.proofs.lemmas.Bool.Decides.{nat_tests}
use Rattle.std.specs.Char.{is_ascii_digit}
use Rattle.std.specs.Option.{option_map}
use Rattle.std.specs.Str.{all_ascii_digits}
use Rattle.std.specs.Str.Parse.{digits_value}
use Rattle.std.proofs.lemmas.Bool.{eqb-true}
use Rattle.schedule.specs.Text.{Piece, blank, comment, single, group, spelled, is_schedule_blank, ends_entry, ends_comment, IsPiece, joined, ArePieces}
use Rattle.schedule.specs.Faults.{writes_number, first_digits, after_digits, begins_count, count_fault, form_fault, HasFormFault}
use Rattle.schedule.specs.Fronts.{IsFrontOfSchedule, ends_in_star, NoNumber}
use Rattle.schedule.proofs.NumberLemmas.{digits_are, number_is}
use Rattle.schedule.proofs.FrontLemmas.{fault_cases}
use Rattle.schedule.proofs.UniqueLemmas.{begins_with, front_digit, drop-front, Reads, reads_of, same_piece}
use Rattle.schedule.proofs.DigitLemmas.{take_front, take_next, length_both, digits_split, behind_digits, digits_of, some_digits, none_written, digits_none, digits_some}

-- which test of the cascade tells the fault
data Wrong (writes behind star count_writes count_behind : Bool) (size count_size offset : ℕ) : Type 0 where
  no_thread : writes ≡ false → offset ≡ 0 → Wrong writes behind star count_writes count_behind size count_size offset
  thread_goes : writes ≡ true → behind ≡ false → star ≡ false → offset ≡ size → Wrong writes behind star count_writes count_behind size count_size offset
  no_count : writes ≡ true → star ≡ true → count_writes ≡ false → offset ≡ size + 1 → Wrong writes behind star count_writes count_behind size count_size offset
  count_goes : writes ≡ true → star ≡ true → count_writes ≡ true → count_behind ≡ false → offset ≡ size + 1 + count_size → Wrong writes behind star count_writes count_behind size count_size offset

wrong_of : (ended writes behind star count_writes count_behind : Bool) (size count_size offset : ℕ) →
    (if ended then None else (if not writes then Some 0 else (if behind then None else (if star then option_map (λ n. (size + 1) + n) (if not count_writes then Some 0 else (if count_behind then None else Some count_size)) else Some size)))) ≡ Some offset →
    (ended ≡ false) × Wrong writes behind star count_writes count_behind size count_size offset
wrong_of true writes behind star count_writes count_behind size count_size offset e = absurd (cc)
wrong_of false false behind star count_writes count_behind size count_size offset e = (refl, no_thread refl (let i : 0 ≡ offset = cc in sym i))
wrong_of false true true star count_writes count_behind size count_size offset e = absurd (cc)
wrong_of false true false false count_writes count_behind size count_size offset e = (refl, thread_goes refl refl refl (let i : size ≡ offset = cc in sym i))
wrong_of false true false true false count_behind size count_size offset e = (refl, no_count refl refl refl (let i : (size + 1) + 0 ≡ offset = cc in omega (arith, i)))
wrong_of false true false true true true size count_size offset e = absurd (cc)
wrong_of false true false true true false size count_size offset e = (refl, count_goes refl refl refl refl (let i : (size + 1) + count_size ≡ offset = cc in sym i))

-- the tests of a fault, one after another
fault_thread : (ended writes behind star : Bool) (size : ℕ) (count : Option ℕ) → ended ≡ false → writes ≡ false →
    (if ended then None else (if not writes then Some 0 else (if behind then None else (if star then option_map (λ n. (size + 1) + n) count else Some size)))) ≡ Some 0
fault_thread ended writes behind star size count e w = rw (e, w) refl

fault_behind : (ended writes behind star : Bool) (size : ℕ) (count : Option ℕ) → ended ≡ false → writes ≡ true → behind ≡ false → star ≡ false →
    (if ended then None else (if not writes then Some 0 else (if behind then None else (if star then option_map (λ n. (size + 1) + n) count else Some size)))) ≡ Some size
fault_behind ended writes behind star size count e w b s = rw (e, w, b, s) refl

fault_no_count : (writes behind : Bool) (size : ℕ) → writes ≡ false → (if not writes then Some 0 else (if behind then None else Some size)) ≡ Some 0
fault_no_count writes behind size w = rw w refl

fault_behind_count : (writes behind : Bool) (size : ℕ) → writes ≡ true → behind ≡ false → (if not writes then Some 0 else (if behind then None else Some size)) ≡ Some size
fault_behind_count writes behind size w b = rw (w, b) refl

-- a text has a fault at its front
record Faulty (text : List ℕ) : Type 0 where
  offset : ℕ
  fault : form_fault text ≡ Some offset

faulty_thread : (byte : ℕ) (more : List ℕ) → ends_entry (byte ∷ more) ≡ false → is_ascii_digit byte ≡ false → Faulty (byte ∷ more)
faulty_thread byte more goes e =
    let text = byte ∷ more in
    record {
      offset = 0;
      fault = fault_thread (ends_entry text) (writes_number 0 (2 ^ 32) (first_digits text)) (ends_entry (after_digits text)) (begins_count (after_digits text)) (length (first_digits text)) (count_fault (drop 1 (after_digits text)))
          goes (ap (writes_number 0 (2 ^ 32)) (digits_none byte more e) ∙ none_written 0 (2 ^ 32) (omega arith));
    }

faulty_behind : (ds more : List ℕ) → all_ascii_digits ds ≡ true → writes_number 0 (2 ^ 32) ds ≡ true → ends_entry more ≡ false → begins_count more ≡ false → begins_with is_ascii_digit more ≡ false →
    Faulty (ds ++ more)
faulty_behind ds more all w goes star stop =
    let text = ds ++ more in
    let d = digits_of ds more all stop in
    record {
      offset = length (first_digits text);
      fault = fault_behind (ends_entry text) (writes_number 0 (2 ^ 32) (first_digits text)) (ends_entry (after_digits text)) (begins_count (after_digits text)) (length (first_digits text)) (count_fault (drop 1 (after_digits text)))
          (front_digit ds more all (some_digits 0 (2 ^ 32) ds (omega arith) w)) (ap (writes_number 0 (2 ^ 32)) d.first ∙ w) (ap ends_entry d.after ∙ goes) (ap begins_count d.after ∙ star);
    }

faulty_count : (ds tail : List ℕ) (offset : ℕ) → all_ascii_digits ds ≡ true → writes_number 0 (2 ^ 32) ds ≡ true → count_fault tail ≡ Some offset → Faulty (ds ++ 42 ∷ tail)
faulty_count ds tail offset all w fault =
    let text = ds ++ 42 ∷ tail in
    let d = digits_of ds (42 ∷ tail) all refl in
    record {
      offset = (length (first_digits text) + 1) + offset;
      fault = fault_cases (ends_entry text) (writes_number 0 (2 ^ 32) (first_digits text)) (ends_entry (after_digits text)) (begins_count (after_digits text)) (length (first_digits text)) offset (count_fault (drop 1 (after_digits text)))
          (front_digit ds (42 ∷ tail) all (some_digits 0 (2 ^ 32) ds (omega arith) w)) (ap (writes_number 0 (2 ^ 32)) d.first ∙ w) (ap ends_entry d.after) (ap begins_count d.after) (ap (λ t. count_fault (drop 1 t)) d.after ∙ fault);
    }

-- how a text goes wrong behind a front
data Breaks (front behind : List ℕ) : Type 0 where
  missing : (xs : List ℕ) → front ≡ xs ++ 42 ∷ [] → behind ≡ [] → Breaks front behind
  bad_thread : front ≡ [] → 0 < length (first_digits behind) → writes_number 0 (2 ^ 32) (first_digits behind) ≡ false → Breaks front behind
  bad_count : (xs : List ℕ) → front ≡ xs ++ 42 ∷ [] → 0 < length (first_digits behind) → writes_number 1 (2 ^ 64) (first_digits behind) ≡ false → Breaks front behind
  bad_byte : (byte : ℕ) (more : List ℕ) → behind ≡ byte ∷ more → ((other : List ℕ) → Faulty (front ++ byte ∷ other)) → Breaks front behind

record Broken (rest : List ℕ) (offset : ℕ) : Type 0 where
  front : List ℕ
  behind : List ℕ
  whole : rest ≡ front ++ behind
  length_is : offset ≡ length front
  front_is : IsFrontOfSchedule front
  breaks : Breaks front behind

thread_breaks : (rest : List ℕ) → ends_entry rest ≡ false → writes_number 0 (2 ^ 32) (first_digits rest) ≡ false → Breaks [] rest
thread_breaks [] goes w = absurd (cc)
thread_breaks (byte ∷ more) goes w = by (is_ascii_digit byte) refl
  where
    by : (b : Bool) → is_ascii_digit byte ≡ b → Breaks [] (byte ∷ more)
    by true e = bad_thread refl (digits_some byte more e) w
    by false e = bad_byte byte more refl (λ other. faulty_thread byte other goes e)

behind_breaks : (ds rest : List ℕ) → all_ascii_digits ds ≡ true → writes_number 0 (2 ^ 32) ds ≡ true → ends_entry rest ≡ false → begins_count rest ≡ false → begins_with is_ascii_digit rest ≡ false → Breaks ds rest
behind_breaks ds [] all w goes star stop = absurd (cc)
behind_breaks ds (byte ∷ more) all w goes star stop = bad_byte byte more refl (λ other. faulty_behind ds (byte ∷ other) all w goes star stop)

count_breaks : (ds tail : List ℕ) → all_ascii_digits ds ≡ true → writes_number 0 (2 ^ 32) ds ≡ true → writes_number 1 (2 ^ 64) (first_digits tail) ≡ false → Breaks (ds ++ 42 ∷ []) tail
count_breaks ds [] all w none = missing ds refl refl
count_breaks ds (byte ∷ more) all w none = by (is_ascii_digit byte) refl
  where
    by : (b : Bool) → is_ascii_digit byte ≡ b → Breaks (ds ++ 42 ∷ []) (byte ∷ more)
    by true e = bad_count ds refl (digits_some byte more e) none
    by false e = bad_byte byte more refl (λ other. subst Faulty (sym (append_assoc ds (42 ∷ []) (byte ∷ other)))
        (faulty_count ds (byte ∷ other) 0 all w (fault_no_count (writes_number 1 (2 ^ 64) (first_digits (byte ∷ other))) (ends_entry (after_digits (byte ∷ other))) (length (first_digits (byte ∷ other)))
        (ap (writes_number 1 (2 ^ 64)) (digits_none byte other e) ∙ none_written 1 (2 ^ 64) (omega arith)))))

behind_count_breaks : (ds es rest : List ℕ) → all_ascii_digits ds ≡ true → writes_number 0 (2 ^ 32) ds ≡ true → all_ascii_digits es ≡ true → writes_number 1 (2 ^ 64) es ≡ true →
    ends_entry rest ≡ false → begins_with is_ascii_digit rest ≡ false → Breaks (ds ++ 42 ∷ es) rest
behind_count_breaks ds es [] all w alle we goes stop = absurd (cc)
behind_count_breaks ds es (byte ∷ more) all w alle we goes stop = bad_byte byte more refl (λ other.
    let text = es ++ byte ∷ other in
    let d = digits_of es (byte ∷ other) alle stop in
    subst Faulty (sym (append_assoc ds (42 ∷ es) (byte ∷ other)))
    (faulty_count ds text (length (first_digits text)) all w (fault_behind_count (writes_number 1 (2 ^ 64) (first_digits text)) (ends_entry (after_digits text)) (length (first_digits text))
    (ap (writes_number 1 (2 ^ 64)) d.first ∙ we) (ap ends_entry d.after ∙ goes))))

star_first : (rest : List ℕ) → begins_count rest ≡ true → rest ≡ 42 ∷ drop 1 rest
star_first [] e = absurd (cc)
star_first (byte ∷ more) e = ap (λ b. b ∷ more) (eqb-true byte 42 e)

-- fronts of entries
front_single : (ds : List ℕ) → writes_number 0 (2 ^ 32) ds ≡ true → IsFrontOfSchedule ds
front_single ds w =
    let n = number_is 0 (2 ^ 32) ds w in
    ([], single (digits_value 10 ds) ∷ [], ap (λ d. d ++ []) (sym n.0), ((n.2, refl), tt))

front_star : (ds : List ℕ) → writes_number 0 (2 ^ 32) ds ≡ true → IsFrontOfSchedule (ds ++ 42 ∷ [])
front_star ds w =
    let n = number_is 0 (2 ^ 32) ds w in (
      decimal 1,
      group (digits_value 10 ds) 1 ∷ [],
      append_assoc ds (42 ∷ []) (decimal 1) ∙ ap (λ d. d ++ (42 ∷ decimal 1)) (sym n.0) ∙ sym (append-nil (decimal (digits_value 10 ds) ++ (42 ∷ decimal 1))),
      ((n.2, omega arith, omega arith, refl), tt),
    )

front_count : (ds es : List ℕ) → writes_number 0 (2 ^ 32) ds ≡ true → writes_number 1 (2 ^ 64) es ≡ true → IsFrontOfSchedule (ds ++ 42 ∷ es)
front_count ds es w we =
    let n = number_is 0 (2 ^ 32) ds w in
    let m = number_is 1 (2 ^ 64) es we in (
      [],
      group (digits_value 10 ds) (digits_value 10 es) ∷ [],
      ap (λ d. (d ++ (42 ∷ es)) ++ []) (sym n.0) ∙ ap (λ d. (decimal (digits_value 10 ds) ++ (42 ∷ d)) ++ []) (sym m.0),
      ((n.2, omega (arith, m.1), m.2, refl), tt),
    )

broken_at : (rest : List ℕ) (offset : ℕ) → ends_entry rest ≡ false →
    Wrong (writes_number 0 (2 ^ 32) (first_digits rest)) (ends_entry (after_digits rest)) (begins_count (after_digits rest))
    (writes_number 1 (2 ^ 64) (first_digits (drop 1 (after_digits rest)))) (ends_entry (after_digits (drop 1 (after_digits rest))))
    (length (first_digits rest)) (length (first_digits (drop 1 (after_digits rest)))) offset → Broken rest offset
broken_at rest offset goes (no_thread w at) = record { front = []; behind = rest; whole = refl; length_is = at; front_is = ([], [], refl, tt); breaks = thread_breaks rest goes w }
broken_at rest offset goes (thread_goes w behind star at) = record {
  front = first_digits rest;
  behind = after_digits rest;
  whole = digits_split rest;
  length_is = at;
  front_is = front_single (first_digits rest) w;
  breaks = behind_breaks (first_digits rest) (after_digits rest) (digits_are rest) w behind star (behind_digits rest);
}
broken_at rest offset goes (no_count w star none at) =
    let ds = first_digits rest in
    let tail = drop 1 (after_digits rest) in
    record {
      front = ds ++ 42 ∷ [];
      behind = tail;
      whole = digits_split rest ∙ ap (λ t. ds ++ t) (star_first (after_digits rest) star) ∙ sym (append_assoc ds (42 ∷ []) tail);
      length_is = at ∙ length_both ds (42 ∷ []);
      front_is = front_star ds w;
      breaks = count_breaks ds tail (digits_are rest) w none;
    }
broken_at rest offset goes (count_goes w star we behind at) =
    let ds = first_digits rest in
    let tail = drop 1 (after_digits rest) in
    let es = first_digits tail in
    record {
      front = ds ++ 42 ∷ es;
      behind = after_digits tail;
      whole = digits_split rest ∙ ap (λ t. ds ++ t) (star_first (after_digits rest) star) ∙ ap (λ t. ds ++ 42 ∷ t) (digits_split tail) ∙ sym (append_assoc ds (42 ∷ es) (after_digits tail));
      length_is = at ∙ omega (arith, length_both ds (42 ∷ es));
      front_is = front_count ds es w we;
      breaks = behind_count_breaks ds es (after_digits tail) (digits_are rest) w (digits_are tail) we behind (behind_digits tail);
    }

broken_of : (rest : List ℕ) (offset : ℕ) → form_fault rest ≡ Some offset → (ends_entry rest ≡ false) × Broken rest offset
broken_of rest offset fault =
    let wrong = wrong_of (ends_entry rest) (writes_number 0 (2 ^ 32) (first_digits rest)) (ends_entry (after_digits rest)) (begins_count (after_digits rest))
    (writes_number 1 (2 ^ 64) (first_digits (drop 1 (after_digits rest)))) (ends_entry (after_digits (drop 1 (after_digits rest))))
    (length (first_digits rest)) (length (first_digits (drop 1 (after_digits rest)))) offset fault in
    (wrong.0, broken_at rest offset wrong.0 wrong.1)

-- pieces before a fault stand before whatever else
goes_no_comment : (rest : List ℕ) → ends_entry rest ≡ false → ends_comment rest ≡ false
goes_no_comment [] e = absurd (cc)
goes_no_comment (byte ∷ more) e = grind (arith, nat_tests)

same_ends : (xs ys zs : List ℕ) → 0 < length xs → (ends_entry (xs ++ ys) ≡ ends_entry (xs ++ zs)) × (ends_comment (xs ++ ys) ≡ ends_comment (xs ++ zs))
same_ends [] ys zs some = absurd (omega arith)
same_ends (x ∷ xs) ys zs some = (refl, refl)

some_bytes : (piece : Piece) (rest : List ℕ) → IsPiece piece rest → 0 < length (spelled piece)
some_bytes (blank byte) rest is = omega arith
some_bytes (comment text) rest is = omega arith
some_bytes (single thread) rest is = decimal_nonempty thread (omega (arith, is.0))
some_bytes (group thread count) rest is = omega (arith, length_both (decimal thread) (42 ∷ decimal count), decimal_nonempty thread (omega (arith, is.0)))

piece_before : (piece : Piece) (r s : List ℕ) → ends_entry r ≡ ends_entry s → ends_comment r ≡ ends_comment s → IsPiece piece r → IsPiece piece s
piece_before (blank byte) r s e c is = is
piece_before (comment text) r s e c is = (is.0, sym c ∙ is.1)
piece_before (single thread) r s e c is = (is.0, sym e ∙ is.1)
piece_before (group thread count) r s e c is = (is.0, is.1, is.2, sym e ∙ is.3)

-- only a blank stands before a fault
only_blank : (piece : Piece) (r : List ℕ) → ends_entry r ≡ false → IsPiece piece r → (byte : ℕ) × (piece ≡ blank byte) × (is_schedule_blank byte ≡ true)
only_blank (blank byte) r goes is = (byte, refl, is)
only_blank (comment text) r goes is = absurd (let e : true ≡ false = sym is.1 ∙ goes_no_comment r goes in cc)
only_blank (single thread) r goes is = absurd (let e : true ≡ false = sym is.1 ∙ goes in cc)
only_blank (group thread count) r goes is = absurd (let e : true ≡ false = sym is.3 ∙ goes in cc)

stand : (ps : List Piece) (r s : List ℕ) → ends_entry r ≡ false → ArePieces ps r → ArePieces ps s
stand [] r s goes are = tt
stand (p ∷ []) r s goes are =
    let b = only_blank p r goes are.0 in
    (subst (λ q. IsPiece q s) (sym b.1) b.2, tt)
stand (p ∷ (q ∷ ps)) r s goes are =
    let ends = same_ends (spelled q) (joined ps r) (joined ps s) (some_bytes q (joined ps r) are.1.0) in
    (piece_before p (spelled q ++ joined ps r) (spelled q ++ joined ps s) ends.0 ends.1 are.0, stand (q ∷ ps) r s goes are.1)

joined_split : (ps : List Piece) (r : List ℕ) → joined ps r ≡ joined ps [] ++ r
joined_split [] r = refl
joined_split (p ∷ ps) r = ap (λ t. spelled p ++ t) (joined_split ps r) ∙ sym (append_assoc (spelled p) (joined ps []) r)

joined_both : (ps qs : List Piece) (r : List ℕ) → joined ps (joined qs r) ≡ joined (ps ++ qs) r
joined_both [] qs r = refl
joined_both (p ∷ ps) qs r = ap (λ t. spelled p ++ t) (joined_both ps qs r)

pieces_both : (ps qs : List Piece) (r : List ℕ) → ArePieces ps (joined qs r) → ArePieces qs r → ArePieces (ps ++ qs) r
pieces_both [] qs r are more = more
pieces_both (p ∷ ps) qs r are more = (subst (IsPiece p) (joined_both ps qs r) are.0, pieces_both ps qs r are.1 more)

-- a text with a fault behind pieces is no text of pieces
cut_fault : (ps qs : List Piece) (r : List ℕ) → joined ps r ≡ joined qs [] → ArePieces ps r → ArePieces qs [] → Faulty r → ⊥
cut_fault [] [] r same pr qr faulty = let e : None ≡ Some faulty.offset = ap form_fault (sym same) ∙ faulty.fault in cc
cut_fault [] (q ∷ qs) r same pr qr faulty =
    let reads = reads_of q (joined qs []) qr.0 in
    let e : None ≡ Some faulty.offset = sym reads.sound ∙ ap form_fault (sym same) ∙ faulty.fault in cc
cut_fault (p ∷ ps) [] r same pr qr faulty = let reads = reads_of p (joined ps r) pr.0 in omega (arith, reads.some, ap length same)
cut_fault (p ∷ ps) (q ∷ qs) r same pr qr faulty =
    let piece : p ≡ q = same_piece p q (spelled p ++ joined ps r) (reads_of p (joined ps r) pr.0) (subst (Reads q) (sym same) (reads_of q (joined qs []) qr.0)) in
    cut_fault ps qs r (append_cancel_left (spelled p) (joined ps r) (joined qs []) (same ∙ ap (λ x. spelled x ++ joined qs []) (sym piece))) pr.1 qr.1 faulty

-- the last byte
star_both : (b : Bool) (xs ys : List ℕ) → ends_in_star b (xs ++ ys) ≡ ends_in_star (ends_in_star b xs) ys
star_both b [] ys = refl
star_both b (x ∷ xs) ys = star_both (x == 42) xs ys

star_last : (b : Bool) (xs : List ℕ) → ends_in_star b (xs ++ 42 ∷ []) ≡ true
star_last b [] = refl
star_last b (x ∷ xs) = star_last (x == 42) xs

star_behind : (xs ys front : List ℕ) → front ≡ ys ++ 42 ∷ [] → ends_in_star false (xs ++ front) ≡ true
star_behind xs ys front is = ap (λ t. ends_in_star false (xs ++ t)) is ∙ star_both false xs (ys ++ 42 ∷ []) ∙ star_last (ends_in_star false xs) ys

blank_no_star : (byte : ℕ) → is_schedule_blank byte ≡ true → (byte == 42) ≡ false
blank_no_star byte e = grind (arith, nat_tests)

pieces_no_star : (b : Bool) (p : Piece) (ps : List Piece) (r : List ℕ) → ends_entry r ≡ false → ArePieces (p ∷ ps) r → ends_in_star b (joined (p ∷ ps) []) ≡ false
pieces_no_star b p [] r goes are =
    let last = only_blank p r goes are.0 in
    ap (λ q. ends_in_star b (spelled q ++ [])) last.1 ∙ blank_no_star last.0 last.2
pieces_no_star b p (q ∷ ps) r goes are = star_both b (spelled p) (joined (q ∷ ps) []) ∙ pieces_no_star (ends_in_star b (spelled p)) q ps r goes are.1

before_no_star : (ps : List Piece) (r : List ℕ) → ends_entry r ≡ false → ArePieces ps r → ends_in_star false (joined ps []) ≡ false
before_no_star [] r goes are = refl
before_no_star (p ∷ ps) r goes are = pieces_no_star false p ps r goes are

-- a fault, with the bytes before it and those from it on
record Fault (text : List ℕ) (place : ℕ) : Type 0 where
  pieces : List Piece
  front : List ℕ
  behind : List ℕ
  stands : (r : List ℕ) → ArePieces pieces r
  starless : ends_in_star false (joined pieces []) ≡ false
  whole : text ≡ (joined pieces [] ++ front) ++ behind
  place_is : place ≡ length (joined pieces [] ++ front)
  front_is : IsFrontOfSchedule front
  breaks : Breaks front behind

fault_from : (text rest : List ℕ) (place offset : ℕ) (ps : List Piece) → text ≡ joined ps rest → ArePieces ps rest → place ≡ length (joined ps []) + offset → ends_entry rest ≡ false → Broken rest offset → Fault text place
fault_from text rest place offset ps whole are at goes broken = record {
  pieces = ps;
  front = broken.front;
  behind = broken.behind;
  stands = λ r. stand ps rest r goes are;
  starless = before_no_star ps rest goes are;
  whole = whole ∙ joined_split ps rest ∙ ap (λ t. joined ps [] ++ t) broken.whole ∙ sym (append_assoc (joined ps []) broken.front broken.behind);
  place_is = at ∙ ap (λ n. length (joined ps []) + n) broken.length_is ∙ length_both (joined ps []) broken.front;
  front_is = broken.front_is;
  breaks = broken.breaks;
}

fault_of : (text : List ℕ) (place : ℕ) → HasFormFault text place → Fault text place
fault_of text place has =
    let broken = broken_of has.rest has.offset has.fault in
    fault_from text has.rest place has.offset has.pieces has.begins.whole has.begins.pieces_are has.place_is broken.0 broken.1

bytes_before : (text : List ℕ) (place : ℕ) (f : Fault text place) → take place text ≡ joined f.pieces [] ++ f.front
bytes_before text place f = ap (λ n. take n text) f.place_is ∙ ap (take (length (joined f.pieces [] ++ f.front))) f.whole ∙ take_front (joined f.pieces [] ++ f.front) f.behind

bytes_behind : (text : List ℕ) (place : ℕ) (f : Fault text place) → drop place text ≡ f.behind
bytes_behind text place f = ap (λ n. drop n text) f.place_is ∙ ap (drop (length (joined f.pieces [] ++ f.front))) f.whole ∙ drop-front (joined f.pieces [] ++ f.front) f.behind

bytes_with : (text : List ℕ) (place byte : ℕ) (more : List ℕ) (f : Fault text place) → f.behind ≡ byte ∷ more → take (suc place) text ≡ (joined f.pieces [] ++ f.front) ++ byte ∷ []
bytes_with text place byte more f is =
    let whole : text ≡ (joined f.pieces [] ++ f.front) ++ byte ∷ more = f.whole ∙ ap (λ t. (joined f.pieces [] ++ f.front) ++ t) is in
    ap (λ n. take (suc n) text) f.place_is ∙ ap (take (suc (length (joined f.pieces [] ++ f.front)))) whole ∙ take_next (joined f.pieces [] ++ f.front) byte more

-- the rest behind pieces and a front
joined_more : (ps : List Piece) (front more : List ℕ) → (joined ps [] ++ front) ++ more ≡ joined ps (front ++ more)
joined_more ps front more = append_assoc (joined ps []) front more ∙ sym (joined_split ps (front ++ more))

front_onto : (ps : List Piece) (front : List ℕ) → ((r : List ℕ) → ArePieces ps r) → IsFrontOfSchedule front → IsFrontOfSchedule (joined ps [] ++ front)
front_onto ps front stands (more, qs, whole, are) =
    (more, ps ++ qs, joined_more ps front more ∙ ap (joined ps) whole ∙ joined_both ps qs [], pieces_both ps qs [] (stands (joined qs [])) are)

pub front_before : (text : List ℕ) (place : ℕ) → HasFormFault text place → IsFrontOfSchedule (take place text)
front_before text place has =
    let f = fault_of text place has in
    subst IsFrontOfSchedule (sym (bytes_before text place f)) (front_onto f.pieces f.front f.stands f.front_is)

no_front : (ps : List Piece) (front : List ℕ) (byte : ℕ) → ((r : List ℕ) → ArePieces ps r) → ((other : List ℕ) → Faulty (front ++ byte ∷ other)) →
    IsFrontOfSchedule ((joined ps [] ++ front) ++ byte ∷ []) → ⊥
no_front ps front byte stands faulty (more, qs, whole, are) =
    let same : joined ps (front ++ byte ∷ more) ≡ joined qs [] =
    sym (joined_more ps front (byte ∷ more)) ∙ sym (append_assoc (joined ps [] ++ front) (byte ∷ []) more) ∙ whole in
    cut_fault ps qs (front ++ byte ∷ more) same (stands (front ++ byte ∷ more)) are (faulty more)

choose_thread : (star : Bool) (count thread : Bool) → star ≡ false → thread ≡ false → (if star then count else thread) ≡ false
choose_thread star count thread e t = rw (e, t) refl

choose_count : (star : Bool) (count thread : Bool) → star ≡ true → count ≡ false → (if star then count else thread) ≡ false
choose_count star count thread e t = rw (e, t) refl

Ends : List ℕ → ℕ → Type 0
Ends text place = (IsFrontOfSchedule (take (suc place) text) → ⊥) ⊎ (NoNumber text place ⊎ ((place ≡ length text) × (ends_in_star false text ≡ true)))

ends_of : (text : List ℕ) (place : ℕ) (f : Fault text place) → Breaks f.front f.behind → Ends text place
unfolding Ends
ends_of text place f (missing xs star none) =
    let whole : text ≡ joined f.pieces [] ++ f.front = f.whole ∙ ap (λ t. (joined f.pieces [] ++ f.front) ++ t) none ∙ append-nil (joined f.pieces [] ++ f.front) in
    inr (inr (f.place_is ∙ ap length (sym whole), ap (ends_in_star false) whole ∙ star_behind (joined f.pieces []) xs f.front star))
ends_of text place f (bad_thread none some w) =
    let behind = bytes_behind text place f in
    let before : take place text ≡ joined f.pieces [] = bytes_before text place f ∙ ap (λ t. joined f.pieces [] ++ t) none ∙ append-nil (joined f.pieces []) in
    inr (inl (
      subst (λ t. 0 < length (first_digits t)) (sym behind) some,
      choose_thread (ends_in_star false (take place text)) (writes_number 1 (2 ^ 64) (first_digits (drop place text))) (writes_number 0 (2 ^ 32) (first_digits (drop place text)))
          (ap (ends_in_star false) before ∙ f.starless) (ap (λ t. writes_number 0 (2 ^ 32) (first_digits t)) behind ∙ w),
    ))
ends_of text place f (bad_count xs star some w) =
    let behind = bytes_behind text place f in
    inr (inl (
      subst (λ t. 0 < length (first_digits t)) (sym behind) some,
      choose_count (ends_in_star false (take place text)) (writes_number 1 (2 ^ 64) (first_digits (drop place text))) (writes_number 0 (2 ^ 32) (first_digits (drop place text)))
          (ap (ends_in_star false) (bytes_before text place f) ∙ star_behind (joined f.pieces []) xs f.front star) (ap (λ t. writes_number 1 (2 ^ 64) (first_digits t)) behind ∙ w),
    ))
ends_of text place f (bad_byte byte more is faulty) =
    inl (λ front. no_front f.pieces f.front byte f.stands faulty (subst IsFrontOfSchedule (bytes_with text place byte more f is) front))

pub wrong_at : (text : List ℕ) (place : ℕ) → HasFormFault text place →
    ((IsFrontOfSchedule (take (suc place) text) → ⊥) ⊎ (NoNumber text place ⊎ ((place ≡ length text) × (ends_in_star false text ≡ true))))
unfolding Ends
wrong_at text place has = let f = fault_of text place has in ends_of text place f f.breaks
