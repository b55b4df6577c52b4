-- No book goes on with the byte of the first fault.
use Rattle.std.proofs.Common.{◌≡◌, ◌⊎◌, inl, inr, ℕ, suc, ◌+◌, ◌-◌, ◌<◌, ◌≤◌, ◌^◌, List, [], ◌∷◌, ◌++◌, length, length-append, take, drop, codes, Some, None, Ok, Err, refl, sym, ◌∙◌, ap, subst, arith, append_assoc}
use Rattle.std.proofs.lemmas.Option.{same_Some}
use Rattle.books.specs.declared.stop.Kind.{Kind}
use Rattle.books.specs.Books.{Book}
use Rattle.books.specs.Texts.{newline, IsBookText}
use Rattle.books.specs.Combine.{Res, expect, exactly}
use Rattle.books.specs.Faults.{fault_at, fault_of, first_book_fault}
use Rattle.books.specs.Reading.{number_at, table_line, lines_at, count_at, book_at}
use Rattle.books.proofs.Sound.{SoundAt, sound_seq, sound_expect, sound_number, Bytes, IsNumber}
use Rattle.books.proofs.BookLaws.{complete_book}
use Rattle.books.proofs.BeforeFaults.{place_in, place_in-is}
use Rattle.books.specs.Broken.{IsPast, Counts, IsBroken, root, number, conclusion, tree}
use Rattle.books.proofs.Locals.{AfterErr, IsLocal, Local, local_known, local_seq, local_done, local_expect}
use Rattle.books.proofs.NumberFaults.{local_number}
use Rattle.books.proofs.TreeFaults.{local_table_line, local_lines, local_exactly}

-- a count that is read is below the end of its range
sound_count : (ts : List ℕ) → SoundAt (λ front n. n < 2 ^ 32) ts (count_at ts)
unfolding count_at
sound_count ts =
    sound_seq (Bytes (codes "book ")) _ ts (expect (codes "book ") ts) _ (sound_expect (codes "book ") ts) λ u r.
    sound_seq (IsNumber (2 ^ 32)) _ r (number_at (2 ^ 32) r) _ (sound_number (2 ^ 32) (omega arith) r) λ n r.
    sound_seq (Bytes (newline ∷ [])) _ r (expect (newline ∷ []) r) _ (sound_expect (newline ∷ []) r) λ u r.
    ([], refl, λ x3 e3 x2 e2 x1 e1. e2.1)

small_in : (n : ℕ) (ts r : List ℕ) (s : Res ℕ) → SoundAt (λ front n. n < 2 ^ 32) ts s → s ≡ Ok (n, r) → n < 2 ^ 32
small_in n ts r (Ok y) s e = subst (λ z. z.0 < 2 ^ 32) (same y (n, r) e) s.2
  where
    same : (y z : ℕ × List ℕ) → (let s : Res ℕ = Ok y in s ≡ Ok z) → y ≡ z
    same y z e = cc
small_in n ts r (Err d) s e = absurd (cc)

local_count : (B : List ℕ → Type 0) → ((rest : List ℕ) → IsPast (2 ^ 32) rest → B rest) → (ts : List ℕ) → Local B count_at ts
unfolding count_at
local_count B broken ts =
    local_seq B (expect (codes "book ")) _ ts (local_expect B (codes "book ") ts) λ u r.
    local_seq B (number_at (2 ^ 32)) _ r (local_number B (2 ^ 32) broken r) λ n r.
    local_seq B (expect (newline ∷ [])) _ r (local_expect B (newline ∷ []) r) λ u r.
    local_done B n r

local_book : (bytes : List ℕ) → Local (IsBroken bytes) book_at bytes
unfolding book_at
local_book bytes =
    let B = IsBroken bytes in
    local_known B count_at _ bytes (local_count B (λ z past. number past) bytes) λ n r is.
    let small : n ≤ 2 ^ 64 = omega (arith, small_in n bytes r (count_at bytes) (sound_count bytes) is) in
    let counts : Counts bytes n = record { behind = r; read = is } in
    local_seq B (exactly n table_line) _ r (local_exactly B table_line (λ z. local_table_line B (λ y past. root past) (λ y past. number past) (λ y other. tree other) z) n r) λ trees r.
    local_seq B (lines_at n) _ r (local_lines B (λ y past. root past) (λ y past. number past) (λ y other. tree other) n small (λ y past. conclusion n counts past) r) λ lines r.
    local_done B (record { table = trees; lines = lines }) r

-- ---- the place of a fault

pub take_front : (front : List ℕ) (b : ℕ) (r : List ℕ) → take (length front + 1) (front ++ (b ∷ r)) ≡ front ++ (b ∷ [])
take_front [] b r = refl
take_front (x ∷ front) b r =
    let more : suc (length front) + 1 ≡ suc (length front + 1) = omega arith in
    ap (λ n. take n (x ∷ (front ++ (b ∷ r)))) more ∙ ap (λ z. x ∷ z) (take_front front b r)

pub drop_front : (front rest : List ℕ) → drop (length front) (front ++ rest) ≡ rest
drop_front [] rest = refl
drop_front (x ∷ front) rest = drop_front front rest

-- a text that has these bytes is that of no book
no_book : (front : List ℕ) (k : Kind) (b : ℕ) → ((more : List ℕ) → book_at (front ++ (b ∷ more)) ≡ Err (k, b ∷ more)) → (more : List ℕ) (book : Book) → IsBookText ((front ++ (b ∷ [])) ++ more) book → ⊥
no_book front k b stuck more book is =
    let whole : (front ++ (b ∷ [])) ++ more ≡ front ++ (b ∷ more) = append_assoc front (b ∷ []) more in
    let read : (let p : Res Book = Ok (book, []) in p ≡ Err (k, b ∷ more)) = sym (complete_book ((front ++ (b ∷ [])) ++ more) book is) ∙ ap book_at whole ∙ stuck more in
    cc

there_at : (bytes front : List ℕ) (k : Kind) (rest : List ℕ) → bytes ≡ front ++ rest → length front < length bytes → AfterErr (IsBroken bytes) book_at front k rest →
    ((more : List ℕ) (book : Book) → IsBookText (take (length front + 1) bytes ++ more) book → ⊥) ⊎ IsBroken bytes (drop (length front) bytes)
there_at bytes front k [] is within s = absurd (omega (arith, within, ap length is ∙ length-append front []))
there_at bytes front k (b ∷ r) is within (inl s) =
    inl (subst (λ z. (more : List ℕ) (book : Book) → IsBookText (z ++ more) book → ⊥) (sym (ap (take (length front + 1)) is ∙ take_front front b r)) (no_book front k b s))
there_at bytes front k (b ∷ r) is within (inr s) = inr (subst (IsBroken bytes) (sym (ap (drop (length front)) is ∙ drop_front front (b ∷ r))) s)

there_by : (bytes : List ℕ) (x : Res Book) → IsLocal (IsBroken bytes) book_at bytes x → (kind : Kind) (place : ℕ) → fault_of (length bytes) x ≡ Some (fault_at kind place) → place < length bytes →
    ((more : List ℕ) (book : Book) → IsBookText (take (place + 1) bytes ++ more) book → ⊥) ⊎ IsBroken bytes (drop place bytes)
there_by bytes (Ok y) s kind place e within = absurd (let no : None ≡ Some (fault_at kind place) = e in cc)
there_by bytes (Err d) s kind place e within =
    let at : length bytes - length d.1 ≡ place = sym (place_in-is d.0 (length bytes - length d.1)) ∙ ap place_in (same_Some (fault_at d.0 (length bytes - length d.1)) (fault_at kind place) e) ∙ place_in-is kind place in
    let front : length s.0 ≡ place = omega (arith, at, ap length s.1 ∙ length-append s.0 d.1) in
    subst (λ n. ((more : List ℕ) (book : Book) → IsBookText (take (n + 1) bytes ++ more) book → ⊥) ⊎ IsBroken bytes (drop n bytes)) front
    (there_at bytes s.0 d.0 d.1 s.1 (subst (λ n. n < length bytes) (sym front) within) s.2)

pub there : (bytes : List ℕ) (kind : Kind) (place : ℕ) → first_book_fault bytes ≡ Some (fault_at kind place) → place < length bytes →
    ((more : List ℕ) (book : Book) → IsBookText (take (place + 1) bytes ++ more) book → ⊥) ⊎ IsBroken bytes (drop place bytes)
there bytes kind place e within = there_by bytes (book_at bytes) (local_book bytes).at kind place e within
