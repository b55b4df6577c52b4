-- Slots, rows of them, and what stands in them.
use Rattle.std.proofs.Common.{◌≡◌, ℕ, zero, suc, ◌+◌, ◌-◌, ◌<◌, ◌≤◌, false, List, [], ◌∷◌, ◌++◌, length, drop, get_or, refl, sym, ap, subst, ◌∙◌, arith, ◌==◌}
use Rattle.std.specs.Prelude.{Option, Some, None, IsSome, slice_get, if◌then◌else◌}
use Rattle.std.specs.Option.{option_map}
use Rattle.std.proofs.lemmas.Option.{slice_get_read}
use Rattle.std.proofs.Math.ListN.{set}
use Rattle.std.proofs.lemmas.Bool.Decides.{nat_tests}
use Rattle.base.proofs.Lists.{get_left, next_drop}
use Rattle.state.specs.declared.value.Address.{Address}
use Rattle.state.specs.Slots.{in_slot, slot_at, filled_in, slots_entries, rows_entries, SlotWritten}

-- one more empty slot
pub slot_at_more : {T : Type 0} (slots : List (Option T)) (c : ℕ) → slot_at (slots ++ None ∷ []) c ≡ slot_at slots c
slot_at_more [] zero = refl
slot_at_more [] (suc c) = refl
slot_at_more (o ∷ slots) zero = refl
slot_at_more (o ∷ slots) (suc c) = slot_at_more slots c

pub filled_more : {T : Type 0} (slots : List (Option T)) (o : Option T) → filled_in (slots ++ o ∷ []) ≡ filled_in slots + filled_in (o ∷ [])
filled_more [] o = omega arith
filled_more (None ∷ slots) o = filled_more slots o
filled_more (Some v ∷ slots) o = let p = filled_more slots o in omega arith

pub filled_within : {T : Type 0} (slots : List (Option T)) → filled_in slots ≤ length slots
filled_within [] = omega arith
filled_within (None ∷ slots) = let p = filled_within slots in omega arith
filled_within (Some v ∷ slots) = let p = filled_within slots in omega arith

test_suc : (c k : ℕ) → (suc c == suc k) ≡ (c == k)
test_suc c k = grind (arith, nat_tests)

test_zero : (k : ℕ) → (0 == suc k) ≡ false
test_zero k = grind (arith, nat_tests)

test_over : (k : ℕ) → (suc k == 0) ≡ false
test_over k = grind (arith, nat_tests)

-- a slot is written
pub set_written : {T : Type 0} (slots : List (Option T)) (at : ℕ) (o : Option T) → at < length slots → SlotWritten slots (set slots at o) at o
set_written [] at o below c = absurd (omega arith)
set_written (x ∷ slots) zero o below zero = refl
set_written (x ∷ slots) zero o below (suc c) = rw (test_over c) refl
set_written (x ∷ slots) (suc at) o below zero = rw (test_zero at) refl
set_written (x ∷ slots) (suc at) o below (suc c) = rw (test_suc c at) (set_written slots at o (omega arith) c)

pub push_written : {T : Type 0} (slots : List (Option T)) (at : ℕ) (o : Option T) → at ≡ length slots → SlotWritten slots (slots ++ o ∷ []) at o
push_written [] at o is c = subst (λ a. slot_at (o ∷ []) c ≡ (if c == a then o else slot_at [] c)) (sym is) (first c)
  where
    first : (c : ℕ) → slot_at (o ∷ []) c ≡ (if c == 0 then o else slot_at [] c)
    first zero = refl
    first (suc c) = rw (test_over c) refl
push_written (x ∷ slots) zero o is c = absurd (omega arith)
push_written (x ∷ slots) (suc at) o is zero = rw (test_zero at) refl
push_written (x ∷ slots) (suc at) o is (suc c) = rw (test_suc c at) (push_written slots at o (omega arith) c)

pub set_filled : {T : Type 0} (slots : List (Option T)) (at : ℕ) (v : T) → at < length slots → slot_at slots at ≡ None → filled_in (set slots at (Some v)) ≡ 1 + filled_in slots
set_filled [] at v below none = absurd (omega arith)
set_filled (None ∷ slots) zero v below none = refl
set_filled (Some x ∷ slots) zero v below none = absurd cc
set_filled (None ∷ slots) (suc at) v below none = set_filled slots at v (omega arith) none
set_filled (Some x ∷ slots) (suc at) v below none = let p = set_filled slots at v (omega arith) none in omega arith

-- a slot that holds something
pub some_below : {T : Type 0} (slots : List (Option T)) (at : ℕ) → IsSome (slot_at slots at) → at < length slots
some_below [] at some = absurd cc
some_below (o ∷ slots) zero some = omega arith
some_below (o ∷ slots) (suc at) some = let p = some_below slots at some in omega arith

pub some_filled : {T : Type 0} (slots : List (Option T)) (at : ℕ) → IsSome (slot_at slots at) → 1 ≤ filled_in slots
some_filled [] at some = absurd cc
some_filled (None ∷ slots) zero some = absurd cc
some_filled (Some v ∷ slots) at some = omega arith
some_filled (None ∷ slots) (suc at) some = some_filled slots at some

pub over_filled : {T : Type 0} (slots : List (Option T)) (at : ℕ) (o : Option T) → IsSome (slot_at slots at) → 1 + filled_in (set slots at o) ≡ filled_in slots + filled_in (o ∷ [])
over_filled [] at o some = absurd cc
over_filled (None ∷ slots) zero o some = absurd cc
over_filled (Some x ∷ slots) zero None some = omega arith
over_filled (Some x ∷ slots) zero (Some v) some = omega arith
over_filled (None ∷ slots) (suc at) o some = over_filled slots at o some
over_filled (Some x ∷ slots) (suc at) o some = let p = over_filled slots at o some in omega arith

-- without an empty slot the entry at a place is the slot's
pub dense_entry : {T : Type 0} (slots : List (Option T)) (t c place : ℕ) (v : T) → filled_in slots ≡ length slots → slice_get slots place ≡ Some (Some v)
    → slice_get (slots_entries t c slots) place ≡ Some (record { thread = t; count = c + place }, v)
dense_entry [] t c place v full is = absurd cc
dense_entry (None ∷ slots) t c place v full is = let p = filled_within slots in absurd (omega arith)
dense_entry (Some x ∷ slots) t c zero v full is =
    let same : x ≡ v = cc in
    let none : c ≡ c + 0 = omega arith in
    λ j. Some (record { thread = t; count = none j }, same j)
dense_entry (Some x ∷ slots) t c (suc place) v full is =
    let later : c + 1 + place ≡ c + suc place = omega arith in
    subst (λ k. slice_get (slots_entries t (c + 1) slots) place ≡ Some (record { thread = t; count = k }, v)) later
    (dense_entry slots t (c + 1) place v (omega arith) is)

pub dense_none : {T : Type 0} (slots : List (Option T)) (t c place : ℕ) → slice_get slots place ≡ None → slice_get (slots_entries t c slots) place ≡ None
dense_none [] t c place is = refl
dense_none (o ∷ slots) t c zero is = absurd cc
dense_none (None ∷ slots) t c (suc place) is = past (slots_entries t (c + 1) slots) place (dense_none slots t (c + 1) place is)
  where
    past : {A : Type 0} (xs : List A) (k : ℕ) → slice_get xs k ≡ None → slice_get xs (suc k) ≡ None
    past [] k h = refl
    past (x ∷ xs) zero h = absurd cc
    past (x ∷ xs) (suc k) h = past xs k h
dense_none (Some v ∷ slots) t c (suc place) is = dense_none slots t (c + 1) place is

pub dense_empty : {T : Type 0} (slots : List (Option T)) (place : ℕ) → filled_in slots ≡ length slots → slice_get slots place ≡ Some None → ⊥
dense_empty [] place full is = absurd cc
dense_empty (None ∷ slots) place full is = let p = filled_within slots in absurd (omega arith)
dense_empty (Some v ∷ slots) zero full is = absurd cc
dense_empty (Some v ∷ slots) (suc place) full is = dense_empty slots place (omega arith) is

pub full_some : {T : Type 0} (slots : List (Option T)) (t place : ℕ) (v : T) → filled_in slots ≡ length slots → slot_at slots place ≡ Some v
    → slice_get (slots_entries t 0 slots) place ≡ Some (record { thread = t; count = place }, v)
full_some slots t place v full is = elim (slice_get slots place) as (λ o. slice_get slots place ≡ o → in_slot o ≡ Some v → slice_get (slots_entries t 0 slots) place ≡ Some (record { thread = t; count = place }, v)) [
  | None ↦ λ e h. absurd cc
  | Some o ↦ λ e h.
      let here : slice_get slots place ≡ Some (Some v) = e ∙ ap Some h in
      let zero_is : 0 + place ≡ place = omega arith in
      subst (λ k. slice_get (slots_entries t 0 slots) place ≡ Some (record { thread = t; count = k }, v)) zero_is (dense_entry slots t 0 place v full here)
] refl is

pub full_none : {T : Type 0} (slots : List (Option T)) (t place : ℕ) → filled_in slots ≡ length slots → slot_at slots place ≡ None → slice_get (slots_entries t 0 slots) place ≡ None
full_none slots t place full is = elim (slice_get slots place) as (λ o. slice_get slots place ≡ o → in_slot o ≡ None → slice_get (slots_entries t 0 slots) place ≡ None) [
  | None ↦ λ e h. dense_none slots t 0 place e
  | Some o ↦ λ e h. absurd (dense_empty slots place full (e ∙ ap Some h))
] refl is

-- the number of entries of a row, and where the next row's begin
pub length_entries : {T : Type 0} (slots : List (Option T)) (t c : ℕ) → length (slots_entries t c slots) ≡ filled_in slots
length_entries [] t c = refl
length_entries (None ∷ slots) t c = length_entries slots t (c + 1)
length_entries (Some v ∷ slots) t c = let p = length_entries slots t (c + 1) in omega arith

pub get_right : {A : Type 0} (xs ys : List A) (k n m : ℕ) → n ≡ length xs → n ≤ k → m ≡ k - n → slice_get (xs ++ ys) k ≡ slice_get ys m
get_right [] ys k n m is above less = let same : k ≡ m = omega arith in ap (slice_get ys) same
get_right (x ∷ xs) ys zero n m is above less = absurd (omega arith)
get_right (x ∷ xs) ys (suc k) n m is above less = get_right xs ys k (n - 1) m (omega arith) (omega arith) (omega arith)

-- an entry among those of this row, or of the later ones
pub row_here : {T : Type 0} (rows : List (List (Option T))) (k left n : ℕ) (row : List (Option T)) (whole : Option (Address × T)) → k < length rows → row ≡ get_or rows k row → n ≡ filled_in row
    → left < n → slice_get (rows_entries k (drop k rows)) left ≡ whole → slice_get (slots_entries k 0 row) left ≡ whole
row_here rows k left n row whole below is n_is less whole_is =
    let long = length_entries row k 0 in
    sym (get_left (slots_entries k 0 row) (rows_entries (k + 1) (drop (k + 1) rows)) left (omega arith))
    ∙ sym (ap (λ l. slice_get (rows_entries k l) left) (next_drop rows k row below is)) ∙ whole_is

pub row_later : {T : Type 0} (rows : List (List (Option T))) (k left n m : ℕ) (row : List (Option T)) (whole : Option (Address × T)) → k < length rows → row ≡ get_or rows k row → n ≡ filled_in row
    → n ≤ left → m ≡ n → slice_get (rows_entries k (drop k rows)) left ≡ whole → slice_get (rows_entries (k + 1) (drop (k + 1) rows)) (left - m) ≡ whole
row_later rows k left n m row whole below is n_is more m_is whole_is =
    let long = length_entries row k 0 in
    sym (get_right (slots_entries k 0 row) (rows_entries (k + 1) (drop (k + 1) rows)) left n (left - m) (omega arith) more (omega arith))
    ∙ sym (ap (λ l. slice_get (rows_entries k l) left) (next_drop rows k row below is)) ∙ whole_is

-- a value that was changed in its slot
pub kept_filled : {T : Type 0} (slots : List (Option T)) (at : ℕ) (old new : Option T) (f : T → T) → at < length slots → old ≡ get_or slots at old → new ≡ option_map f old → IsSome (slot_at slots at)
    → filled_in (set slots at new) ≡ filled_in slots
kept_filled slots at old new f below is changed some =
    let here = ap in_slot (slice_get_read slots (length slots) at old refl below is) in
    let one = still_one old (subst (λ o. IsSome o) here some) in
    let all = over_filled slots at new some in
    let same = ap (λ o. filled_in (o ∷ [])) changed in
    omega arith
  where
    still_one : (o : Option _) → IsSome o → filled_in (option_map f o ∷ []) ≡ 1
    still_one None h = absurd cc
    still_one (Some v) h = omega arith
