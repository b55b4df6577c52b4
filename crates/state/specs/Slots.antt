-- How a table by addresses is kept: for each thread a row, and in it for each count a slot that may hold a value.
use Rattle.std.specs.Prelude.{◌≡◌, refl, ℕ, ◌+◌, ◌==◌, List, [], ◌∷◌, ◌++◌, Option, Some, None, slice_get, if◌then◌else◌}
use Rattle.std.specs.Coded.{Coded, code_by, coded×, coded_ℕ}
use Rattle.std.specs.Ordering.{eq_by_cmp}
use Rattle.std.specs.FinMap as map
use Rattle.state.specs.declared.value.Address.{Address}
use Rattle.state.specs.Memory.{address_cmp}

-- what a slot holds, where it is there
abbrev pub in_slot : {T : Type 0} → Option (Option T) → Option T
in_slot None = None
in_slot (Some o) = o

-- what the slot of a count holds
abbrev pub slot_at : {T : Type 0} → List (Option T) → ℕ → Option T
slot_at slots c = in_slot (slice_get slots c)

-- the rows' slot of an address
abbrev pub in_row : {T : Type 0} → Option (List (Option T)) → ℕ → Option T
in_row None c = None
in_row (Some slots) c = slot_at slots c

-- what the table holds at an address
abbrev pub grid_at : {T : Type 0} → List (List (Option T)) → Address → Option T
grid_at rows a = in_row (slice_get rows a.thread) a.count

-- how many slots hold something
abbrev pub filled_in : {T : Type 0} → List (Option T) → ℕ
filled_in [] = 0
filled_in (None ∷ slots) = filled_in slots
filled_in (Some v ∷ slots) = 1 + filled_in slots

-- the same of a row that may be missing
abbrev pub filled_row : {T : Type 0} → Option (List (Option T)) → ℕ
filled_row None = 0
filled_row (Some slots) = filled_in slots

-- the entries of a thread's slots, the first of which has this count
abbrev pub slots_entries : {T : Type 0} → (thread count : ℕ) → List (Option T) → List (Address × T)
slots_entries t c [] = []
slots_entries t c (None ∷ slots) = slots_entries t (c + 1) slots
slots_entries t c (Some v ∷ slots) = (record { thread = t; count = c }, v) ∷ slots_entries t (c + 1) slots

-- the entries of rows, the first of which is this thread's
abbrev pub rows_entries : {T : Type 0} → (thread : ℕ) → List (List (Option T)) → List (Address × T)
rows_entries t [] = []
rows_entries t (slots ∷ rows) = slots_entries t 0 slots ++ rows_entries (t + 1) rows

-- the table as a map
abbrev pub grid_map : {T : Type 0} → List (List (Option T)) → map.FinMap address_cmp T
grid_map rows = map.from_sorted (rows_entries 0 rows)

-- the slot of a count holds this, and each other slot what it held
abbrev pub SlotWritten : {T : Type 0} → (old new : List (Option T)) → ℕ → Option T → Type 0
SlotWritten old new count o = (c : ℕ) → slot_at new c ≡ (if c == count then o else slot_at old c)

-- the slot of an address holds this, and each other slot what it held
abbrev pub IsPlaced : {T : Type 0} → (old new : List (List (Option T))) → Address → Option T → Type 0
IsPlaced old new a o = (b : Address) → grid_at new b ≡ (if eq_by_cmp address_cmp b a then o else grid_at old b)

-- an address is stored as the pair of its numbers
abbrev pub address_code : Coded Address
address_code = code_by (ℕ × ℕ) (coded× coded_ℕ coded_ℕ) (λ a. (a.thread, a.count)) (λ p. record { thread = p.0; count = p.1 }) (λ _. refl)
