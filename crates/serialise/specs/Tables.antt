-- Tables of values by number.
use Rattle.std.specs.Prelude.{ℕ, ◌==◌, List, unwrap_or, slice_get, if◌then◌else◌}

-- the value of a number; this one where the table has none
abbrev pub value_or : {A : Type 0} → A → List A → ℕ → A
value_or empty table number = unwrap_or (slice_get table number) empty

-- a function with another value at one number
abbrev pub put_at : {A : Type 0} → (ℕ → A) → ℕ → A → ℕ → A
put_at f n v m = if n == m then v else f m
