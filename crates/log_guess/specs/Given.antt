-- What a text of guards gives.
use Rattle.std.specs.Prelude.{ℕ, ◌+◌, ◌==◌, List, [], ◌∷◌, Option, Some, None, Result, Ok, Err, if◌then◌else◌, codes}
use Rattle.std.specs.Str.{bytes_eq}
use Rattle.logs.specs.Logs.{Guard, ByLock, ByThread, Unguarded}
use Rattle.logs.specs.Numbers.{number_of_word}
use Rattle.logs.specs.Words.{is_log_word, before_space, behind_space}

-- One line: `P lock L`, `P thread T` or `P free`.

-- a place, and what a line says to guard it
pub record GivenGuard : Type 0 where
  pub place : List ℕ
  pub guard : Guard

-- a guard of this kind that has a name
abbrev pub guard_named : (kind name : List ℕ) → Option Guard
guard_named kind name =
    if bytes_eq kind (codes "lock") then Some (ByLock (number_of_word name)) else (
    if bytes_eq kind (codes "thread") then Some (ByThread (number_of_word name)) else None)

-- a guard of this kind, with the name behind it where there is one
abbrev pub guard_read : (kind : List ℕ) → Option (List ℕ) → Option Guard
guard_read kind None = if bytes_eq kind (codes "free") then Some Unguarded else None
guard_read kind (Some name) = if is_log_word name then guard_named kind name else None

-- a place with this guard
abbrev pub given_to : (place : List ℕ) → Option Guard → Option GivenGuard
given_to place None = None
given_to place (Some g) = Some (record { place = place; guard = g })

abbrev pub given_behind : (place : List ℕ) → Option (List ℕ) → Option GivenGuard
given_behind place None = None
given_behind place (Some rest) = if is_log_word place then given_to place (guard_read (before_space rest) (behind_space rest)) else None

-- what a line without its end gives, where it is a line of guards
abbrev pub given_of : List ℕ → Option GivenGuard
given_of row = given_behind (before_space row) (behind_space row)

-- A text: lines, each with its end.

-- the bytes before the first line feed, or all
abbrev pub first_row : List ℕ → List ℕ
first_row [] = []
first_row (b ∷ bs) = if b == 10 then [] else b ∷ first_row bs

-- what stands behind each line feed, up to the next one or the end
abbrev pub later_rows : List ℕ → List (List ℕ)
later_rows [] = []
later_rows (b ∷ bs) = if b == 10 then first_row bs ∷ later_rows bs else later_rows bs

-- the guards with this one for its place
abbrev pub with_guard : GivenGuard → (ℕ → Guard) → ℕ → Guard
with_guard g guard p = if number_of_word g.place == p then g.guard else guard p

-- behind a line of this number, which gives that
abbrev pub guards_then : (line : ℕ) → Option GivenGuard → (ℕ → Guard) → ((ℕ → Guard) → Result (ℕ → Guard) ℕ) → Result (ℕ → Guard) ℕ
guards_then line None guard later = Err line
guards_then line (Some g) guard later = later (with_guard g guard)

-- behind the last line feed nothing may stand
abbrev pub guards_at_end : (line : ℕ) → (ℕ → Guard) → (row : List ℕ) → Result (ℕ → Guard) ℕ
guards_at_end line guard [] = Ok guard
guards_at_end line guard (b ∷ bs) = Err line

-- the guards after a row and later ones, where these stood before it and it has this number; or the number of the first row that is no line of guards
abbrev pub guards_in : (line : ℕ) → (ℕ → Guard) → (row : List ℕ) → (later : List (List ℕ)) → Result (ℕ → Guard) ℕ
guards_in line guard row [] = guards_at_end line guard row
guards_in line guard row (next ∷ later) = guards_then line (given_of row) guard (λ g. guards_in (line + 1) g next later)

-- the guards that a text gives, of two for a place the later one; or the number of its first line that is no line of guards
abbrev pub guards_of : (text : List ℕ) → Result (ℕ → Guard) ℕ
guards_of text = guards_in 1 (λ p. Unguarded) (first_row text) (later_rows text)
