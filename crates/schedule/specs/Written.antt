-- How a schedule is written: one line of groups.
use Rattle.std.specs.Prelude.{ℕ, ◌+◌, ◌==◌, List, [], ◌∷◌, ◌++◌, map, decimal, if◌then◌else◌}
use Rattle.std.specs.List.{join_with_byte}

-- groups of a thread and how often it steps in a row, after one step more in front
abbrev pub with_step : ℕ → List (ℕ × ℕ) → List (ℕ × ℕ)
with_step thread [] = (thread, 1) ∷ []
with_step thread (group ∷ groups) = if group.0 == thread then (thread, group.1 + 1) ∷ groups else (thread, 1) ∷ (group ∷ groups)

-- the maximal groups of equal neighbours
abbrev pub groups_of : List ℕ → List (ℕ × ℕ)
groups_of [] = []
groups_of (thread ∷ schedule) = with_step thread (groups_of schedule)

-- the thread, and `*` and the count where it steps more than once
abbrev pub group_text : ℕ × ℕ → List ℕ
group_text group = if group.1 == 1 then decimal group.0 else decimal group.0 ++ (42 ∷ decimal group.1)

-- the groups with one blank between, and LF at the end
abbrev pub written : List ℕ → List ℕ
written schedule = join_with_byte 32 (map group_text (groups_of schedule)) ++ (10 ∷ [])
