-- The units of a run in the open order: those that commit in ascending order of their commit places, then the others in ascending
-- order of their threads.
use Rattle.std.specs.Prelude.{ℕ, Bool, not, ◌||◌, nat_le, List, [], ◌∷◌, ◌++◌, filter, if◌then◌else◌}
use Rattle.std.specs.List.{list_any}
use Rattle.semantics.specs.Units.{Entry, is_whole, is_commit, in_order}

-- whether a unit commits: all do but a call that is left open before its first Left or Other step
abbrev pub commits : List Entry → Bool
commits u = is_whole u || list_any (λ e. is_commit e.kind) u

-- whether a unit doesn't commit: a call that is left open before its first Left or Other step
abbrev pub is_uncommitted : List Entry → Bool
is_uncommitted u = not (commits u)

-- the thread of a unit
abbrev pub unit_thread : List Entry → ℕ
unit_thread [] = 0
unit_thread (e ∷ u) = e.thread

-- a unit put before the first one of no lower thread
abbrev pub placed_by_thread : List Entry → List (List Entry) → List (List Entry)
placed_by_thread u [] = u ∷ []
placed_by_thread u (v ∷ us) = if nat_le (unit_thread u) (unit_thread v) then u ∷ v ∷ us else v ∷ placed_by_thread u us

-- units in ascending order of their threads
abbrev pub by_thread : List (List Entry) → List (List Entry)
by_thread [] = []
by_thread (u ∷ us) = placed_by_thread u (by_thread us)

-- the units that commit in order of their commit places, then the others in order of their threads
abbrev pub open_units : List (List Entry) → List (List Entry)
open_units us = in_order (filter commits us) ++ by_thread (filter is_uncommitted us)
