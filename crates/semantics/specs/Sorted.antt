-- The entries of a run, sorted by the commit places of their units.
use Rattle.std.specs.Prelude.{ℕ, Bool, ◌==◌, nat_le, List, [], ◌∷◌, map, if◌then◌else◌}
use Rattle.std.specs.List.{list_any}
use Rattle.semantics.specs.Units.{Entry, units, commit_place}

-- whether an entry of the unit has this place
abbrev pub stands_at : ℕ → List Entry → Bool
stands_at p u = list_any (λ e. e.place == p) u

-- the commit place of the unit with an entry at this place; 0 where there is none
abbrev pub commit_at : List (List Entry) → ℕ → ℕ
commit_at [] p = 0
commit_at (u ∷ us) p = if stands_at p u then commit_place u else commit_at us p

-- an entry put before the first one of an equal or later key
abbrev pub put_by : (Entry → ℕ) → Entry → List Entry → List Entry
put_by key x [] = x ∷ []
put_by key x (y ∷ ys) = if nat_le (key x) (key y) then x ∷ y ∷ ys else y ∷ put_by key x ys

-- entries in ascending order of their keys; those of equal keys keep their order
abbrev pub sort_by : (Entry → ℕ) → List Entry → List Entry
sort_by key [] = []
sort_by key (x ∷ xs) = put_by key x (sort_by key xs)

-- the threads of entries in ascending order of the commit places of their units
abbrev pub sorted_order : List Entry → List ℕ
sorted_order es = map (λ e. e.thread) (sort_by (λ e. commit_at (units es) e.place) es)
