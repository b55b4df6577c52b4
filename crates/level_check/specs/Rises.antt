-- Levels as the numbers of a least fixpoint: what links ask, and what is left when they have got it.
use Rattle.std.specs.Prelude.{ℕ, zero, suc, ◌==◌, ◌&&◌, ◌||◌, Bool, true, false, nat_le, max, List, [], ◌∷◌, map, Option, Some, None, slice_get}
use Rattle.fixpoint.specs.Assignments.{CellNumbers}
use Rattle.level_check.specs.declared.link.Link.{Link}
use Rattle.level_check.specs.Greatest.{links_at}

-- a cell's level is at least this, or the cell isn't there
abbrev pub has_level : Option ℕ → ℕ → Bool
has_level None n = true
has_level (Some u) n = nat_le n u

-- whether links from a cell of this level have got what they ask
abbrev pub are_met : List ℕ → ℕ → List Link → Bool
are_met x from [] = true
are_met x from (l ∷ ls) = has_level (slice_get x l.to) (max from l.level) && are_met x from ls

-- the same of the links of a cell that may be missing, which then ask nothing
abbrev pub are_met_from : List ℕ → Option ℕ → List Link → Bool
are_met_from x None ls = true
are_met_from x (Some from) ls = are_met x from ls

-- levels with the one of a cell raised to this, where it was lower
abbrev pub raised_level : List ℕ → ℕ → ℕ → List ℕ
raised_level [] c n = []
raised_level (u ∷ us) zero n = max u n ∷ us
raised_level (u ∷ us) (suc c) n = u ∷ raised_level us c n

-- levels raised to what links from a cell of this level ask
abbrev pub all_raised : List ℕ → ℕ → List Link → List ℕ
all_raised x from [] = x
all_raised x from (l ∷ ls) = all_raised (raised_level x l.to (max from l.level)) from ls

-- the same for a cell that may be missing, which then raises nothing
abbrev pub raised_from : List ℕ → Option ℕ → List Link → List ℕ
raised_from x None ls = x
raised_from x (Some from) ls = all_raised x from ls

-- levels as an assignment, a list of one number for each cell; and back
abbrev pub marks_of : List ℕ → CellNumbers
marks_of x = map (λ u. u ∷ []) x

-- the level that a cell's list has; 0 where the list is empty
abbrev pub number_of : List ℕ → ℕ
number_of [] = 0
number_of (n ∷ ns) = n

-- the levels of all cells, out of an assignment
abbrev pub numbers_of : CellNumbers → List ℕ
numbers_of marks = map number_of marks

-- whether the links of a cell have got what they ask
abbrev pub are_links_met : List (List Link) → CellNumbers → ℕ → Bool
are_links_met rows marks c = are_met_from (numbers_of marks) (slice_get (numbers_of marks) c) (links_at rows c)

-- whether one of the links leads to a cell
abbrev pub leads_to : List Link → ℕ → Bool
leads_to [] c = false
leads_to (l ∷ ls) c = l.to == c || leads_to ls c
