-- The first of bad ones: that of the first method, there the first in written order, and of it the one under the greatest level.
use Rattle.std.specs.Prelude.{ℕ, Bool, nat_lt, ◌==◌, ◌&&◌, ◌||◌, List, [], ◌∷◌, ◌++◌, Option, Some, None, if◌then◌else◌}
use Rattle.level_check.specs.Told.{ToldLevel, Calls, Wrong}
use Rattle.level_check.specs.declared.bad.Bad.{Bad}
use Rattle.level_check.specs.declared.cells.Cell.{Cell}
use Rattle.level_check.specs.Cells.{Telling, set_of}

-- whether the first is told before the second
abbrev pub is_before : Bad → Bad → Bool
is_before a b = nat_lt a.method b.method || (a.method == b.method && (nat_lt a.place b.place || (a.place == b.place && nat_lt b.under a.under)))

-- the first of those so far and one more
abbrev pub bad_noted : Option Bad → Bad → Option Bad
bad_noted None b = Some b
bad_noted (Some a) b = if is_before b a then Some b else Some a

-- the first of those so far and of these
abbrev pub firsts : Option Bad → List Bad → Option Bad
firsts first [] = first
firsts first (b ∷ bs) = firsts (bad_noted first b) bs

-- the bad ones among what the walk of a method told
abbrev pub bads_in : ℕ → List ToldLevel → List Bad
bads_in m [] = []
bads_in m (Calls k K u ∷ told) = bads_in m told
bads_in m (Wrong p c u ∷ told) = record { method = m; place = p; class = c; under = u } ∷ bads_in m told

-- those that the walks of cells come to, each under the cell's level
abbrev pub all_bads : Telling → List Cell → List ℕ → List Bad
all_bads tell [] levels = []
all_bads tell (cell ∷ cells) [] = []
all_bads tell (cell ∷ cells) (u ∷ us) = bads_in cell.callee.method (tell cell.callee (set_of cell) u) ++ all_bads tell cells us
