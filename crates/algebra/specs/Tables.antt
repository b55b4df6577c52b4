-- Tables: basics at the parts of some paths, those with the first path in the second half, and so on in each half.
use Rattle.std.specs.Prelude.{ℕ, ◌+◌, Bool, List, [], ◌∷◌, length, take, drop, ◌/◌, if◌then◌else◌}
use Rattle.paths.specs.Paths.{PathData}
use Rattle.algebra.specs.declared.basic.Basic.{Basic}
use Rattle.algebra.specs.declared.basic.Basic.TheVariants.{Const}

-- the first basic of a table; const where there is none
abbrev pub first_entry : List Basic → Basic
first_entry [] = Const
first_entry (b ∷ bs) = b

-- the second half of a table where a test passes, else the first
abbrev pub half_table : Bool → List Basic → List Basic
half_table passes table = if passes then drop (length table / 2) table else take (length table / 2) table

-- how many parts a list of paths has
abbrev pub count_of_parts : List PathData → ℕ
count_of_parts [] = 1
count_of_parts (p ∷ ps) = count_of_parts ps + count_of_parts ps
