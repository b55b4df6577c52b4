-- Tables: the basics of a method at the parts of its relevant paths, and the assignment that tables make.
use Rattle.std.specs.Prelude.{ℕ, Bool, List, [], ◌∷◌, map, Option, Some, None, slice_get}
use Rattle.paths.specs.Paths.{PathData}
use Rattle.algebra.specs.declared.basic.Basic.{Basic}
use Rattle.algebra.specs.Tables.{first_entry, half_table}
use Rattle.rules.specs.Effect.{Assignment}

-- the entry of a table by tests: each test takes one half of what is left
abbrev pub chosen : List Bool → List Basic → Basic
chosen [] table = first_entry table
chosen (b ∷ bs) table = chosen bs (half_table b table)

-- a table that may be missing
abbrev pub table_or_empty : Option (List Basic) → List Basic
table_or_empty None = []
table_or_empty (Some table) = table

-- the assignment of tables: at each set the entry for the method's relevant paths in it
abbrev pub table_assignment : (ℕ → List PathData) → List (List Basic) → Assignment
table_assignment rel tables m H = chosen (map H (rel m)) (table_or_empty (slice_get tables m))
