-- The work of judging lines, and its bound.
use Rattle.std.specs.Prelude.{ℕ, zero, suc, ◌+◌, ◌-◌, ◌*◌, ◌^◌, ◌<◌, List, [], ◌∷◌, length, nat_le, Option, Some, None, slice_get, if◌then◌else◌}
use Rattle.paths.specs.Paths.{PathData}
use Rattle.algebra.specs.declared.basic.Basic.{Basic}
use Rattle.algebra.specs.Basics.{rank_of}
use Rattle.algebra.specs.Tables.{count_of_parts}
use Rattle.core_program.specs.Core.{Program, Method}
use Rattle.core_program.specs.Sizes.{stmt_nodes}
use Rattle.rules.specs.Search.{row_at}
use Rattle.refutation.specs.Lines.{overriding}

-- the most work that is made
abbrev pub most_work : ℕ
most_work = 2 ^ 31

-- a look at the body of a method, if it is there: at most 8 for each of its nodes
abbrev pub body_work : Option Method → ℕ
body_work None = 0
body_work (Some method) = 8 * stmt_nodes method.body

-- a look at a method: at its body, and at what is said of each method that overrides it, 8 each
abbrev pub look_work : Program → ℕ → ℕ
look_work P m = body_work (slice_get P.methods m) + 8 * length (overriding P m)

-- a look at each of the first so many methods for each line that can say something new of it: what is said at a part of its relevant
-- paths rises at most four times
abbrev pub program_work : (looks : ℕ → ℕ) → (rel : ℕ → List PathData) → ℕ → ℕ
program_work looks rel zero = 0
program_work looks rel (suc m) = looks m * (4 * count_of_parts (rel m)) + program_work looks rel m

-- all looks that lines of the program can take are more work than is made
abbrev pub IsOverWork : Program → (rel : ℕ → List PathData) → Type 0
IsOverWork P rel = most_work < program_work (look_work P) rel (length P.methods)

-- the nodes of a body, if it is there
abbrev pub body_nodes : Option Method → ℕ
body_nodes None = 0
body_nodes (Some method) = stmt_nodes method.body

-- the nodes of the bodies of the first so many methods, and the pairs of one of them and a method that overrides it
abbrev pub nodes_and_pairs : Program → ℕ → ℕ
nodes_and_pairs P zero = 0
nodes_and_pairs P (suc m) = (body_nodes (slice_get P.methods m) + length (overriding P m)) + nodes_and_pairs P m

-- how many of these numbers are at least the first and above all before them: those that a look counts as overriding methods
abbrev pub rising : ℕ → List ℕ → ℕ
rising least [] = 0
rising least (x ∷ xs) = if nat_le least x then suc (rising (suc x) xs) else rising least xs

-- how often what a table says can still rise
abbrev pub table_room : List Basic → ℕ
table_room [] = 0
table_room (b ∷ bs) = (4 - rank_of b) + table_room bs

-- the same looks where the tables say something already
abbrev pub work_left : (looks : ℕ → ℕ) → (tables : List (List Basic)) → ℕ → ℕ
work_left looks tables zero = 0
work_left looks tables (suc m) = looks m * table_room (row_at tables m) + work_left looks tables m
