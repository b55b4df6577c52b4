-- Tables as the cells of a least fixpoint: the basics of each method as numbers, and what its calls demand of them.
use Rattle.std.specs.Prelude.{◌≡◌, ℕ, zero, suc, ◌+◌, ◌-◌, ◌^◌, ◌≤◌, Bool, true, false, ◌&&◌, List, [], ◌∷◌, ◌++◌, map, length, sum_by, Option, Some, None, slice_get}
use Rattle.paths.specs.Paths.{PathData}
use Rattle.algebra.specs.declared.basic.Basic.{Basic}
use Rattle.algebra.specs.declared.basic.Basic.TheVariants.{Const, Mover, Atomic, Cmpd, Error}
use Rattle.algebra.specs.Basics.{rank_of, below_of, join_of}
use Rattle.algebra.specs.HeldPaths.{Held, has_path}
use Rattle.algebra.specs.Tables.{half_table, count_of_parts}
use Rattle.core_program.specs.Core.{Program, Method}
use Rattle.rules.specs.Effect.{Assignment, effect}
use Rattle.rules.specs.Rules.{held_in}
use Rattle.rules.specs.Called.{AreCallers}
use Rattle.infer.specs.Tables.{table_or_empty, table_assignment}

-- the basic of a number; error for all numbers past its own
abbrev pub basic_of : ℕ → Basic
basic_of zero = Const
basic_of (suc zero) = Mover
basic_of (suc (suc zero)) = Atomic
basic_of (suc (suc (suc zero))) = Cmpd
basic_of (suc (suc (suc (suc n)))) = Error

-- tables as numbers, and numbers as tables
abbrev pub table_numbers : List (List Basic) → List (List ℕ)
table_numbers tables = map (λ table. map rank_of table) tables

-- the tables as basics, which the fixpoint keeps as numbers
abbrev pub tables_of : List (List ℕ) → List (List Basic)
tables_of rows = map (λ row. map basic_of row) rows

-- the basic at the held paths with each part of these paths, in the order of tables
abbrev pub at_parts : (List PathData → Basic) → (held paths : List PathData) → List Basic
at_parts f held [] = f held ∷ []
at_parts f held (p ∷ ps) = at_parts f held ps ++ at_parts f (held ++ p ∷ []) ps

-- the table of an assignment for a method
abbrev pub table_in : (ℕ → List PathData) → Assignment → ℕ → List Basic
table_in rel A m = at_parts (λ held. A m (has_path held)) [] (rel m)

-- the tables of so many methods from here on
abbrev pub tables_in : (ℕ → List PathData) → Assignment → (first count : ℕ) → List (List Basic)
tables_in rel A m zero = []
tables_in rel A m (suc count) = table_in rel A m ∷ tables_in rel A (suc m) count

-- const everywhere
abbrev pub all_const : Assignment
all_const m H = Const

-- the greatest of a basic and what is assigned to some methods, to each at those of the held paths that are relevant to it
abbrev pub greatest_of : (ℕ → List PathData) → Assignment → Basic → List ℕ → Held → Basic
greatest_of rel A b [] H = b
greatest_of rel A b (n ∷ ns) H = greatest_of rel A (join_of b (A n (held_in (rel n) H))) ns H

-- what a call of a method may come to, where these methods override it: the effect of its body, or what is assigned to one of them
abbrev pub inferred_effect : Program → (ℕ → List PathData) → Assignment → (overs : List ℕ) → Method → Held → Basic
inferred_effect P rel A overs method H = greatest_of rel A (effect P rel A method.body H) overs H

-- that at the required paths with each part of the relevant ones
abbrev pub demands_of : Program → (overs : ℕ → List ℕ) → (ℕ → List PathData) → Assignment → ℕ → Option Method → List Basic
demands_of P overs rel A m None = []
demands_of P overs rel A m (Some method) = at_parts (λ held. inferred_effect P rel A (overs m) method (has_path held)) method.requires_ (rel m)

-- what method m asks of its table: the effect of its body, or what is assigned to a method that overrides it, where that is more
abbrev pub demands_at : Program → (overs : ℕ → List ℕ) → (ℕ → List PathData) → Assignment → ℕ → List Basic
demands_at P overs rel A m = demands_of P overs rel A m (slice_get P.methods m)

-- whether a basic is at most another; not where the other is missing
abbrev pub below_some : Basic → Option Basic → Bool
below_some b None = false
below_some b (Some own) = below_of b own

-- each basic is at most that of the table at its place
abbrev pub are_below : List Basic → List Basic → Bool
are_below [] table = true
are_below (b ∷ bs) [] = false
are_below (b ∷ bs) (c ∷ cs) = below_of b c && are_below bs cs

-- the greater of two basics; the first where the other is missing
abbrev pub join_some : Basic → Option Basic → Basic
join_some b None = b
join_some b (Some own) = join_of b own

-- the greater basics, place by place
abbrev pub joined_tables : List Basic → List Basic → List Basic
joined_tables [] table = []
joined_tables (b ∷ bs) [] = b ∷ bs
joined_tables (b ∷ bs) (c ∷ cs) = join_of b c ∷ joined_tables bs cs

-- a table over these paths falls: each half does, and the half with the first path is below the one without it
abbrev pub table_falls : List PathData → List Basic → Bool
table_falls [] table = true
table_falls (p ∷ ps) table = are_below (half_table true table) (half_table false table) && (table_falls ps (half_table false table) && table_falls ps (half_table true table))

-- the table of a method falls, and is no less than its calls demand
abbrev pub is_met_by : Program → (overs : ℕ → List ℕ) → (ℕ → List PathData) → List (List Basic) → ℕ → Bool
is_met_by P overs rel tables m = table_falls (rel m) (table_or_empty (slice_get tables m)) && are_below (demands_at P overs rel (table_assignment rel tables) m) (table_or_empty (slice_get tables m))

-- the same of numbers
abbrev pub is_met : Program → (overs : ℕ → List ℕ) → (ℕ → List PathData) → List (List ℕ) → ℕ → Bool
is_met P overs rel x m = is_met_by P overs rel (tables_of x) m

-- how often a table can rise, at most
abbrev pub room_of : List Basic → ℕ
room_of table = sum_by (λ b. 4 - rank_of b) table

-- how often all tables together can rise, at most
abbrev pub rooms_of : List (List Basic) → ℕ
rooms_of tables = sum_by room_of tables

-- a table for each method, which falls, with a basic for each part of its relevant paths
pub record AreTables (P : Program) (rel : ℕ → List PathData) (tables : List (List Basic)) : Type 0 where
  pub count : length tables ≡ length P.methods
  pub size : (m : ℕ) (table : List Basic) → slice_get tables m ≡ Some table → length table ≡ count_of_parts (rel m)
  pub falls : (m : ℕ) (table : List Basic) → slice_get tables m ≡ Some table → table_falls (rel m) table ≡ true

-- the cells of a program: its tables, with room for every rise, and the callers of each method
pub record AreCells (P : Program) (overs : ℕ → List ℕ) (rel : ℕ → List PathData) (tables : List (List Basic)) (room : ℕ) (rows : List (List ℕ)) : Type 0 where
  pub few : length P.methods ≤ 2 ^ 32
  pub each : AreTables P rel tables
  pub enough : rooms_of tables ≤ room
  pub callers : AreCallers P overs rows
