-- What the calls keep for each method: the greatest of what the lines so far say of it, at each part of its relevant paths.
use Rattle.std.specs.Prelude.{◌≡◌, ℕ, ◌<◌, ◌==◌, Bool, true, false, List, [], ◌∷◌, ◌++◌, length, if◌then◌else◌}
use Rattle.paths.specs.Paths.{PathData}
use Rattle.algebra.specs.declared.basic.Basic.{Basic}
use Rattle.algebra.specs.declared.basic.Basic.TheVariants.{Const}
use Rattle.algebra.specs.Basics.{join_of}
use Rattle.algebra.specs.HeldPaths.{Held, has_path}
use Rattle.algebra.specs.Tables.{first_entry, half_table, count_of_parts}
use Rattle.rules.specs.Effect.{Assignment}
use Rattle.rules.specs.Search.{row_at}
use Rattle.refutation.specs.Lines.{LineData, floor}

-- the entry of a table at a set: of each path that is held the second half is taken, else the first
abbrev pub table_entry : (rel : List PathData) → List Basic → Held → Basic
table_entry [] table H = first_entry table
table_entry (p ∷ ps) table H = table_entry ps (half_table (H p) table) H

-- what the tables of all methods say
abbrev pub said_by : (rel : ℕ → List PathData) → List (List Basic) → Assignment
said_by rel tables m H = table_entry (rel m) (row_at tables m) H

-- the table with const at each part
abbrev pub consts : (rel : List PathData) → List Basic
consts [] = Const ∷ []
consts (p ∷ ps) = consts ps ++ consts ps

-- the first basic is joined with one
abbrev pub front_joined : Basic → List Basic → List Basic
front_joined b [] = []
front_joined b (x ∷ xs) = join_of x b ∷ xs

-- a basic is joined with the first of a table, and with those that stand in second halves at marked places alone
abbrev pub raised_at_marks : (marks : List Bool) → Basic → List Basic → List Basic
raised_at_marks [] b table = front_joined b table
raised_at_marks (is_held ∷ marks) b table = raised_at_marks marks b (half_table false table) ++ (if is_held then raised_at_marks marks b (half_table true table) else half_table true table)

-- a basic is joined at each part of these held paths
abbrev pub raised_at_subsets : (rel held : List PathData) → Basic → List Basic → List Basic
raised_at_subsets [] held b table = front_joined b table
raised_at_subsets (p ∷ ps) held b table = raised_at_subsets ps held b (half_table false table) ++ (if has_path held p then raised_at_subsets ps held b (half_table true table) else half_table true table)

-- the table of the line's method is raised, and all others are what they were
abbrev pub IsRaised : (rel : List PathData) → (tables now : List (List Basic)) → LineData → Type 0
IsRaised rel tables now l = (k : ℕ) → row_at now k ≡ (if l.method == k then raised_at_subsets rel l.held l.found (row_at tables k) else row_at tables k)

-- each table has an entry for each part of its method's relevant paths, and the tables say what the lines say
pub record TablesSay (rel : ℕ → List PathData) (tables : List (List Basic)) (lines : List LineData) : Type 0 where
  pub sized : (m : ℕ) → m < length tables → length (row_at tables m) ≡ count_of_parts (rel m)
  pub says : said_by rel tables ≡ floor rel lines
