-- What a book is judged by, in memory.
use Rattle.std.specs.Prelude.{◌≡◌, ℕ, ◌==◌, Bool, List, ◌++◌, map, Option, Some, None, slice_get, if◌then◌else◌}
use Rattle.paths.specs.Paths.{PathData, extended_some}
use Rattle.paths.specs.Renamings.{under_call}
use Rattle.algebra.specs.declared.basic.Basic.TheVariants.{Const}
use Rattle.algebra.specs.HeldPaths.{Held, has_path, holds_at}
use Rattle.conditions.specs.Conditions.{Cond, LeafC, cond_of, IsCanonical}
use Rattle.core_program.specs.Core.{Program}
use Rattle.core_program.specs.Views.{program_of}
use Rattle.rules.specs.Near.{loc_of, rel_of}
use Rattle.rules.specs.Effect.{Assignment}
use Rattle.book_check.specs.declared.judge.Judge.{Judge}
use Rattle.effects.specs.Rules.{Value}
use Rattle.book_check.specs.Conclusions.{tree_numbered, table_value, tests_only}

-- the program
abbrev pub judge_program : Judge → Program
judge_program judge = program_of judge.program.now

-- the relevant paths of each method
abbrev pub judge_rel : Judge → ℕ → List PathData
judge_rel judge = rel_of judge.sets.now

-- the paths near a method: its relevant paths, and those of its locals
abbrev pub judge_near : Judge → ℕ → List PathData
judge_near judge m = rel_of judge.sets.now m ++ loc_of judge.sets.now m

-- the trees of the table
abbrev pub judge_table : Judge → List Cond
judge_table judge = map cond_of judge.table.now

-- the value of the tree with this number
abbrev pub judge_value : Judge → ℕ → Value
judge_value judge = table_value (judge_table judge)

-- the value of the tree of a method line, by its number; const where there is none
abbrev pub number_value : List Cond → Option ℕ → Value
number_value table None H = Const
number_value table (Some n) H = table_value table n H

-- what the trees of the method lines assign to the methods
abbrev pub judge_assignment : Judge → Assignment
judge_assignment judge m H = number_value (judge_table judge) (slice_get judge.lines.now m) H

-- the tree with this number; const where there is none
abbrev pub numbered : List Cond → Option ℕ → Cond
numbered table None = LeafC Const
numbered table (Some n) = tree_numbered (slice_get table n)

-- the tree of a method's line tests only relevant paths of the method
abbrev pub own_near : Judge → ℕ → Bool
own_near judge m = tests_only (judge_rel judge m) (numbered (judge_table judge) (slice_get judge.lines.now m))

-- each tree of the table is canonical
abbrev pub AreCanonical : List Cond → Type 0
AreCanonical table = (n : ℕ) (t : Cond) → slice_get table n ≡ Some t → IsCanonical t

-- paths under other names, or none: a path is in the set where its name is there and held
abbrev pub named_set : (PathData → Option PathData) → Held → Held
named_set name H q = holds_at (name q) H

-- what a path was called before a final local was declared
abbrev pub name_before_local : ℕ → Option PathData → PathData → Option PathData
name_before_local x value q = if q.root == x then extended_some value q.fields else Some q

-- a path under its own name, where it is among these
abbrev pub own_name : List PathData → PathData → Option PathData
own_name paths q = if has_path paths q then Some q else None

-- what a callee's path is called here, where it is relevant
abbrev pub call_name : List PathData → Option PathData → List (Option PathData) → PathData → Option PathData
call_name rel receiver args q = if has_path rel q then under_call receiver args q else None
