-- A page: the file `f` with two lines, the names of its classes, fields and methods, and the slots and offsets of one method.
use Rattle.std.specs.Prelude.{ℕ, pos, true, false, List, [], ◌∷◌, Some, None, codes}
use Rattle.classes.specs.Table.{TableData}
use Rattle.core_program.specs.declared.types.CoreType.TheVariants.{Class, Int}
use Rattle.core_program.specs.Core.{Program, Stmt, BlockS, SetFieldS, SyncS, PrintS, ThisE, IntE, no_stmts, and_stmt}
use Rattle.core_program.specs.Examples.{this_path, plain_method}
use Rattle.paths.specs.Paths.{PathData}
use Rattle.effects.specs.Parts.{StmtP}
use Rattle.core_examples.specs.Bodies.{nothing_held}
use Rattle.explain.specs.declared.names.Lack.TheVariants as lack
use Rattle.explain.specs.Visits.{Visit}
use Rattle.explain_text.specs.Pages.{PageData}

-- `class A { int v guarded_by this; A n; void put() { .. } void main() { .. } }`
abbrev pub page_table : TableData
page_table = record {
  names = codes "A" ∷ [];
  classes = [];
  fields = record { class = 0; name = codes "v"; is_final = false; ty = Int } ∷ record { class = 0; name = codes "n"; is_final = false; ty = Class 0 } ∷ [];
  methods = record { class = 0; name = codes "put"; params = []; returns = None } ∷ record { class = 0; name = codes "main"; params = []; returns = None } ∷ [];
}

-- two lines of three bytes each; the slots `this` and `x`; nodes at the second byte of the first line and at the first two of the second; `x`
-- should be final
abbrev pub page : PageData
page = record { file = codes "f"; text = codes "ab\ncd\n"; table = page_table; slots = codes "this" ∷ codes "x" ∷ []; offsets = 1 ∷ 3 ∷ 4 ∷ []; fitting = Some (lack.Variable 1) }

-- `this.v = 1;`
abbrev pub put_field : Stmt
put_field = SetFieldS ThisE 0 (IntE (pos 1))

-- `synchronized (this) { this.v = 1; }`, once and twice
abbrev pub locked_put : Stmt
locked_put = SyncS this_path put_field

abbrev pub locking_program : Program
locking_program = record {
  classes = [];
  fields = record { class = 0; index = 0; is_final = false; ty = Int; guard = Some this_path; writes_only = false } ∷ [];
  methods = plain_method 0 4 false locked_put ∷ plain_method 0 0 true (BlockS (and_stmt locked_put (and_stmt locked_put no_stmts))) ∷ [];
  main_class = 0;
  main = 1;
}

-- the same program, whose class runs `put` for `run`
abbrev pub running_program : Program
running_program = record locking_program { classes = record { fields = []; finals = []; run = Some 0; above = None; targets = [] } ∷ [] }

abbrev pub no_locks : ℕ → List PathData
no_locks m = []

-- the first and the second `synchronized`
abbrev pub one_step : ℕ → Visit
one_step n = record { node = n; part = StmtP locked_put; held = nothing_held; loop = None }

-- `System.out.println(1);`, at the node with this number
abbrev pub print_step : ℕ → Visit
print_step n = record { node = n; part = StmtP (PrintS (IntE (pos 1))); held = nothing_held; loop = None }
