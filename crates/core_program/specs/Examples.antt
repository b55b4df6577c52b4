-- Example programs, as elaboration gives them.
use Rattle.std.specs.Prelude.{ℕ, pos, Bool, true, false, List, Option, [], ◌∷◌, Some, None}
use Rattle.paths.specs.Paths.{PathData}
use Rattle.core_program.specs.declared.types.CoreOp.TheVariants.{Add, Div}
use Rattle.core_program.specs.declared.types.CoreType.TheVariants as type
use Rattle.core_program.specs.Core.{Program, Class, Method, IntE, ThisE, VarE, BinaryE, GetE, CallE, NewE, no_exprs, and_expr}
use Rattle.core_program.specs.Core.{Stmt, BlockS, LocalS, SetFieldS, DoS, SyncS, ReturnS, PrintS, StartS, no_stmts, and_stmt}
use Rattle.core_program.specs.Locks.{slot_path}

-- the path `this`
abbrev pub this_path : PathData
this_path = slot_path 0

-- a block of one statement
abbrev pub block_of : Stmt → Stmt
block_of s = BlockS (and_stmt s no_stmts)

-- a class that extends none, with these fields, these final ones among them, this `run`, and this one method
abbrev pub plain_class : (fields finals : List ℕ) (run : Option ℕ) (m : ℕ) → Class
plain_class fields finals run m = record { fields = fields; finals = finals; run = run; above = None; targets = (m, m) ∷ [] }

-- a method without parameters, result, required locks and locals
abbrev pub plain_method : (class place_at : ℕ) (annotated : Bool) → Stmt → Method
plain_method class place_at annotated body = record {
  class = class;
  place_at = place_at;
  annotated = annotated;
  requires_ = [];
  params = [];
  result = None;
  slots = 1;
  body = body;
}

-- The counter program: two workers increment a guarded cell.
--     class Cell { int v guarded_by this; atomic void inc() { synchronized (this) { this.v = this.v + 1; } } }
--     class W implements Runnable { final Cell c; W(Cell c) { this.c = c; } public void run() { this.c.inc(); } }
--     class Main { void main() { final Cell c = new Cell(); new Thread(new W(c)).start(); new Thread(new W(c)).start(); } }

-- `this.v = this.v + 1`
abbrev pub increment : Stmt
increment = SetFieldS ThisE 0 (BinaryE Add (GetE ThisE 0) (IntE (pos 1)))

-- `synchronized (this) { this.v = this.v + 1; }`
abbrev pub inc_body : Stmt
inc_body = block_of (SyncS this_path (block_of increment))

-- `this.c.inc();`
abbrev pub run_body : Stmt
run_body = block_of (DoS (CallE (GetE ThisE 1) 0 no_exprs) false)

-- `new Thread(new W(c)).start();`
abbrev pub start_worker : Stmt
start_worker = StartS (NewE 1 (and_expr (VarE 1 true (type.Class 0)) no_exprs))

-- `final Cell c = new Cell();` and two workers
abbrev pub main_body : Stmt
main_body = BlockS (and_stmt (LocalS 1 true (type.Class 0) (NewE 0 no_exprs)) (and_stmt start_worker (and_stmt start_worker no_stmts)))

-- the program
abbrev pub counter : Program
counter = record {
  classes = plain_class (0 ∷ []) [] None 0 ∷ plain_class (1 ∷ []) (1 ∷ []) (Some 1) 1 ∷ plain_class [] [] None 2 ∷ [];
  fields = record { class = 0; index = 0; is_final = false; ty = type.Int; guard = Some this_path; writes_only = false } ∷ record { class = 1; index = 0; is_final = true; ty = type.Class 0; guard = None; writes_only = false } ∷ [];
  methods = plain_method 0 48 true inc_body ∷ plain_method 1 187 false run_body ∷ record (plain_method 2 231 false main_body) { slots = 2 } ∷ [];
  main_class = 2;
  main = 2;
}

-- A class with a field that is guarded, or guarded for writing only, and a `main` with this body, annotated or not.
--     class Main { int v guarded_by this; void main() { .. } }
--     class Main { int v write_guarded_by this; void main() { .. } }
abbrev pub guarded_main : (writes_only : Bool) (place_at : ℕ) (annotated : Bool) → Stmt → Program
guarded_main writes_only place_at annotated body = record {
  classes = plain_class (0 ∷ []) [] None 0 ∷ [];
  fields = record { class = 0; index = 0; is_final = false; ty = type.Int; guard = Some this_path; writes_only = writes_only } ∷ [];
  methods = plain_method 0 place_at annotated body ∷ [];
  main_class = 0;
  main = 0;
}

-- `synchronized (this) { .. }`
abbrev pub synchronized_this : Stmt → Stmt
synchronized_this s = SyncS this_path (block_of s)

-- `this.v = 7;`
abbrev pub put_seven : Stmt
put_seven = SetFieldS ThisE 0 (IntE (pos 7))

-- `atomic void main() { synchronized (this) { synchronized (this) { this.v = 7; } } }`
abbrev pub nested : Program
nested = guarded_main false 48 true (block_of (synchronized_this (synchronized_this put_seven)))

-- `void main() { synchronized (this) { synchronized (this) { return; } } }`
abbrev pub returns_locked : Program
returns_locked = guarded_main false 41 false (block_of (synchronized_this (synchronized_this (ReturnS None))))

-- `void main() { System.out.println(1 / 0); }`
abbrev pub divides_by_zero : Program
divides_by_zero = guarded_main false 41 false (block_of (PrintS (BinaryE Div (IntE (pos 1)) (IntE (pos 0)))))

-- `System.out.println(this.v);`
abbrev pub print_field : Stmt
print_field = PrintS (GetE ThisE 0)

-- `void main() { System.out.println(this.v); synchronized (this) { this.v = 7; System.out.println(this.v); } }`, where the guard guards writes only
abbrev pub reads_unlocked : Program
reads_unlocked = guarded_main true 47 false (BlockS (and_stmt print_field (and_stmt (SyncS this_path (BlockS (and_stmt put_seven (and_stmt print_field no_stmts)))) no_stmts)))
