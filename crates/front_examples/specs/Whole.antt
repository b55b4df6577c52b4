-- Whole programs, as they are written and as core programs.
use Rattle.std.specs.Prelude.{true, false, [], ◌∷◌, Some, None, codes}
use Rattle.core_program.specs.declared.types.CoreType.TheVariants as T
use Rattle.core_program.specs.Core as core
use Rattle.syntax.specs.declared.tree.Op.TheVariants as O
use Rattle.syntax.specs.declared.tree.TypeName.TheVariants as Y
use Rattle.syntax.specs.Trees.{NumberE, ThisE, BinaryE, GetE, CallE, NewE, no_exprs, StmtTree, LocalS, SetFieldS, DoS, SyncS, PrintS, StartS, more_stmts, MethodTree, FieldM, CtorM, MethodM, ProgramTree}
use Rattle.classes.specs.Table.{TableData, table_of}
use Rattle.front_examples.specs.Written.{name, class_type_name, variable_at, param, field_tree, field, method_tree, method, bare_method, class_tree, class_below, this_lock, lock_tree, one_expr, one_stmt}
use Rattle.front_examples.specs.Shop.{n_param, main_class_tree}
use Rattle.front_examples.specs.Knots.{core_path}
use Rattle.front_examples.specs.Typing.{var_b, local_y}

-- the core program of `shop`
abbrev pub shop_core : core.Program
shop_core = record {
  classes =
      record { fields = 0 ∷ 1 ∷ []; finals = 0 ∷ []; run = None; above = None; targets = (0, 0) ∷ (1, 1) ∷ [] }
      ∷ record { fields = 0 ∷ 1 ∷ 2 ∷ 3 ∷ []; finals = 0 ∷ 2 ∷ []; run = None; above = Some 0; targets = (0, 2) ∷ (1, 1) ∷ (2, 2) ∷ [] }
      ∷ record { fields = []; finals = []; run = None; above = None; targets = (3, 3) ∷ [] }
      ∷ record { fields = []; finals = []; run = Some 4; above = None; targets = (4, 4) ∷ [] } ∷ [];
  fields =
      record { class = 0; index = 0; is_final = true; ty = T.Int; guard = None; writes_only = false }
      ∷ record { class = 0; index = 1; is_final = false; ty = T.Int; guard = Some (core_path 0 []); writes_only = false }
      ∷ record { class = 1; index = 2; is_final = true; ty = T.Class 0; guard = None; writes_only = false }
      ∷ record { class = 1; index = 3; is_final = false; ty = T.Boolean; guard = None; writes_only = false } ∷ [];
  methods =
      record { class = 0; place_at = 10; annotated = false; requires_ = core_path 0 [] ∷ []; params = (true, T.Int) ∷ []; result = Some T.Int; slots = 2; body = core.BlockS (core.and_stmt (core.ReturnS (Some (core.GetE core.ThisE 1))) core.no_stmts) }
      ∷ record { class = 0; place_at = 20; annotated = false; requires_ = []; params = []; result = None; slots = 1; body = core.BlockS core.no_stmts }
      ∷ record { class = 1; place_at = 40; annotated = false; requires_ = core_path 0 [] ∷ []; params = (true, T.Int) ∷ []; result = Some T.Int; slots = 2; body = core.BlockS (core.and_stmt (core.ReturnS (Some (core.GetE (core.GetE core.ThisE 2) 1))) core.no_stmts) }
      ∷ record { class = 2; place_at = 61; annotated = false; requires_ = []; params = []; result = None; slots = 1; body = core.BlockS core.no_stmts }
      ∷ record { class = 3; place_at = 71; annotated = false; requires_ = []; params = []; result = None; slots = 1; body = core.BlockS core.no_stmts } ∷ [];
  main_class = 2;
  main = 3;
}

-- A class that stands before the one that it extends, and one below both:
--     class Job extends Base implements Runnable { int a; void m() { } public void run() { } }
--     class Base { int b; void m() { } }
--     class Late extends Job { final int c; Late(int c) { .. } void m() { } }
--     class Main { void main() { } }
abbrev pub jobs : ProgramTree
jobs =
    record (class_below (name (codes "Job") 1) (name (codes "Base") 2) (field false Y.Int (name (codes "a") 3) ∷ bare_method (name (codes "m") 4) ∷ bare_method (name (codes "run") 5) ∷ [])) { runnable = true }
    ∷ class_tree (name (codes "Base") 11) (field false Y.Int (name (codes "b") 12) ∷ bare_method (name (codes "m") 13) ∷ [])
    ∷ class_below (name (codes "Late") 21) (name (codes "Job") 22)
    (field true Y.Int (name (codes "c") 23) ∷ CtorM (name (codes "Late") 24) (param false Y.Int (name (codes "c") 25) ∷ []) ((name (codes "c") 26, name (codes "c") 27) ∷ []) ∷ bare_method (name (codes "m") 28) ∷ [])
    ∷ main_class_tree ∷ []

-- the class table of this program
abbrev pub jobs_table : TableData
jobs_table = table_of jobs

-- `new Thread(new W(c)).start();`
abbrev pub start_worker_tree : StmtTree
start_worker_tree = StartS (NewE (name (codes "W") 7) (one_expr (variable_at (codes "c") 8)) 6) 5

-- the counter program, with the offsets of its methods' names
abbrev pub counter_tree : ProgramTree
counter_tree =
    class_tree (name (codes "Cell") 6)
    (FieldM (record (field_tree false Y.Int (name (codes "v") 17)) { guard = Some this_lock })
    ∷ MethodM (record (method_tree (name (codes "inc") 48) [] None (one_stmt (SyncS this_lock (one_stmt
    (SetFieldS (ThisE 5) (name (codes "v") 6) (BinaryE O.Add (GetE (ThisE 5) (name (codes "v") 6)) (NumberE 1 7) 6) 5)) 4))) { atomic = true }) ∷ [])
    ∷ record (class_tree (name (codes "W") 110)
    (field true (class_type_name (codes "Cell") 120) (name (codes "c") 121)
    ∷ CtorM (name (codes "W") 130) (param false (class_type_name (codes "Cell") 131) (name (codes "c") 132) ∷ []) ((name (codes "c") 133, name (codes "c") 134) ∷ [])
    ∷ method (name (codes "run") 187) [] None (one_stmt (DoS (CallE (GetE (ThisE 5) (name (codes "c") 6)) (name (codes "inc") 7) no_exprs) 5)) ∷ [])) { runnable = true }
    ∷ class_tree (name (codes "Main") 220)
    (method (name (codes "main") 231) [] None
    (more_stmts (LocalS true (class_type_name (codes "Cell") 3) (name (codes "c") 4) (NewE (name (codes "Cell") 6) no_exprs 5) 2) (more_stmts start_worker_tree (one_stmt start_worker_tree))) ∷ []) ∷ []

-- A guard that is no lock, a method that prints a truth and returns nothing, and another one that prints a truth:
--     class A { int a guarded_by this.a; int m(boolean b) { System.out.println(b); } }
--     class Main { void main(boolean b) { System.out.println(b); } }
abbrev pub two_faults : ProgramTree
two_faults =
    class_tree (name (codes "A") 1)
    (FieldM (record (field_tree false Y.Int (name (codes "a") 2)) { guard = Some (lock_tree None (name (codes "a") 5 ∷ []) 4) })
    ∷ method (name (codes "m") 6) (param false Y.Boolean (name (codes "b") 7) ∷ []) (Some Y.Int) (one_stmt (PrintS (var_b 12) 11)) ∷ [])
    ∷ class_tree (name (codes "Main") 15) (method (name (codes "main") 16) (param false Y.Boolean (name (codes "b") 17) ∷ []) None (one_stmt (PrintS (var_b 22) 21)) ∷ []) ∷ []

-- `atomic void m(final int n) requires this.twin, this, this.twin { int y = 7; }`, which only Rare can have
abbrev pub locking : MethodTree
locking = record (method_tree (name (codes "m") 3) (n_param ∷ []) None (one_stmt local_y)) {
  atomic = true;
  locks = lock_tree None (name (codes "twin") 5 ∷ []) 4 ∷ this_lock ∷ lock_tree None (name (codes "twin") 6 ∷ []) 4 ∷ [];
}
