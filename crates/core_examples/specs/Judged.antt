-- Programs whose relevant sets are told, and programs that are judged.
use Rattle.std.specs.Prelude.{ℕ, pos, Bool, true, false, List, [], ◌∷◌, ◌++◌, Some, None}
use Rattle.paths.specs.Paths.{PathData}
use Rattle.core_program.specs.Core.{Program, Method, Expr, IntE, ThisE, VarE, GetE, CallE, NewE, no_exprs, and_expr}
use Rattle.core_program.specs.Core.{Stmt, EmptyS, BlockS, LocalS, SetFieldS, DoS, SyncS, PrintS, no_stmts, and_stmt}
use Rattle.core_program.specs.Examples.{this_path, plain_class, plain_method, block_of, put_seven, guarded_main}
use Rattle.rules.specs.Near.{MethodPaths}
use Rattle.core_examples.specs.Fields.{path, node_type, node_fields, of_this}
use Rattle.core_examples.specs.Family.{free_field}

-- a final local or parameter of the slot 1
abbrev pub final_slot : Expr
final_slot = VarE 1 true node_type

-- a call without arguments, as a statement
abbrev pub call_stmt : Expr → ℕ → Stmt
call_stmt e m = DoS (CallE e m no_exprs) false

-- a method without a parameter, and one with a final parameter
abbrev pub of_node : Stmt → Method
of_node body = plain_method 0 0 false body

-- a method of the class `Node` with one final parameter of that class, and this body
abbrev pub of_one : Stmt → Method
of_one body = record (of_node body) { params = (true, node_type) ∷ []; slots = 2 }

-- `this.v = 1;`
abbrev pub put_one : Stmt
put_one = SetFieldS ThisE 4 (IntE (pos 1))

-- Over the class with fields of every kind, and one below it with a lock of its own:
--     class Node { ..
--       void need(final Node p) requires p { }
--       void take() { synchronized (this.left) { } }
--       void put() { this.v = 1; }
--       void get() { System.out.println(this.x); }
--       void pass(final Node q) { this.right.take(); this.need(q); this.next.put(); }
--       void second() { final Node y = this.left; y.v = 1; }
--       void meet() { }
--       void deep() { this.left.right.take(); this.second(); }
--       void walk() { synchronized (this) { } this.left.walk(); } }
--     class Low extends Node { final Node own; void meet() { synchronized (this.left) { } synchronized (this.own) { } } }
abbrev pub meetings : Program
meetings = record {
  classes =
      record { fields = 0 ∷ 1 ∷ 2 ∷ 3 ∷ 4 ∷ 5 ∷ 6 ∷ 7 ∷ []; finals = 0 ∷ 2 ∷ 3 ∷ []; run = None; above = None; targets = (0, 0) ∷ (1, 1) ∷ (2, 2) ∷ (3, 3) ∷ (4, 4) ∷ (5, 5) ∷ (6, 6) ∷ (7, 7) ∷ (8, 8) ∷ [] }
      ∷ record { fields = 0 ∷ 1 ∷ 2 ∷ 3 ∷ 4 ∷ 5 ∷ 6 ∷ 7 ∷ 8 ∷ []; finals = 0 ∷ 2 ∷ 3 ∷ 8 ∷ []; run = None; above = Some 0; targets = (0, 0) ∷ (1, 1) ∷ (2, 2) ∷ (3, 3) ∷ (4, 4) ∷ (5, 5) ∷ (6, 9) ∷ (7, 7) ∷ (8, 8) ∷ (9, 9) ∷ [] } ∷ [];
  fields = node_fields ++ record { class = 1; index = 8; is_final = true; ty = node_type; guard = None; writes_only = false } ∷ [];
  methods =
      record (of_one EmptyS) { requires_ = path 1 [] ∷ [] }
      ∷ of_node (SyncS (path 0 (0 ∷ [])) EmptyS)
      ∷ of_node put_one
      ∷ of_node (PrintS (of_this 6))
      ∷ of_one (BlockS (and_stmt (call_stmt (of_this 3) 1) (and_stmt (DoS (CallE ThisE 0 (and_expr final_slot no_exprs)) false) (and_stmt (call_stmt (of_this 1) 2) no_stmts))))
      ∷ record (of_node (BlockS (and_stmt (LocalS 1 true node_type (of_this 0)) (and_stmt (SetFieldS final_slot 4 (IntE (pos 1))) no_stmts)))) { slots = 2 }
      ∷ of_node EmptyS
      ∷ of_node (BlockS (and_stmt (call_stmt (GetE (of_this 0) 3) 1) (and_stmt (call_stmt ThisE 5) no_stmts)))
      ∷ of_node (BlockS (and_stmt (SyncS (path 0 []) EmptyS) (and_stmt (call_stmt (of_this 0) 8) no_stmts)))
      ∷ record (of_node (BlockS (and_stmt (SyncS (path 0 (0 ∷ [])) EmptyS) (and_stmt (SyncS (path 0 (8 ∷ [])) EmptyS) no_stmts)))) { class = 1 } ∷ [];
  main_class = 0;
  main = 6;
}

-- the sets of its methods, in order
abbrev pub just : List PathData → MethodPaths
just rel = record { rel = rel; loc = [] }

-- the relevant paths of each method of `meetings`, in order; `second` has a path of its own local besides
abbrev pub meeting_sets : List MethodPaths
meeting_sets =
    just (path 1 [] ∷ [])
    ∷ just (path 0 (0 ∷ []) ∷ [])
    ∷ just (path 0 [] ∷ [])
    ∷ just (path 0 (0 ∷ []) ∷ [])
    ∷ just (path 0 (3 ∷ 0 ∷ []) ∷ path 1 [] ∷ [])
    ∷ record { rel = path 0 (0 ∷ []) ∷ []; loc = path 1 [] ∷ [] }
    ∷ just (path 0 (0 ∷ []) ∷ [])
    ∷ just (path 0 (0 ∷ []) ∷ [])
    ∷ just (path 0 [] ∷ path 0 (0 ∷ []) ∷ path 0 (0 ∷ 0 ∷ []) ∷ [])
    ∷ just (path 0 (0 ∷ []) ∷ path 0 (8 ∷ []) ∷ []) ∷ []

-- `class Main { int low; int high; [atomic] void main() { this.low = 1; this.high = 2; } }`
abbrev pub two_writes : (annotated : Bool) → Program
two_writes annotated = record {
  classes = plain_class (0 ∷ 1 ∷ []) [] None 0 ∷ [];
  fields = free_field 0 0 ∷ free_field 0 1 ∷ [];
  methods = plain_method 0 0 annotated (BlockS (and_stmt (SetFieldS ThisE 0 (IntE (pos 1))) (and_stmt (SetFieldS ThisE 1 (IntE (pos 2))) no_stmts))) ∷ [];
  main_class = 0;
  main = 0;
}

-- `class Main { int v guarded_by this; void main() { this.v = 7; } }`
abbrev pub no_lock : Program
no_lock = guarded_main false 0 false (block_of put_seven)

-- `class Main { int v guarded_by this; void put() requires this { this.v = 7; } void main() { .. } }`
abbrev pub requiring_program : Stmt → Program
requiring_program body = record {
  classes = record (plain_class (0 ∷ []) [] None 0) { targets = (0, 0) ∷ (1, 1) ∷ [] } ∷ [];
  fields = record (free_field 0 0) { guard = Some this_path } ∷ [];
  methods = record (plain_method 0 0 false (block_of put_seven)) { requires_ = this_path ∷ [] } ∷ plain_method 0 0 false (block_of body) ∷ [];
  main_class = 0;
  main = 1;
}

-- `this.put();`
abbrev pub call_put : Stmt
call_put = call_stmt ThisE 0

-- `class A { void m() { } } class B extends A { int f; void m() { .. } }`
-- `class Main { atomic void main() { final A a = new A(); a.m(); a.m(); } }`
abbrev pub overridden : Stmt → Program
overridden body = record {
  classes = plain_class [] [] None 0
      ∷ record (plain_class (0 ∷ []) [] None 1) { above = Some 0; targets = (0, 1) ∷ (1, 1) ∷ [] }
      ∷ plain_class [] [] None 2 ∷ [];
  fields = free_field 1 0 ∷ [];
  methods = plain_method 0 0 false EmptyS ∷ plain_method 1 0 false body
      ∷ record (plain_method 2 0 true (BlockS (and_stmt (LocalS 1 true node_type (NewE 0 no_exprs)) (and_stmt (call_stmt final_slot 0) (and_stmt (call_stmt final_slot 0) no_stmts))))) { slots = 2 } ∷ [];
  main_class = 2;
  main = 2;
}

-- `this.f = 1;`
abbrev pub put_free : Stmt
put_free = SetFieldS ThisE 0 (IntE (pos 1))
