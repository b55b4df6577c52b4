-- A program with a method for each reason that an explanation can have.
--     class A {
--         int a; int g guarded_by this; int w write_guarded_by this; final A n; A m;
--         void take() { synchronized (this) { this.g = 1; } }
--         void touch() { synchronized (this) { this.g = 1; } }
--         void twice() { this.a = 1; this.a = 2; }
--         atomic void two() { this.a = 1; this.a = 2; }
--         atomic void loops() { while (true) { this.a = 1; } }
--         atomic void calls() { this.twice(); }
--         void bare() { this.g = 1; }
--         void own_first() { this.bare(); this.g = 1; }
--         void cascade() { this.bare(); }
--         void needs() requires this { this.g = 1; }
--         void lacks() { this.needs(); }
--         atomic void again() { this.a = 1; this.again(); }
--         atomic void over() { }
--         atomic void both() { this.take(); this.take(); }
--         atomic void branches(boolean b) { if (b) { this.a = 1; } else { this.take(); this.take(); } }
--         atomic void calls_again() { this.twice(); }
--     }
--     class B extends A { void touch() { System.out.println(1); } atomic void over() { this.a = 1; this.a = 2; } }
--     class Main { void main() { } }
use Rattle.std.specs.Prelude.{ℕ, pos, Bool, true, false, List, [], ◌∷◌, Option, Some, None, slice_get}
use Rattle.paths.specs.Paths.{PathData}
use Rattle.algebra.specs.declared.basic.Basic.{Basic}
use Rattle.algebra.specs.declared.basic.Basic.TheVariants.{Const, Mover, Atomic, Cmpd, Error}
use Rattle.algebra.specs.HeldPaths.{Held, has_path}
use Rattle.core_program.specs.declared.types.CoreType.{CoreType}
use Rattle.core_program.specs.declared.types.CoreType.TheVariants as type
use Rattle.core_program.specs.Core.{Program, Class, Field, Method, Expr, IntE, TruthE, ThisE, VarE, CallE, NewE, no_exprs}
use Rattle.core_program.specs.Core.{Stmt, BlockS, SetFieldS, DoS, IfS, WhileS, PrintS, no_stmts, and_stmt}
use Rattle.effects.specs.Parts.{Part, ExprP, StmtP}
use Rattle.core_program.specs.Examples.{this_path, block_of, plain_method, synchronized_this}
use Rattle.rules.specs.Effect.{Assignment}
use Rattle.core_examples.specs.Bodies.{nothing_held}
use Rattle.core_examples.specs.Fields.{path}
use Rattle.explain.specs.Visits.{Visit}
use Rattle.explain.specs.declared.names.Alias.{Alias}

-- the class A, as a type
abbrev pub shelf_type : CoreType
shelf_type = type.Class 0

-- `this.F = 1;`
abbrev pub put_in : ℕ → Stmt
put_in f = SetFieldS ThisE f (IntE (pos 1))

-- `this.M();`
abbrev pub run_method : ℕ → Stmt
run_method m = DoS (CallE ThisE m no_exprs) false

-- `{ S T }`
abbrev pub both_of : Stmt → Stmt → Stmt
both_of s t = BlockS (and_stmt s (and_stmt t no_stmts))

-- `{ this.a = 1; this.a = 1; }`
abbrev pub puts : Stmt
puts = both_of (put_in 0) (put_in 0)

abbrev pub shelf_field : (is_final : Bool) → CoreType → (guard : Option PathData) → (writes_only : Bool) → ℕ → Field
shelf_field is_final ty guard writes_only n = record { class = 0; index = n; is_final = is_final; ty = ty; guard = guard; writes_only = writes_only }

abbrev pub fields : List Field
fields =
    shelf_field false type.Int None false 0 ∷ shelf_field false type.Int (Some this_path) false 1 ∷ shelf_field false type.Int (Some this_path) true 2
    ∷ shelf_field true shelf_type None false 3 ∷ shelf_field false shelf_type None false 4 ∷ []

-- the methods of A, of B and of Main
abbrev pub methods : List Method
methods =
    plain_method 0 100 false (block_of (synchronized_this (put_in 1)))
    ∷ plain_method 0 101 false (block_of (synchronized_this (put_in 1)))
    ∷ plain_method 0 102 false puts
    ∷ plain_method 0 103 true puts
    ∷ plain_method 0 104 true (block_of (WhileS (TruthE true) (block_of (put_in 0))))
    ∷ plain_method 0 105 true (block_of (run_method 2))
    ∷ plain_method 0 106 false (block_of (put_in 1))
    ∷ plain_method 0 107 false (both_of (run_method 6) (put_in 1))
    ∷ plain_method 0 108 false (block_of (run_method 6))
    ∷ record (plain_method 0 109 false (block_of (put_in 1))) { requires_ = this_path ∷ [] }
    ∷ plain_method 0 110 false (block_of (run_method 9))
    ∷ plain_method 0 111 true (both_of (put_in 0) (run_method 11))
    ∷ plain_method 0 112 true (BlockS no_stmts)
    ∷ plain_method 0 113 true (both_of (run_method 0) (run_method 0))
    ∷ record (plain_method 0 114 true (block_of (IfS (VarE 1 false type.Boolean) (block_of (put_in 0)) (both_of (run_method 0) (run_method 0))))) { params = (false, type.Boolean) ∷ []; slots = 2 }
    ∷ plain_method 0 115 true (block_of (run_method 2))
    ∷ plain_method 1 116 false (block_of (PrintS (IntE (pos 1))))
    ∷ plain_method 1 117 true puts
    ∷ plain_method 2 118 false (BlockS no_stmts)
    ∷ []

-- the program; the pairs of its classes don't matter here, since who overrides whom is said apart
abbrev pub shelf : Program
shelf = record { classes = []; fields = fields; methods = methods; main_class = 2; main = 18 }

-- `B.touch` overrides `A.touch`, `B.over` overrides `A.over`
abbrev pub overs : List (List ℕ)
overs = [] ∷ (16 ∷ []) ∷ [] ∷ [] ∷ [] ∷ [] ∷ [] ∷ [] ∷ [] ∷ [] ∷ [] ∷ [] ∷ (17 ∷ []) ∷ []

-- the lock of the object itself is relevant to each method
abbrev pub shelf_paths : ℕ → List PathData
shelf_paths m = this_path ∷ []

-- what is assigned to each method where that lock is held, and where it isn't
abbrev pub levels : List (Basic × Basic)
levels =
    (Mover, Atomic) ∷ (Atomic, Atomic) ∷ (Cmpd, Cmpd) ∷ (Cmpd, Cmpd) ∷ (Cmpd, Cmpd) ∷ (Cmpd, Cmpd) ∷ (Mover, Error) ∷ (Mover, Error) ∷ (Mover, Error)
    ∷ (Mover, Mover) ∷ (Mover, Error) ∷ (Cmpd, Cmpd) ∷ (Cmpd, Cmpd) ∷ (Mover, Cmpd) ∷ (Atomic, Cmpd) ∷ (Cmpd, Cmpd) ∷ (Atomic, Atomic) ∷ (Cmpd, Cmpd) ∷ (Const, Const) ∷ []

abbrev pub level_of : (held : Bool) → Option (Basic × Basic) → Basic
level_of held None = Error
level_of true (Some b) = b.0
level_of false (Some b) = b.1

abbrev pub shelf_levels : Assignment
shelf_levels m H = level_of (H this_path) (slice_get levels m)

-- ---- parts, each by itself

-- a variable that isn't final, and one that is
abbrev pub plain : Expr
plain = VarE 1 false shelf_type

abbrev pub fixed : Expr
fixed = VarE 2 true shelf_type

-- `new A()`
abbrev pub made : Expr
made = NewE 0 no_exprs

-- the lock of the variable in slot 2 is held
abbrev pub fixed_held : Held
fixed_held = has_path (path 2 [] ∷ [])

-- the final local in slot 2 means `this`, the one in slot 3 means `this.n`
abbrev pub locals : List Alias
locals = record { slot = 2; path = this_path } ∷ record { slot = 3; path = path 0 (3 ∷ []) } ∷ []

-- a part at a set, with its number and its loop
abbrev pub at : ℕ → Part → Held → Option ℕ → Visit
at n part H loop = record { node = n; part = part; held = H; loop = loop }

-- a visit of `this.a = 1;` and of a call of a method, where nothing is held
abbrev pub write_visit : ℕ → Option ℕ → Visit
write_visit n loop = at n (StmtP (put_in 0)) nothing_held loop

abbrev pub call_visit : ℕ → ℕ → Visit
call_visit n m = at n (ExprP (CallE ThisE m no_exprs)) nothing_held None

-- two methods that call each other, both compound
abbrev pub callers : Program
callers = record shelf { methods = plain_method 0 100 false (block_of (run_method 1)) ∷ plain_method 0 101 false (block_of (run_method 0)) ∷ [] }

-- `void f() { this.main(); } void main() { this.a = 1; this.a = 1; }`, both compound
abbrev pub calling_main : Program
calling_main = record shelf { methods = plain_method 0 100 false (block_of (run_method 1)) ∷ plain_method 0 101 false puts ∷ []; main = 1 }

-- `void f() { this.main(); } void main() { this.run(); } public void run() { this.a = 1; this.a = 1; }`, all compound; `run` runs for `run`
abbrev pub calling_entries : Program
calling_entries = record shelf {
  classes = record { fields = []; finals = []; run = Some 2; above = None; targets = [] } ∷ [];
  methods = plain_method 0 100 false (block_of (run_method 1)) ∷ plain_method 0 101 false (block_of (run_method 2)) ∷ plain_method 0 102 false puts ∷ [];
  main = 1;
}

abbrev pub all_compound : Assignment
all_compound m H = Cmpd
