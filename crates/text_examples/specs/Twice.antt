-- A program that is refused, one that is accepted, and lines of certificates.
--     class Cell { int v guarded_by this; atomic void inc() { synchronized (this) { this.v = this.v + 1; } } atomic void twice() { this.inc(); this.inc(); } }
--     class Main { void main() { } }
use Rattle.std.specs.Prelude.{ℕ, zero, suc, true, false, List, [], ◌∷◌, Some, None, if◌then◌else◌}
use Rattle.paths.specs.Paths.{PathData}
use Rattle.algebra.specs.declared.basic.Basic.{Basic}
use Rattle.algebra.specs.declared.basic.Basic.TheVariants.{Mover, Atomic, Cmpd, Error}
use Rattle.core_program.specs.Core.{Program, Stmt, EmptyS, BlockS, DoS, ThisE, CallE, no_exprs, no_stmts, and_stmt}
use Rattle.core_program.specs.Examples.{this_path, plain_class, plain_method, inc_body, counter}
use Rattle.rules.specs.Effect.{Assignment}
use Rattle.refutation.specs.Lines.{LineData}
use Rattle.refutation.specs.Passes.{MethodAtSet}
use Rattle.core_examples.specs.Family.{class_with, family}
use Rattle.core_examples.specs.Fields.{path}

-- `this.inc();`
abbrev pub inc_call : Stmt
inc_call = DoS (CallE ThisE 0 no_exprs) false

-- this program, which is refused: `twice` is annotated and calls `inc` two times without holding the lock
abbrev pub twice_program : Program
twice_program = record counter {
  classes = record (plain_class (0 ∷ []) [] None 0) { targets = (0, 0) ∷ (1, 1) ∷ [] } ∷ plain_class [] [] None 2 ∷ [];
  methods = plain_method 0 48 true inc_body ∷ plain_method 0 126 true (BlockS (and_stmt inc_call (and_stmt inc_call no_stmts))) ∷ plain_method 1 190 false EmptyS ∷ [];
  main_class = 1;
}

-- the lock of `this` is relevant to `inc` and to `twice`
abbrev pub of_twice : ℕ → List PathData
of_twice zero = this_path ∷ []
of_twice (suc zero) = this_path ∷ []
of_twice (suc (suc m)) = []

-- in the counter program `this` is relevant to `inc`, and `this.c` to a worker's `run`
abbrev pub of_counter : ℕ → List PathData
of_counter zero = this_path ∷ []
of_counter (suc zero) = path 0 (1 ∷ []) ∷ []
of_counter (suc (suc m)) = []

-- a line of a certificate, and a method at a set of held paths
abbrev pub certificate_line : (method : ℕ) → Basic → (held : List PathData) → LineData
certificate_line method found held = record { method = method; found = found; held = held }

-- a method at a set of held paths
abbrev pub cell : (method : ℕ) → (held : List PathData) → MethodAtSet
cell method held = record { method = method; held = held }

-- that `inc` is atomic, that it is a mover under its lock, and that `twice` is compound
abbrev pub inc_atomic : LineData
inc_atomic = certificate_line 0 Atomic []

-- the line that says that `inc` is at least a mover where the lock of `this` is held
abbrev pub inc_mover : LineData
inc_mover = certificate_line 0 Mover (this_path ∷ [])

-- the line that says that `twice` is at least compound where nothing is held
abbrev pub twice_compound : LineData
twice_compound = certificate_line 1 Cmpd []

-- `class B extends A { void m() { } }` before `class A { void m() { } }`
abbrev pub low_first : Program
low_first = record family {
  classes = class_with [] (Some 1) ((0, 0) ∷ (1, 0) ∷ []) ∷ class_with [] None ((1, 1) ∷ []) ∷ [];
  fields = [];
  methods = plain_method 0 20 false EmptyS ∷ plain_method 1 51 false EmptyS ∷ [];
}

-- a mover where the lock of `this` is held, else an error; each method but the method 2 is atomic
abbrev pub two_is_guarded : Assignment
two_is_guarded zero H = Atomic
two_is_guarded (suc zero) H = Atomic
two_is_guarded (suc (suc zero)) H = if H this_path then Mover else Error
two_is_guarded (suc (suc (suc m))) H = Atomic
