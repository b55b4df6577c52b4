-- Methods that reach a guarded field by a variable or a field that isn't final.
use Rattle.std.specs.Prelude.{ℕ, true, false, [], ◌∷◌, None}
use Rattle.algebra.specs.declared.basic.Basic.TheVariants.{Atomic, Cmpd, Error}
use Rattle.core_program.specs.declared.types.CoreType.TheVariants.{Int}
use Rattle.core_program.specs.Core.{Program, Expr, Stmt, Stmts, GetE, ThisE, BlockS, LocalS, SetVarS, SetFieldS, no_stmts, and_stmt}
use Rattle.core_program.specs.Examples.{block_of, plain_method, synchronized_this}
use Rattle.core_examples.specs.Bodies.{nothing_held, this_held}
use Rattle.core_examples.specs.Small.{one}
use Rattle.effects.specs.Parts.{ExprP, StmtP}
use Rattle.explain.specs.Whys.{ExplainedData, Two, WhyData, Wrong}
use Rattle.explain_examples.specs.Shelf.{shelf, shelf_type, at, made, plain, put_in}

-- `x.g = 1;`
abbrev pub put_by_variable : Stmt
put_by_variable = SetFieldS plain 1 one

-- `synchronized (this) { A x = VALUE; .. }`
abbrev pub locked_with : Expr → Stmts → Stmt
locked_with value more = block_of (synchronized_this (BlockS (and_stmt (LocalS 1 false shelf_type value) more)))

-- `synchronized (this) { A x = VALUE; x.g = 1; }`
abbrev pub put_through : Expr → Stmt
put_through value = locked_with value (and_stmt put_by_variable no_stmts)

-- `synchronized (this) { A x = this; x = this; x.g = 1; }`
abbrev pub put_again : Stmt
put_again = locked_with ThisE (and_stmt (SetVarS 1 ThisE) (and_stmt put_by_variable no_stmts))

-- three methods with these bodies: one where it helps to make `x` final, one where its lock isn't held then, one that assigns to it again
abbrev pub reaching : Program
reaching = record shelf { methods = plain_method 0 100 false (put_through ThisE) ∷ plain_method 0 101 false (put_through made) ∷ plain_method 0 102 false put_again ∷ [] }

-- the access, which is an error
abbrev pub bare_put : WhyData
bare_put = Wrong (at 6 (StmtP put_by_variable) this_held None)

abbrev pub told_of_put : ℕ → ExplainedData
told_of_put m = record { method = m; is_refused = true; limit = Cmpd; found = Error; why = bare_put }

-- `int k = this.m.w;`
abbrev pub peek : Stmt
peek = LocalS 1 false Int (GetE (GetE ThisE 4) 2)

-- a program with that method alone; one with a method that assigns to `m` too; one where `Main` has `m`
abbrev pub peeking : Program
peeking = record shelf { methods = plain_method 0 100 true peek ∷ [] }

abbrev pub peeking_and_setting : Program
peeking_and_setting = record shelf { methods = plain_method 0 100 true peek ∷ plain_method 0 101 false (put_in 4) ∷ [] }

abbrev pub main_peeking : Program
main_peeking = record peeking { classes = record { fields = 3 ∷ 4 ∷ []; finals = 3 ∷ []; run = None; above = None; targets = [] } ∷ []; main_class = 0 }

-- it reads `this.m`, which nothing guards, and then `w` of that, whose guard has no name
abbrev pub told_of_peek : ExplainedData
told_of_peek = record { method = 0; is_refused = true; limit = Atomic; found = Cmpd; why = Two (at 2 (ExprP (GetE ThisE 4)) nothing_held None) (at 1 (ExprP (GetE (GetE ThisE 4) 2)) nothing_held None) }
