-- An example assignment: that of the counter program of `core_program`.
use Rattle.std.specs.Prelude.{zero, suc, false, List, [], ◌∷◌, if◌then◌else◌}
use Rattle.paths.specs.Paths.{PathData}
use Rattle.algebra.specs.declared.basic.Basic.TheVariants.{Mover, Atomic, Cmpd}
use Rattle.core_program.specs.Core.{Stmt, BlockS, DoS, CallE, ThisE, no_exprs, and_stmt, no_stmts}
use Rattle.core_program.specs.Examples.{this_path, synchronized_this}
use Rattle.rules.specs.Near.{MethodPaths}
use Rattle.rules.specs.Effect.{Assignment}

-- the path `this.c` of a worker
abbrev pub cell_path : PathData
cell_path = record { root = 0; fields = 1 ∷ [] }

-- the relevant paths of `Cell.inc`, `W.run` and `Main.main`
abbrev pub counter_paths : List MethodPaths
counter_paths = record { rel = this_path ∷ []; loc = [] } ∷ record { rel = cell_path ∷ []; loc = [] } ∷ record { rel = []; loc = [] } ∷ []

-- a call of `inc` and a run of a worker are movers where the cell's lock is held, else atomic; `main` is cmpd
abbrev pub counter_levels : Assignment
counter_levels zero H = if H this_path then Mover else Atomic
counter_levels (suc zero) H = if H cell_path then Mover else Atomic
counter_levels (suc (suc m)) H = Cmpd

-- `this.inc();` of the class `Cell`
abbrev pub call_inc : Stmt
call_inc = DoS (CallE ThisE 0 no_exprs) false

-- `this.inc(); this.inc();`
abbrev pub twice : Stmt
twice = BlockS (and_stmt call_inc (and_stmt call_inc no_stmts))

-- `synchronized (this) { { this.inc(); this.inc(); } }`
abbrev pub twice_synchronized : Stmt
twice_synchronized = synchronized_this twice
