use Rattle.std.proofs.Common.{◌+◌, drop}
use Rattle.algebra.specs.declared.basic.Basic.{Basic}
use Rattle.algebra.specs.Basics.{seq_of}
use Rattle.algebra.specs.HeldPaths.{has_path}
use Rattle.core_program.specs.Views.{expr_of, exprs_from, program_of}
use Rattle.rules.specs.Near.{rel_of}
use Rattle.explain.specs.declared.found.Found.{Found}
use Rattle.explain.specs.Walked.{WalkedExprs}
use Rattle.explain.proofs.Measures.{expr_measure, exprs_measure}
use Rattle.explain.proofs.walk.+expressions.Given as goal

abbrev pub decreases-walk_expr : goal.decreases-walk_expr
decreases-walk_expr g l = 1 + expr_measure (expr_of l.e.now)

abbrev pub decreases-inside_expr : goal.decreases-inside_expr
decreases-inside_expr g l = expr_measure (expr_of l.e.now)

abbrev pub decreases-walk_pair : goal.decreases-walk_pair
decreases-walk_pair g l = 2 + (expr_measure (expr_of l.a.now) + expr_measure (expr_of l.b.now))

abbrev pub decreases-walk_exprs : goal.decreases-walk_exprs
decreases-walk_exprs g l = exprs_measure (exprs_from l.es.now)

-- the basic so far and any walk through the rest make a walk through all
abbrev pub invariant-walk_exprs-loop-e : goal.invariant-walk_exprs-loop-e
invariant-walk_exprs-loop-e g l =
    let P = program_of l.walk.program.now in let rel = rel_of l.walk.sets.now in let A = g.A.Assigned.assigned l.walk.assigned.now in
    (b : Basic) (new : Found) → WalkedExprs P rel A (exprs_from (drop l.e-index l.es)) (has_path l.held) l.looped l.found b new
    → WalkedExprs P rel A (exprs_from l.es) (has_path l.held) l.looped l.fn.found (seq_of l.so_far b) new
