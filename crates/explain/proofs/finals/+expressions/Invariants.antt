use Rattle.std.proofs.Common.{◌+◌}
use Rattle.core_program.specs.Views.{expr_of, exprs_from}
use Rattle.explain.proofs.FinalParts.{AreMadeSoFar}
use Rattle.explain.proofs.Measures.{expr_measure, exprs_measure}
use Rattle.explain.proofs.finals.+expressions.Given as goal

abbrev pub decreases-final_expr : goal.decreases-final_expr
decreases-final_expr l = expr_measure (expr_of l.e.now)

abbrev pub decreases-boxed_expr : goal.decreases-boxed_expr
decreases-boxed_expr l = 1 + expr_measure (expr_of l.e.now)

abbrev pub decreases-boxed_pair : goal.decreases-boxed_pair
decreases-boxed_pair l = 2 + (expr_measure (expr_of l.a.now) + expr_measure (expr_of l.b.now))

abbrev pub decreases-call_parts : goal.decreases-call_parts
decreases-call_parts l = 2 + (expr_measure (expr_of l.receiver.now) + exprs_measure (exprs_from l.args.now))

abbrev pub decreases-final_exprs : goal.decreases-final_exprs
decreases-final_exprs l = exprs_measure (exprs_from l.es.now)

-- the arguments so far, with what is made of the rest, are what is made of all
abbrev pub invariant-final_exprs-loop-e : goal.invariant-final_exprs-loop-e
invariant-final_exprs-loop-e l = AreMadeSoFar l.slot l.es l.e-index l.made.items
