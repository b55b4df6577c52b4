use Rattle.core_program.specs.Views.{expr_of, exprs_from}
use Rattle.rules.proofs.Weights.{weight_of, weights_of}
use Rattle.rules.proofs.callers.+expression_callees.Given as goal

abbrev pub decreases-put_expr : goal.decreases-put_expr
decreases-put_expr l = weight_of (expr_of l.e.now)

abbrev pub decreases-put_exprs : goal.decreases-put_exprs
decreases-put_exprs l = weights_of (exprs_from l.es.now)
