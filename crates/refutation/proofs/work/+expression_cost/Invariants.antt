use Rattle.core_program.specs.Views.{expr_of, exprs_from}
use Rattle.rules.proofs.Weights.{weight_of, weights_of}
use Rattle.refutation.proofs.work.+expression_cost.Given as goal

abbrev pub decreases-expression_cost : goal.decreases-expression_cost
decreases-expression_cost l = weight_of (expr_of l.e.now)

abbrev pub decreases-arguments_cost : goal.decreases-arguments_cost
decreases-arguments_cost l = weights_of (exprs_from l.es.now)
