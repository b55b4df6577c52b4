use Rattle.std.specs.Prelude.{◌+◌}
use Rattle.core_program.specs.Views.{expr_of, exprs_from}
use Rattle.compile.proofs.Measures.{expr_measure, exprs_measure}
use Rattle.compile.proofs.emit.+exprs.Given as goal

abbrev pub decreases-emit_expr : goal.decreases-emit_expr
decreases-emit_expr l = expr_measure (expr_of l.e.now)

abbrev pub decreases-emit_unary : goal.decreases-emit_unary
decreases-emit_unary l = 1 + expr_measure (expr_of l.operand.now)

abbrev pub decreases-emit_args : goal.decreases-emit_args
decreases-emit_args l = exprs_measure (exprs_from l.args.now)
