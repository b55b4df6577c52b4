use Rattle.core_program.specs.Views.{expr_of, exprs_from}
use Rattle.compile.proofs.Measures.{expr_measure, exprs_measure}
use Rattle.compile.proofs.rooms.+rooms.Given as goal

abbrev pub decreases-expr_room : goal.decreases-expr_room
decreases-expr_room l = expr_measure (expr_of l.e.now)

abbrev pub decreases-exprs_room : goal.decreases-exprs_room
decreases-exprs_room l = exprs_measure (exprs_from l.args.now)
