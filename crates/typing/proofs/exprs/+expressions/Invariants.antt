use Rattle.std.proofs.Common.{◌≡◌, ◌+◌, drop, map}
use Rattle.classes.specs.Views.{table_data}
use Rattle.syntax.specs.Views.{expr_tree, exprs_from}
use Rattle.typing.specs.Exprs.{elaborated_each, each_faults}
use Rattle.typing.specs.Gathered.{gathered}
use Rattle.typing.specs.Noted.{type_noted}
use Rattle.typing.specs.Rules.{with_argument}
use Rattle.typing.specs.Views.{typed_data}
use Rattle.typing.proofs.Gathering.{so_far}
use Rattle.typing.proofs.Measures.{expr_measure, exprs_measure}
use Rattle.typing.proofs.exprs.+expressions.Given as goal

abbrev pub decreases-expr : goal.decreases-expr
decreases-expr l = expr_measure (expr_tree l.e.now)

abbrev pub decreases-boxed_expr : goal.decreases-boxed_expr
decreases-boxed_expr l = 1 + expr_measure (expr_tree l.e.now)

abbrev pub decreases-not_expr : goal.decreases-not_expr
decreases-not_expr l = 2 + expr_measure (expr_tree l.part.now)

abbrev pub decreases-neg_expr : goal.decreases-neg_expr
decreases-neg_expr l = 2 + expr_measure (expr_tree l.part.now)

abbrev pub decreases-binary_expr : goal.decreases-binary_expr
decreases-binary_expr l = 2 + (expr_measure (expr_tree l.left.now) + expr_measure (expr_tree l.right.now))

abbrev pub decreases-get_expr : goal.decreases-get_expr
decreases-get_expr l = 2 + expr_measure (expr_tree l.receiver.now)

abbrev pub decreases-call_expr : goal.decreases-call_expr
decreases-call_expr l = 2 + (expr_measure (expr_tree l.receiver.now) + exprs_measure (exprs_from (map expr_tree l.args.now)))

abbrev pub decreases-new_expr : goal.decreases-new_expr
decreases-new_expr l = 2 + exprs_measure (exprs_from (map expr_tree l.args.now))

abbrev pub decreases-arguments : goal.decreases-arguments
decreases-arguments l = exprs_measure (exprs_from (map expr_tree l.args.now))

abbrev pub invariant-arguments-loop-arg : goal.invariant-arguments-loop-arg
invariant-arguments-loop-arg l =
    (so_far typed_data with_argument (gathered l.parts) (elaborated_each (table_data l.environment.table.now) l.environment.class l.environment.scope.now (exprs_from (map expr_tree (drop l.arg-index l.args))))
    ≡ elaborated_each (table_data l.environment.table.now) l.environment.class l.environment.scope.now (exprs_from (map expr_tree l.args)))
    × (type_noted l.first (each_faults (table_data l.environment.table.now) l.environment.class l.environment.scope.now (exprs_from (map expr_tree (drop l.arg-index l.args))))
    ≡ type_noted l.fn.first (each_faults (table_data l.environment.table.now) l.environment.class l.environment.scope.now (exprs_from (map expr_tree l.args))))
