use Rattle.std.proofs.Common.{◌≡◌, map, drop}
use Rattle.printer.specs.Layout.{writes}
use Rattle.printer.specs.Printing.{args_lexemes, more_args_lexemes}
use Rattle.syntax.specs.Views.{expr_tree, exprs_from}
use Rattle.printer.proofs.expressions.+expressions.Given as goal

abbrev pub invariant-write_args-loop-arg : goal.invariant-write_args-loop-arg
invariant-write_args-loop-arg l = writes l.to (more_args_lexemes (exprs_from (map expr_tree (drop l.arg-index l.rest)))) ≡ writes l.fn.to (args_lexemes (exprs_from (map expr_tree l.args)))
