use Rattle.std.proofs.Common.{◌≡◌, map, drop}
use Rattle.printer.specs.Layout.{writes}
use Rattle.printer.specs.Printing.{stmts_lexemes}
use Rattle.syntax.specs.Views.{stmt_of, stmts_from}
use Rattle.printer.proofs.statements.+statements.Given as goal

abbrev pub invariant-write_stmts-loop-stmt : goal.invariant-write_stmts-loop-stmt
invariant-write_stmts-loop-stmt l = writes l.to (stmts_lexemes (stmts_from (map stmt_of (drop l.stmt-index l.stmts)))) ≡ writes l.fn.to (stmts_lexemes (stmts_from (map stmt_of l.stmts)))
