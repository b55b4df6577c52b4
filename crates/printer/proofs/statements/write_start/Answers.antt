use Rattle.std.proofs.Common.{refl}
use Rattle.printer.specs.Printing.{stmt_lexemes, expr_lexemes}
use Rattle.syntax.specs.Views.{expr_tree}
use Rattle.syntax.specs.Trees.{StartS}
use Rattle.printer.proofs.Writing.{put_first, writes_first, put_last, added}
use Rattle.printer.proofs.statements.write_start.Goals as goal

pub returns : goal.returns
returns c =
    added c.terminal-9.result c.args.to.now c.terminal-9.new.self (stmt_lexemes (StartS (expr_tree c.args.value.now) 0)) (stmt_lexemes (StartS (expr_tree c.args.value.now) 0)) refl
    (put_first c.in_ok-terminal.ensures.put (put_first c.in_ok-terminal-2.ensures.put (put_first c.in_ok-terminal-3.ensures.put (writes_first (expr_lexemes (expr_tree c.args.value.now)) c.in_ok-write_expr.ensures (put_first c.in_ok-terminal-4.ensures.put (put_first c.in_ok-terminal-5.ensures.put (put_first c.in_ok-terminal-6.ensures.put (put_first c.in_ok-terminal-7.ensures.put (put_first c.in_ok-terminal-8.ensures.put (put_last c.terminal-9.ensures.put))))))))))
