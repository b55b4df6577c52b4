use Rattle.std.proofs.Common.{refl, map, true, false}
use Rattle.printer.specs.Printing.{method_lexemes, listed_lexemes, param_lexemes, requires_lexemes, stmts_lexemes}
use Rattle.syntax.specs.Views.{lock_of, stmt_of, stmts_from}
use Rattle.printer.proofs.Writing.{put_first, writes_first, put_last, added}
use Rattle.printer.proofs.print.write_method.Goals as goal

pub returns : goal.returns
returns c =
    added c.terminal-4.result c.args.to.now c.terminal-4.new.self (method_lexemes false c.args.result_type.now c.args.name.now c.args.params.now (map lock_of c.args.locks.now) (stmts_from (map stmt_of c.args.body.now))) (method_lexemes false c.args.result_type.now c.args.name.now c.args.params.now (map lock_of c.args.locks.now) (stmts_from (map stmt_of c.args.body.now))) refl
    (put_first c.in_ok-write_result.ensures (put_first c.in_ok-write_name.ensures (put_first c.in_ok-terminal.ensures.put (writes_first (listed_lexemes (param_lexemes true) c.args.params.now) c.in_ok-write_params.ensures (put_first c.in_ok-terminal-2.ensures.put (writes_first (requires_lexemes (map lock_of c.args.locks.now)) c.in_ok-write_requires.ensures (put_first c.in_ok-terminal-3.ensures.put (writes_first (stmts_lexemes (stmts_from (map stmt_of c.args.body.now))) c.in_ok-write_stmts.ensures (put_last c.terminal-4.ensures.put)))))))))
