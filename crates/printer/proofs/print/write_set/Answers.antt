use Rattle.std.proofs.Common.{refl}
use Rattle.printer.specs.Printing.{set_lexemes}
use Rattle.printer.proofs.Writing.{put_first, put_last, added}
use Rattle.printer.proofs.print.write_set.Goals as goal

pub returns : goal.returns
returns c =
    added c.terminal-4.result c.args.to.now c.terminal-4.new.self (set_lexemes c.args.set.now) (set_lexemes c.args.set.now) refl
    (put_first c.in_ok-terminal.ensures.put (put_first c.in_ok-terminal-2.ensures.put (put_first c.in_ok-write_name.ensures (put_first c.in_ok-terminal-3.ensures.put (put_first c.in_ok-write_name-2.ensures (put_last c.terminal-4.ensures.put))))))
