use Rattle.std.proofs.Common.{refl, false}
use Rattle.printer.specs.Printing.{member_lexemes, listed_lexemes, param_lexemes, all_lexemes, set_lexemes}
use Rattle.syntax.specs.Trees.{CtorM}
use Rattle.printer.proofs.Writing.{put_first, writes_first, put_last, added}
use Rattle.printer.proofs.print.write_constructor.Goals as goal

pub returns : goal.returns
returns c =
    added c.terminal-4.result c.args.to.now c.terminal-4.new.self (member_lexemes (CtorM c.args.name.now c.args.params.now c.args.sets.now)) (member_lexemes (CtorM c.args.name.now c.args.params.now c.args.sets.now)) refl
    (put_first c.in_ok-write_name.ensures (put_first c.in_ok-terminal.ensures.put (writes_first (listed_lexemes (param_lexemes false) c.args.params.now) c.in_ok-write_params.ensures (put_first c.in_ok-terminal-2.ensures.put (put_first c.in_ok-terminal-3.ensures.put (writes_first (all_lexemes set_lexemes c.args.sets.now) c.in_ok-write_sets.ensures (put_last c.terminal-4.ensures.put)))))))
