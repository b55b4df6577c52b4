use Rattle.std.proofs.Common.{refl, map, ap, ◌∙◌}
use Rattle.printer.specs.Layout.{writes}
use Rattle.printer.specs.Printing.{class_lexemes, extends_lexemes, runnable_lexemes, all_lexemes, member_lexemes}
use Rattle.syntax.specs.Views.{class_of, member_of}
use Rattle.printer.proofs.Writing.{put_first, writes_first, put_last, added}
use Rattle.printer.proofs.print.write_class.Goals as goal

pub returns : goal.returns
returns c =
    added c.terminal-3.result c.args.to.now c.terminal-3.new.self (class_lexemes (class_of c.args.class.now)) (class_lexemes (class_of c.args.class.now)) refl
    (put_first c.in_ok-terminal.ensures.put (put_first c.in_ok-write_name.ensures (writes_first (extends_lexemes c.args.class.now.above) c.in_ok-write_extends.ensures (writes_first (runnable_lexemes c.args.class.now.runnable) c.in_ok-write_runnable.ensures (put_first c.in_ok-terminal-2.ensures.put (writes_first (all_lexemes member_lexemes (map member_of c.args.class.now.members.items)) (c.in_ok-write_members.ensures ∙ ap (λ z. writes c.terminal-2.new.self (all_lexemes member_lexemes (map member_of z))) c.deref.ensures.value) (put_last c.terminal-3.ensures.put)))))))
