use Rattle.std.proofs.Common.{refl}
use Rattle.printer.specs.Layout.{writes}
use Rattle.printer.specs.Printing.{all_lexemes, set_lexemes}
use Rattle.printer.proofs.Writing.{item_step, item_end}
use Rattle.printer.proofs.print.write_sets.Goals as goal

pub loop-set-preserved : goal.loop-set-preserved
loop-set-preserved c =
    item_step (λ z. all_lexemes set_lexemes z) (λ x. set_lexemes x) (λ x xs. refl)
    c.args.sets.now c.loop-set.set-index c.set-item.result c.loop-set.to c.write_set.new.to (writes c.args.to.now (all_lexemes set_lexemes (c.args.sets.now)))
    c.loop-set-test.true c.set-item.is c.loop-set.invariant c.in_ok-write_set.ensures

pub returns : goal.returns
returns c =
    item_end (λ z. all_lexemes set_lexemes z) refl c.args.sets.now c.loop-set.set-index c.loop-set.to (writes c.args.to.now (all_lexemes set_lexemes (c.args.sets.now)))
    c.loop-set-test.false c.loop-set.invariant
