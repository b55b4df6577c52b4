use Rattle.std.proofs.Common.{map, refl}
use Rattle.printer.specs.Layout.{writes}
use Rattle.printer.specs.Printing.{all_lexemes, class_lexemes}
use Rattle.syntax.specs.Views.{class_of}
use Rattle.printer.proofs.Writing.{item_step, item_end}
use Rattle.printer.proofs.print.write_classes.Goals as goal

pub loop-class-preserved : goal.loop-class-preserved
loop-class-preserved c =
    item_step (λ z. all_lexemes class_lexemes (map class_of z)) (λ x. class_lexemes (class_of x)) (λ x xs. refl)
    c.args.classes.now c.loop-class.class-index c.class-item.result c.loop-class.to c.write_class.new.to (writes c.args.to.now (all_lexemes class_lexemes (map class_of c.args.classes.now)))
    c.loop-class-test.true c.class-item.is c.loop-class.invariant c.in_ok-write_class.ensures

pub returns : goal.returns
returns c =
    item_end (λ z. all_lexemes class_lexemes (map class_of z)) refl c.args.classes.now c.loop-class.class-index c.loop-class.to (writes c.args.to.now (all_lexemes class_lexemes (map class_of c.args.classes.now)))
    c.loop-class-test.false c.loop-class.invariant
