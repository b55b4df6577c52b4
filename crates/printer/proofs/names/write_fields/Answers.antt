use Rattle.std.proofs.Common.{refl}
use Rattle.printer.specs.Layout.{writes}
use Rattle.printer.specs.Printing.{all_lexemes, dotted_lexemes}
use Rattle.printer.proofs.Writing.{item_step, item_end}
use Rattle.printer.proofs.names.write_fields.Goals as goal

pub loop-field-preserved : goal.loop-field-preserved
loop-field-preserved c =
    item_step (λ z. all_lexemes dotted_lexemes z) (λ x. dotted_lexemes x) (λ x xs. refl)
    c.args.fields.now c.loop-field.field-index c.field-item.result c.loop-field.to c.write_dotted.new.to (writes c.args.to.now (all_lexemes dotted_lexemes (c.args.fields.now)))
    c.loop-field-test.true c.field-item.is c.loop-field.invariant c.in_ok-write_dotted.ensures

pub returns : goal.returns
returns c =
    item_end (λ z. all_lexemes dotted_lexemes z) refl c.args.fields.now c.loop-field.field-index c.loop-field.to (writes c.args.to.now (all_lexemes dotted_lexemes (c.args.fields.now)))
    c.loop-field-test.false c.loop-field.invariant
