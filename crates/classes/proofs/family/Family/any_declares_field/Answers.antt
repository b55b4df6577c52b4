use Rattle.std.proofs.Common.{get_or, refl}
use Rattle.classes.specs.Families.{tree_of}
use Rattle.classes.proofs.OwnLemmas.{declared_found, declared_later}
use Rattle.classes.proofs.family.Family.any_declares_field.Goals as goal

pub returns-then-declares_field : goal.returns-then-declares_field
returns-then-declares_field c =
    declared_found (tree_of c.args.self.now) c.args.order.now c.loop-number.number-index (get_or c.args.order.now c.loop-number.number-index 0) c.args.text.now c.declares_field.result _
    c.loop-number-test.true refl c.loop-number.invariant c.declares_field.ensures c.if-declares_field.true

pub loop-number-preserved : goal.loop-number-preserved
loop-number-preserved c =
    declared_later (tree_of c.args.self.now) c.args.order.now c.loop-number.number-index (get_or c.args.order.now c.loop-number.number-index 0) c.args.text.now c.declares_field.result _
    c.loop-number-test.true refl c.loop-number.invariant c.declares_field.ensures c.if-declares_field.false
