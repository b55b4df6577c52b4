use Rattle.std.proofs.Common.{map, get_or, refl}
use Rattle.syntax.specs.Views.{class_of}
use Rattle.classes.proofs.Parted.{no_final_step, final_found}
use Rattle.classes.proofs.constructors.has_finals.Goals as goal

pub returns-then-class_has_final : goal.returns-then-class_has_final
returns-then-class_has_final c =
    final_found (map class_of c.args.classes.now) c.args.order.now c.loop-number.number-index (get_or c.args.order.now c.loop-number.number-index 0) c.class_has_final.result _
    c.loop-number-test.true refl c.loop-number.invariant c.class_has_final.ensures c.if-class_has_final.true

pub loop-number-preserved : goal.loop-number-preserved
loop-number-preserved c =
    no_final_step (map class_of c.args.classes.now) c.args.order.now c.loop-number.number-index (get_or c.args.order.now c.loop-number.number-index 0) c.class_has_final.result _
    c.loop-number-test.true refl c.loop-number.invariant c.class_has_final.ensures c.if-class_has_final.false
