use Rattle.std.proofs.Common.{map, get_or, refl}
use Rattle.syntax.specs.Views.{class_of}
use Rattle.classes.proofs.Parted.{names_step}
use Rattle.classes.proofs.members.names_of_fields.Goals as goal

pub loop-number-preserved : goal.loop-number-preserved
loop-number-preserved c =
    names_step (map class_of c.args.classes.now) c.args.order.now c.loop-number.number-index (get_or c.args.order.now c.loop-number.number-index 0) c.loop-number.seen c.see_fields_of.new.seen _
    c.loop-number-test.true refl c.loop-number.invariant c.in_ok-see_fields_of.ensures
