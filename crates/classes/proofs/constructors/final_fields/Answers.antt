use Rattle.std.proofs.Common.{map, get_or, refl}
use Rattle.syntax.specs.Views.{class_of}
use Rattle.classes.specs.Finals.{final_of}
use Rattle.classes.proofs.Parted.{finals_step}
use Rattle.classes.proofs.constructors.final_fields.Goals as goal

pub loop-number-preserved : goal.loop-number-preserved
loop-number-preserved c =
    finals_step final_of (map class_of c.args.classes.now) c.args.order.now c.loop-number.number-index (get_or c.args.order.now c.loop-number.number-index 0)
    c.loop-number.finals.items c.add_finals_of.new.finals.items _
    c.loop-number-test.true refl c.loop-number.invariant c.in_ok-add_finals_of.ensures
