use Rattle.std.proofs.Common.{sym}
use Rattle.classes.specs.Families.{tree_of}
use Rattle.classes.proofs.Wholes.{classes_step}
use Rattle.classes.proofs.OwnLemmas.{class_here}
use Rattle.classes.proofs.check.note_classes.Goals as goal

pub loop-number-preserved : goal.loop-number-preserved
loop-number-preserved c =
    classes_step (tree_of c.args.inheritance.now.family.now) c.args.inheritance.now.family.now.classes.now c.loop-number.number c.class-item.result c.loop-number.found c.in_ok-found.found _
    c.loop-number-test.true (sym c.class-item.is) c.loop-number.invariant c.in_ok-found.ensures

pub note_class-requires-clause-own : goal.note_class-requires-clause-own
note_class-requires-clause-own c =
    class_here c.args.inheritance.now.family.now.classes.now c.loop-number.number c.class-item.result c.loop-number-test.true (sym c.class-item.is)
