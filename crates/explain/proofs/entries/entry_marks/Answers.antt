-- One class more, and all.
use Rattle.std.proofs.Common.{◌+◌, drop, map, subst}
use Rattle.std.proofs.Math.ListN.{drop_of_length-le}
use Rattle.base.proofs.Lists.{next_drop}
use Rattle.core_program.specs.Views.{core_class_of, program_of}
use Rattle.explain.proofs.EntryMarks.{AreMarkedBefore, marked_all, marked_more}
use Rattle.explain.proofs.entries.entry_marks.Goals as goal

pub loop-class-preserved : goal.loop-class-preserved
loop-class-preserved c =
    let p = c.args.program.now in let P = program_of p in let items = c.classes-class-items.result.now in
    marked_more P c.loop-class.marks.items c.mark_run-in-loop-class.new.marks.items (core_class_of p c.class-item.result) (map (core_class_of p) (drop (c.loop-class.class-index + 1) items)) c.mark_run-in-loop-class.ensures
    (subst (λ cs. AreMarkedBefore P c.loop-class.marks.items (map (core_class_of p) cs)) (next_drop items c.loop-class.class-index c.class-item.result c.loop-class-test.true c.class-item.is) c.loop-class.invariant)

pub returns : goal.returns
returns c =
    let p = c.args.program.now in let P = program_of p in let items = c.classes-class-items.result.now in
    marked_all P c.loop-class.marks.items (subst (λ cs. AreMarkedBefore P c.loop-class.marks.items (map (core_class_of p) cs)) (drop_of_length-le items c.loop-class-test.false) c.loop-class.invariant)
