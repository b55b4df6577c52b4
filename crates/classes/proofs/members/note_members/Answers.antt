use Rattle.classes.specs.Names.{has_text}
use Rattle.std.proofs.Common.{flat_map, map, sym}
use Rattle.syntax.specs.Views.{member_of}
use Rattle.classes.specs.Faults.{member_all_class_faults}
use Rattle.classes.specs.Noted.{noted}
use Rattle.classes.proofs.Noting.{noted_step}
use Rattle.classes.proofs.members.note_members.Goals as goal

pub loop-member-preserved : goal.loop-member-preserved
loop-member-preserved c =
    noted_step (member_all_class_faults (has_text c.args.classes.now)) member_of c.args.members.now c.loop-member.member-index c.member-item.result c.loop-member.found c.in_ok-found.found
    (noted c.args.first (flat_map (member_all_class_faults (has_text c.args.classes.now)) (map member_of c.args.members.now)))
    c.loop-member-test.true (sym c.member-item.is) c.loop-member.invariant c.in_ok-found.ensures
