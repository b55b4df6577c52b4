use Rattle.classes.specs.Names.{has_text}
use Rattle.std.proofs.Common.{◌≡◌, drop, flat_map, map}
use Rattle.syntax.specs.Views.{member_of}
use Rattle.classes.specs.Faults.{member_all_class_faults}
use Rattle.classes.specs.Noted.{noted}
use Rattle.classes.proofs.members.note_members.Given as goal

abbrev pub invariant-loop-member : goal.invariant-loop-member
invariant-loop-member l =
    noted l.found (flat_map (member_all_class_faults (has_text l.classes)) (map member_of (drop l.member-index l.members)))
    ≡ noted l.fn.first (flat_map (member_all_class_faults (has_text l.classes)) (map member_of l.members))
