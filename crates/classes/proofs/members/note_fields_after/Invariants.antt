use Rattle.classes.specs.Members.{field_names}
use Rattle.classes.specs.Names.{repeats_after}
use Rattle.classes.specs.Noted.{noted}
use Rattle.classes.specs.declared.fault.ClassFault.TheVariants.{Twice}
use Rattle.syntax.specs.Views.{member_of}
use Rattle.std.proofs.Common.{drop, map, ◌≡◌}
use Rattle.classes.proofs.members.note_fields_after.Given as goal

abbrev pub invariant-loop-member : goal.invariant-loop-member
invariant-loop-member l =
    noted l.found (map Twice (repeats_after l.seen (field_names (map member_of (drop l.member-index l.members)))))
    ≡ noted l.fn.first (map Twice (repeats_after l.fn.names (field_names (map member_of l.members))))
