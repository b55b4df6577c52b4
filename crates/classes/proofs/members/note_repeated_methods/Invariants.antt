use Rattle.std.proofs.Common.{◌≡◌, map, drop}
use Rattle.syntax.specs.Views.{member_of}
use Rattle.classes.specs.declared.fault.ClassFault.TheVariants.{Twice}
use Rattle.classes.specs.Names.{repeats_after}
use Rattle.classes.specs.Members.{method_names}
use Rattle.classes.specs.Faults.{twice_faults}
use Rattle.classes.specs.Noted.{noted}
use Rattle.classes.proofs.members.note_repeated_methods.Given as goal

abbrev pub invariant-loop-member : goal.invariant-loop-member
invariant-loop-member l =
    noted l.found (map Twice (repeats_after l.seen (method_names (map member_of (drop l.member-index l.members)))))
    ≡ noted l.fn.first (twice_faults (method_names (map member_of l.members)))
