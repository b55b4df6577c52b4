use Rattle.std.proofs.Common.{◌≡◌, drop, map, false}
use Rattle.syntax.specs.Views.{member_of}
use Rattle.classes.specs.Faults.{constructor_faults}
use Rattle.classes.specs.Finals.{final_of}
use Rattle.classes.specs.Noted.{noted}
use Rattle.classes.proofs.constructors.note_wrong.Given as goal

abbrev pub invariant-loop-member : goal.invariant-loop-member
invariant-loop-member l =
    noted l.found (constructor_faults l.class (map final_of l.finals) l.is_later (map member_of (drop l.member-index l.members)))
    ≡ noted l.fn.first (constructor_faults l.class (map final_of l.finals) false (map member_of l.members))
