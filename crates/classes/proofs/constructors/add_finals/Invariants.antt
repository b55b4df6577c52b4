use Rattle.classes.specs.Finals.{final_of}
use Rattle.classes.specs.Members.{finals_of}
use Rattle.syntax.specs.Views.{member_of}
use Rattle.std.proofs.Common.{drop, map, ◌++◌, ◌≡◌}
use Rattle.classes.proofs.constructors.add_finals.Given as goal

abbrev pub invariant-loop-member : goal.invariant-loop-member
invariant-loop-member l =
    map final_of l.finals.items ++ finals_of (map member_of (drop l.member-index l.members)) ≡ map final_of l.initial.finals.items ++ finals_of (map member_of l.members)
