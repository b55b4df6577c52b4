use Rattle.classes.specs.Overriding.{field_from}
use Rattle.syntax.specs.Views.{member_of}
use Rattle.std.proofs.Common.{drop, map, ◌≡◌, ◌≤◌}
use Rattle.classes.proofs.family.field_among.Given as goal

abbrev pub invariant-loop-member : goal.invariant-loop-member
invariant-loop-member l =
    (l.place ≤ l.member-index)
    × (field_from l.class l.place (map member_of (drop l.member-index l.members)) l.name ≡ field_from l.class 0 (map member_of l.members) l.name)
