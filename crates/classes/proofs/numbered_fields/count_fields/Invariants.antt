use Rattle.classes.specs.Members.{field_names}
use Rattle.syntax.specs.Views.{member_of}
use Rattle.std.proofs.Common.{drop, length, map, ◌+◌, ◌≡◌, ◌≤◌}
use Rattle.classes.proofs.numbered_fields.count_fields.Given as goal

abbrev pub invariant-loop-member : goal.invariant-loop-member
invariant-loop-member l =
    (l.count ≤ l.member-index) × (l.count + length (field_names (map member_of (drop l.member-index l.members))) ≡ length (field_names (map member_of l.members)))
