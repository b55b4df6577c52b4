use Rattle.classes.specs.Members.{field_names}
use Rattle.syntax.specs.Views.{member_of}
use Rattle.std.proofs.Common.{drop, map, slice_get, ◌≡◌}
use Rattle.classes.proofs.numbered_fields.field_in.Given as goal

abbrev pub invariant-loop-member : goal.invariant-loop-member
invariant-loop-member l =
    slice_get (field_names (map member_of (drop l.member-index l.members))) l.left
    ≡ slice_get (field_names (map member_of l.members)) l.number
