use Rattle.classes.specs.Families.{members_along}
use Rattle.classes.specs.Members.{field_names}
use Rattle.syntax.specs.Views.{class_of}
use Rattle.std.proofs.Common.{drop, map, slice_get, ◌≡◌}
use Rattle.classes.proofs.numbered_fields.field_at.Given as goal

abbrev pub invariant-loop-class : goal.invariant-loop-class
invariant-loop-class l =
    slice_get (field_names (members_along (map class_of l.classes) (drop l.class-index l.order))) l.left ≡ slice_get (field_names (members_along (map class_of l.classes) l.order)) l.number
