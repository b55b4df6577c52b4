use Rattle.classes.specs.Families.{members_along}
use Rattle.classes.specs.Members.{field_names}
use Rattle.classes.specs.Names.{distinct, distinct_after}
use Rattle.syntax.specs.Views.{class_of}
use Rattle.std.proofs.Common.{drop, map, ◌≡◌}
use Rattle.classes.proofs.members.names_of_fields.Given as goal

abbrev pub invariant-loop-number : goal.invariant-loop-number
invariant-loop-number l =
    distinct_after l.seen (field_names (members_along (map class_of l.classes) (drop l.number-index l.order))) ≡ distinct (field_names (members_along (map class_of l.classes) l.order))
