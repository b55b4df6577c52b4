use Rattle.classes.specs.Families.{members_along, tree_of}
use Rattle.classes.specs.Members.{field_names}
use Rattle.classes.specs.Names.{has_text, texts_of}
use Rattle.syntax.specs.Views.{member_of}
use Rattle.std.proofs.Common.{drop, map, ◌≡◌}
use Rattle.std.specs.List.{list_any}
use Rattle.classes.proofs.members.repeat_fields.Given as goal

abbrev pub invariant-loop-member : goal.invariant-loop-member
invariant-loop-member l =
    list_any (λ n. has_text (texts_of (field_names (members_along (tree_of l.family) l.order))) n.text) (field_names (map member_of (drop l.member-index l.members)))
    ≡ list_any (λ n. has_text (texts_of (field_names (members_along (tree_of l.family) l.order))) n.text) (field_names (map member_of l.members))
