use Rattle.classes.specs.Families.{members_along, tree_of}
use Rattle.classes.specs.Members.{field_names}
use Rattle.classes.specs.Names.{has_text, texts_of}
use Rattle.std.proofs.Common.{drop, ◌≡◌}
use Rattle.classes.proofs.family.Family.any_declares_field.Given as goal

abbrev pub invariant-loop-number : goal.invariant-loop-number
invariant-loop-number l =
    has_text (texts_of (field_names (members_along (tree_of l.self) (drop l.number-index l.order)))) l.text ≡ has_text (texts_of (field_names (members_along (tree_of l.self) l.order))) l.text
