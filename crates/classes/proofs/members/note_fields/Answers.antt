use Rattle.std.proofs.Common.{map, sym, ◌∙◌}
use Rattle.syntax.specs.Views.{member_of}
use Rattle.classes.specs.Families.{members_along, tree_of}
use Rattle.classes.proofs.OwnLemmas.{fields_apart}
use Rattle.classes.proofs.members.note_fields.Goals as goal

pub returns-then-not-repeat_fields : goal.returns-then-not-repeat_fields
returns-then-not-repeat_fields c =
    fields_apart (members_along (tree_of c.args.family.now) c.args.order.now) (map member_of c.args.members.now) c.args.first (c.have_fields_apart.ensures c.if-have_fields_apart.true)
    (sym c.repeat_fields.ensures ∙ c.if-not-repeat_fields.true)
