use Rattle.std.proofs.Common.{map}
use Rattle.syntax.specs.Views.{member_of, class_of}
use Rattle.classes.specs.Families.{members_along}
use Rattle.classes.proofs.Repeats.{fields_result}
use Rattle.classes.proofs.members.note_repeated_fields.Goals as goal

pub returns : goal.returns
returns c =
    fields_result (members_along (map class_of c.args.classes.now) c.args.order.now) (map member_of c.args.members.now) c.in_ok-seen.seen c.args.first c.note_fields_after.result
    c.in_ok-seen.ensures c.note_fields_after.ensures
