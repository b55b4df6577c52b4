use Rattle.std.proofs.Common.{map, drop, get_or, slice_get, refl, ap, ◌∙◌, ◌+◌, ◌-◌}
use Rattle.syntax.specs.Views.{class_of}
use Rattle.classes.specs.Members.{field_names}
use Rattle.classes.specs.Families.{members_along}
use Rattle.classes.proofs.Parted.{later_field, field_found}
use Rattle.classes.proofs.numbered_fields.field_at.Goals as goal

pub returns-in-Some : goal.returns-in-Some
returns-in-Some c =
    field_found (map class_of c.args.classes.now) c.args.order.now c.loop-class.class-index (get_or c.args.order.now c.loop-class.class-index 0) c.loop-class.left c.in-Some.name.now _
    c.loop-class-test.true refl c.loop-class.invariant c.in-Some.ensures

pub loop-class-preserved : goal.loop-class-preserved
loop-class-preserved c =
    ap (slice_get (field_names (members_along (map class_of c.args.classes.now) (drop (c.loop-class.class-index + 1) c.args.order.now))))
    (c.saturating_sub-left.ensures ∙ ap (λ n. c.loop-class.left - n) c.count_fields_of.ensures)
    ∙ later_field (map class_of c.args.classes.now) c.args.order.now c.loop-class.class-index (get_or c.args.order.now c.loop-class.class-index 0) c.loop-class.left _
    c.loop-class-test.true refl c.loop-class.invariant c.in_default.ensures
