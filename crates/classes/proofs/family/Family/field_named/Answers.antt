use Rattle.std.proofs.Common.{length, sym, ap, ◌∙◌, ◌-◌}
use Rattle.std.specs.Option.{option_map}
use Rattle.std.proofs.lemmas.List.{length-map}
use Rattle.syntax.specs.Views.{class_of}
use Rattle.classes.specs.Climbs.{fields_above}
use Rattle.classes.specs.Families.{tree_of, field_data}
use Rattle.classes.specs.Lines.{ancestors}
use Rattle.classes.specs.Overriding.{field_along}
use Rattle.classes.proofs.FieldLines.{field_above}
use Rattle.classes.proofs.Meanings.{field_later}
use Rattle.classes.proofs.family.Family.field_named.Goals as goal

pub loop-left-init : goal.loop-left-init
loop-left-init c =
    let tree = tree_of c.args.self.now in
    let steps = sym (length-map c.args.self.now.classes.now class_of) in
    ap (λ n. field_along tree (ancestors (fields_above tree) n c.fields_above-next.result) c.args.name.now) steps
    ∙ ap (λ o. field_along tree (ancestors (fields_above tree) (length tree) o) c.args.name.now) c.fields_above-next.ensures
    ∙ field_above tree c.args.number c.args.name.now (sym c.is_on_circle.ensures ∙ c.if-is_on_circle.false)

pub loop-left-preserved : goal.loop-left-preserved
loop-left-preserved c =
    let tree = tree_of c.args.self.now in
    let up = fields_above tree in
    ap (λ o. field_along tree (ancestors up (c.loop-left.left - 1) o) c.args.name.now) c.fields_above-next-in-loop-left.ensures
    ∙ field_later tree up c.loop-left.left c.in-Some-next.class c.args.name.now _ c.loop-left-test.true
    (ap (λ o. field_along tree (ancestors up c.loop-left.left o) c.args.name.now) (sym c.in-Some-next.is) ∙ c.loop-left.invariant)
    (sym (ap (option_map field_data) c.in_default-own_field.is) ∙ c.own_field-in-loop-left.ensures)
