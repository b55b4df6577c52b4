use Rattle.std.proofs.Common.{[], ◌∷◌, ◌++◌, map, reverse, ap, sym, ◌∙◌}
use Rattle.syntax.specs.Views.{member_of, class_of}
use Rattle.classes.specs.Families.{members_along, tree_of}
use Rattle.classes.specs.Lines.{ancestor_classes}
use Rattle.classes.specs.Members.{field_names}
use Rattle.classes.proofs.FieldLines.{same_fields, same_names}
use Rattle.classes.proofs.Wholes.{class_result}
use Rattle.classes.proofs.check.note_heir.Goals as goal

pub returns : goal.returns
returns c =
    let tree = tree_of c.args.inheritance.now.family.now in
    class_result tree c.args.number (class_of c.args.class.now) (map member_of c.as_slice-members.result.now)
    (members_along tree c.as_slice-2.result.now) c.args.first c.in_ok-found.found c.note_others.result
    (ap (map member_of) c.as_slice-members.ensures.value)
    (ap (λ ks. field_names (members_along tree ks)) (c.as_slice-2.ensures.value ∙ c.in_ok-order.ensures ∙ ap reverse (c.as_slice.ensures.value ∙ c.in_ok-line.ensures))
    ∙ same_names tree (ancestor_classes tree c.args.number))
    c.in_ok-found.ensures c.note_others.ensures

pub note_fields-requires-clause-members : goal.note_fields-requires-clause-members
note_fields-requires-clause-members c = c.requires.own ∙ sym (ap (map member_of) c.as_slice-members.ensures.value)

pub note_others-requires-clause-order : goal.note_others-requires-clause-order
note_others-requires-clause-order c =
    same_fields (tree_of c.args.inheritance.now.family.now) c.args.number c.as_slice-3.result.now
    (c.as_slice-3.ensures.value ∙ c.in_ok-push.ensures.items
    ∙ ap (λ ks. ks ++ c.args.number ∷ []) (c.in_ok-order.ensures ∙ ap reverse (c.as_slice.ensures.value ∙ c.in_ok-line.ensures)))
