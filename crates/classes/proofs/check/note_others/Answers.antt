use Rattle.std.proofs.Common.{map, refl, ap, sym, ◌∙◌}
use Rattle.syntax.specs.Views.{member_of, class_of}
use Rattle.classes.specs.Faults.{too_many_faults}
use Rattle.classes.specs.Families.{members_along, tree_of, rows_data, class_headings}
use Rattle.classes.specs.Lines.{ancestor_classes}
use Rattle.classes.specs.Noted.{noted}
use Rattle.classes.specs.Overriding.{headings_at}
use Rattle.classes.proofs.Alone.{same_overrides}
use Rattle.classes.proofs.Wholes.{others_noted}
use Rattle.classes.proofs.check.note_others.Goals as goal

pub returns : goal.returns
returns c =
    let tree = tree_of c.args.inheritance.now.family.now in
    let k = c.args.number in
    let methods = class_headings (rows_data c.args.inheritance.now.headings.now) in
    others_noted tree k (class_of c.args.class.now) (map member_of c.as_slice-members.result.now) c.args.inheritance.now.family.now.names.now
    (members_along tree c.args.order.now) c.counts.result c.has_run-has_run.result c.is_on_circle.result (headings_at tree) (ancestor_classes tree k)
    c.args.first c.in_ok-found.found c.note_above-found.result c.in_ok-found-2.found c.note_missing_constructor-found.result c.in_ok-found-3.found
    c.note_missing_run-found.result c.note_excess-found.result c.note_circle-found.result c.note_bad_overrides.result
    (ap (map member_of) c.as_slice-members.ensures.value) c.requires.family.names c.requires.order c.counts.ensures c.has_run-has_run.ensures c.is_on_circle.ensures refl refl
    c.in_ok-found.ensures c.note_above-found.ensures c.in_ok-found-2.ensures c.note_missing_constructor-found.ensures c.in_ok-found-3.ensures c.note_missing_run-found.ensures
    (c.note_excess-found.ensures ∙ ap (λ o. noted c.note_missing_run-found.result (too_many_faults o)) c.field_at.ensures)
    c.note_circle-found.ensures
    (c.note_bad_overrides.ensures ∙ ap (noted c.note_circle-found.result) (same_overrides tree methods (ancestor_classes tree k) k c.requires.rows refl))

pub note_methods-requires-clause-members : goal.note_methods-requires-clause-members
note_methods-requires-clause-members c = c.requires.own ∙ sym (ap (map member_of) c.as_slice-members.ensures.value)

pub has_run-has_run-requires-clause-members : goal.has_run-has_run-requires-clause-members
has_run-has_run-requires-clause-members c = c.requires.own ∙ sym (ap (map member_of) c.as_slice-members.ensures.value)
