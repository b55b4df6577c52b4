use Rattle.std.proofs.Common.{[], map, ap, sym, ◌∙◌}
use Rattle.syntax.specs.Views.{member_of, class_of}
use Rattle.classes.specs.Families.{tree_of}
use Rattle.classes.specs.Members.{field_names, finals_of}
use Rattle.classes.proofs.Alone.{members_alone}
use Rattle.classes.proofs.Faultless.{nothing_inherited}
use Rattle.classes.proofs.Wholes.{class_result}
use Rattle.classes.proofs.check.note_alone.Goals as goal

pub note_others-requires-clause-order : goal.note_others-requires-clause-order
note_others-requires-clause-order c =
    let alone = members_alone (tree_of c.args.inheritance.now.family.now) c.args.number c.requires.alone in record {
      names = ap field_names alone;
      finals = ap finals_of alone;
    }

pub returns : goal.returns
returns c =
    class_result (tree_of c.args.inheritance.now.family.now) c.args.number (class_of c.args.class.now) (map member_of c.as_slice-members.result.now)
    [] c.args.first c.in_ok-found.found c.note_others.result
    (ap (map member_of) c.as_slice-members.ensures.value)
    (ap field_names (sym (nothing_inherited (tree_of c.args.inheritance.now.family.now) c.args.number c.requires.alone).1))
    c.in_ok-found.ensures c.note_others.ensures

pub note_fields-requires-clause-members : goal.note_fields-requires-clause-members
note_fields-requires-clause-members c = c.requires.own ∙ sym (ap (map member_of) c.as_slice-members.ensures.value)
