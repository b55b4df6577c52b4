use Rattle.std.proofs.Common.{ap, sym, ◌∙◌}
use Rattle.std.specs.Option.{option_and_then}
use Rattle.classes.specs.Members.{class_names}
use Rattle.classes.specs.Lines.{class_named}
use Rattle.classes.proofs.Places.{found_by}
use Rattle.classes.proofs.family.number_above.Goals as goal

pub returns-in-Some : goal.returns-in-Some
returns-in-Some c = λ tree names firsts.
    c.number_of.ensures
    ∙ found_by (class_names tree) c.args.names.now c.args.firsts.now c.name.inside.text.now names firsts
    ∙ ap (λ n. class_named tree n.text) c.name.view_is
    ∙ sym (ap (option_and_then (λ n. class_named tree n.text)) c.in-Some.is)
