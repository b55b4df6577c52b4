use Rattle.std.proofs.Common.{length, ap, sym, ◌∙◌}
use Rattle.classes.specs.Climbs.{first_with_fields}
use Rattle.classes.specs.Families.{tree_of}
use Rattle.classes.specs.Lines.{above, ancestors}
use Rattle.classes.proofs.family.Family.fields_above.Goals as goal

pub returns-in-Some : goal.returns-in-Some
returns-in-Some c =
    let tree = tree_of c.args.self.now in
    ap (λ x. x.with_fields) c.climb.ensures ∙ ap (λ o. first_with_fields tree (ancestors (above tree) (length tree) o)) (sym c.in-Some.is ∙ c.above.ensures)

pub returns-in-None : goal.returns-in-None
returns-in-None c =
    let tree = tree_of c.args.self.now in
    ap (λ o. first_with_fields tree (ancestors (above tree) (length tree) o)) (sym c.in-None.is ∙ c.above.ensures)
