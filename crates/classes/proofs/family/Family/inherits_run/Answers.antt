use Rattle.std.proofs.Common.{length, ap, sym, ◌∙◌}
use Rattle.std.specs.List.{list_any}
use Rattle.classes.specs.Climbs.{declares_run}
use Rattle.classes.specs.Families.{tree_of}
use Rattle.classes.specs.Lines.{above, ancestors}
use Rattle.classes.proofs.FieldLines.{none_inherited, run_inherited}
use Rattle.classes.proofs.family.Family.inherits_run.Goals as goal

pub returns-then-is_on_circle : goal.returns-then-is_on_circle
returns-then-is_on_circle c = none_inherited (tree_of c.args.self.now) c.args.number (sym c.is_on_circle.ensures ∙ c.if-is_on_circle.true)

pub returns-in-Some : goal.returns-in-Some
returns-in-Some c =
    let tree = tree_of c.args.self.now in
    ap (λ x. x.has_run) c.climb.ensures
    ∙ ap (λ o. list_any (declares_run tree) (ancestors (above tree) (length tree) o)) (sym c.in-Some.is ∙ c.above.ensures)
    ∙ run_inherited tree c.args.number (sym c.is_on_circle.ensures ∙ c.if-is_on_circle.false)

pub returns-in-None : goal.returns-in-None
returns-in-None c =
    let tree = tree_of c.args.self.now in
    ap (λ o. list_any (declares_run tree) (ancestors (above tree) (length tree) o)) (sym c.in-None.is ∙ c.above.ensures)
    ∙ run_inherited tree c.args.number (sym c.is_on_circle.ensures ∙ c.if-is_on_circle.false)
