use Rattle.std.proofs.Common.{◌||◌, ap, sym, ◌∙◌}
use Rattle.classes.specs.Climbs.{have_run}
use Rattle.classes.specs.Families.{tree_of}
use Rattle.classes.specs.Lines.{members_at}
use Rattle.classes.proofs.FieldLines.{run_of_all}
use Rattle.classes.proofs.family.Family.has_run.Goals as goal

pub returns-then-inherits_run : goal.returns-then-inherits_run
returns-then-inherits_run c =
    let tree = tree_of c.args.self.now in
    ap (λ b. b || have_run (members_at tree c.args.number)) (sym c.if-inherits_run.true ∙ c.inherits_run.ensures) ∙ sym (run_of_all tree c.args.number)

pub returns : goal.returns
returns c =
    let tree = tree_of c.args.self.now in
    c.has_entry.ensures ∙ ap have_run (sym c.requires.members)
    ∙ ap (λ b. b || have_run (members_at tree c.args.number)) (sym c.if-inherits_run.false ∙ c.inherits_run.ensures) ∙ sym (run_of_all tree c.args.number)
