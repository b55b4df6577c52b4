use Rattle.std.proofs.Common.{Some, length, map, ap, sym, ◌∙◌, ◌||◌}
use Rattle.std.specs.List.{list_any}
use Rattle.syntax.specs.Views.{class_of}
use Rattle.classes.specs.Building.{above_at}
use Rattle.classes.specs.Lines.{ancestors, says_runnable}
use Rattle.classes.proofs.ClimbLemmas.{counts_by}
use Rattle.classes.proofs.above.counts_runnable.Goals as goal

pub returns-then-says_runnable : goal.returns-then-says_runnable
returns-then-says_runnable c =
    let tree = map class_of c.args.classes.now in
    ap (λ b. b || list_any (says_runnable tree) (ancestors (above_at c.args.aboves.now) (length tree) (above_at c.args.aboves.now c.args.class)))
    (sym (sym c.says_runnable.ensures ∙ c.if-says_runnable.true))

pub returns-in-Some : goal.returns-in-Some
returns-in-Some c =
    let tree = map class_of c.args.classes.now in
    ap (λ x. x.says_runnable) (c.climb_at.ensures ∙ c.requires c.in-Some.above)
    ∙ counts_by tree c.args.aboves.now c.args.class (Some c.in-Some.above) (sym c.above_at.ensures ∙ c.in-Some.is) (sym c.says_runnable.ensures ∙ c.if-says_runnable.false)
