use Rattle.std.proofs.Common.{length, map, ap, sym, subst, ◌∙◌}
use Rattle.syntax.specs.Views.{class_of}
use Rattle.classes.specs.Building.{above_at, counts_among}
use Rattle.classes.specs.Climbs.{AreClimbs}
use Rattle.classes.proofs.build.Lineup.counts_runnable.Goals as goal

pub counts_runnable-requires : goal.counts_runnable-requires
counts_runnable-requires c =
    let tree = map class_of c.args.self.now.classes.now in
    subst (λ z. AreClimbs tree (above_at z) (length tree) c.as_slice-2.result.now) (sym c.as_slice.ensures.value)
    (subst (AreClimbs tree (above_at c.args.self.now.aboves.items) (length tree)) (sym c.as_slice-2.ensures.value) c.requires)

pub returns : goal.returns
returns c = c.counts_runnable.ensures ∙ ap (λ z. counts_among (map class_of c.args.self.now.classes.now) z c.args.class) c.as_slice.ensures.value
