use Rattle.std.proofs.Common.{ap, sym, subst, ◌∙◌, length}
use Rattle.classes.specs.Building.{above_at, counts_among}
use Rattle.classes.specs.Climbs.{AreClimbs}
use Rattle.classes.specs.Families.{tree_of}
use Rattle.classes.proofs.ClimbLemmas.{counts_kept, kept_climbs}
use Rattle.classes.proofs.family.Family.counts.Goals as goal

pub counts_runnable-requires : goal.counts_runnable-requires
counts_runnable-requires c =
    let tree = tree_of c.args.self.now in
    let above = c.as_slice.ensures.value in
    let climbs = c.as_slice-2.ensures.value in
    subst (λ z. AreClimbs tree (above_at z) (length tree) c.as_slice-2.result.now) (sym above)
    (subst (AreClimbs tree (above_at c.args.self.now.above.items) (length tree)) (sym climbs)
    (kept_climbs tree c.args.self.now.above.items c.args.self.now.climbs.items c.requires.above c.requires.climbs))

pub returns : goal.returns
returns c =
    let tree = tree_of c.args.self.now in
    c.counts_runnable.ensures
    ∙ ap (λ z. counts_among tree z c.args.number) c.as_slice.ensures.value
    ∙ counts_kept tree c.args.self.now.above.items c.args.number c.requires.above
