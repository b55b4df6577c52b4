use Rattle.std.proofs.Common.{length, map, ap, subst, ◌∙◌}
use Rattle.std.proofs.lemmas.List.{length-map}
use Rattle.syntax.specs.Views.{class_of}
use Rattle.classes.specs.Building.{above_at}
use Rattle.classes.specs.Climbs.{AreClimbs}
use Rattle.classes.proofs.ClimbLemmas.{family_climbs, many_above}
use Rattle.classes.proofs.family.Family.new.Goals as goal

pub all_climbs-requires : goal.all_climbs-requires
all_climbs-requires c = record {
  many = ap length c.as_slice-2.ensures.value ∙ many_above (map class_of c.args.classes.now) c.in_ok-above.above.items c.in_ok-above.ensures ∙ length-map c.args.classes.now class_of;
}

pub returns-clause-family : goal.returns-clause-family
returns-clause-family c =
    let tree = map class_of c.args.classes.now in
    record {
      names = c.requires.names;
      own = c.requires.own;
      firsts = c.requires.firsts;
      above = c.in_ok-above.ensures;
      climbs =
          family_climbs tree c.in_ok-above.above.items c.in_ok-climbs.climbs.items c.in_ok-above.ensures
          (subst (λ z. AreClimbs tree (above_at z) (length tree) c.in_ok-climbs.climbs.items) c.as_slice-2.ensures.value (c.in_ok-climbs.ensures c.requires.some));
    }
