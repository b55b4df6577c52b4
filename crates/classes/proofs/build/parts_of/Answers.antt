use Rattle.std.proofs.Common.{length, map, ap, subst, ◌∙◌, arith}
use Rattle.std.proofs.lemmas.List.{length-map}
use Rattle.syntax.specs.Views.{class_of}
use Rattle.classes.specs.Building.{above_at, above_named, parts_data, parts_from}
use Rattle.classes.specs.Climbs.{AreClimbs}
use Rattle.classes.proofs.Adding.{class_next, one_added, own_left}
use Rattle.classes.proofs.build.parts_of.Goals as goal

pub all_climbs-requires : goal.all_climbs-requires
all_climbs-requires c = record {
  many =
      ap length (c.as_slice.ensures.value ∙ c.in_ok-aboves.ensures)
      ∙ length-map (map class_of c.args.classes.now) (above_named c.args.names.now)
      ∙ length-map c.args.classes.now class_of;
}

pub add-requires-clause-climbs : goal.add-requires-clause-climbs
add-requires-clause-climbs c =
    let tree = map class_of c.args.classes.now in
    let within = c.in-Some-get.ensures.lookup.3.0 in
    subst (λ z. AreClimbs tree (above_at z) (length tree) c.in_ok-climbs.climbs.items) c.as_slice.ensures.value (c.in_ok-climbs.ensures (omega (arith, within)))

pub loop-own-preserved : goal.loop-own-preserved
loop-own-preserved c =
    let at = c.loop-own in
    let split = class_next c.args.classes.now at.number c.in-Some-get.class.now c.in-Some-get.ensures.lookup.3.0 c.in-Some-get.ensures.lookup.1 in
    let steps = c.in-Some.ensures.steps.0 in (
      one_added (map class_of c.args.classes.now) c.in_ok-aboves.aboves.items c.args.names.now _ _ c.in-Some-get.class.now (parts_data at.parts) (parts_data c.add.new.self)
          (parts_from c.args.names.now (map class_of c.args.classes.now)) split at.invariant.0 c.in_ok-add.ensures,
      own_left _ _ c.in-Some.own _ _ c.in-Some-get.class.now split steps at.invariant.1,
      let was = at.invariant.2 in
          let gone = c.in-Some.ensures.steps.1 in
          let short = ap length steps in
          omega arith,
    )
