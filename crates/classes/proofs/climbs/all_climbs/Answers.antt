use Rattle.std.proofs.Common.{length, map}
use Rattle.std.proofs.lemmas.List.{length-map}
use Rattle.syntax.specs.Views.{class_of}
use Rattle.classes.proofs.ClimbLemmas.{climbs_ready}
use Rattle.classes.proofs.climbs.all_climbs.Goals as goal

pub returns : goal.returns
returns c = climbs_ready (map class_of c.args.classes.now) c.args.aboves.now c.in_ok-ones.ones.items c.as_slice.result.now (length c.args.classes.now) c.climbs.result c.in_ok-ones.ensures c.as_slice.ensures.value
    (length-map c.args.classes.now class_of) c.requires.many c.climbs.ensures
