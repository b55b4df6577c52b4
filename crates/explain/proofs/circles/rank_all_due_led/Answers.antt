-- No method yet, and one more.
use Rattle.std.proofs.Common.{◌∙◌, refl}
use Rattle.explain.proofs.circles.rank_all_due_led.Goals as goal

pub loop-place-init : goal.loop-place-init
loop-place-init c = record { many = refl; ranked = λ bounds P rel A overs r. r; circling = λ bounds P rel A overs r. r }

pub loop-place-preserved : goal.loop-place-preserved
loop-place-preserved c = record {
  many = c.rank_led.ensures.length ∙ c.loop-place.invariant.many;
  ranked = λ bounds P rel A overs r. c.in_ok-any.ensures.ranked bounds P rel A overs (c.loop-place.invariant.ranked bounds P rel A overs r);
  circling = λ bounds P rel A overs r. c.in_ok-any.ensures.circling bounds P rel A overs (c.loop-place.invariant.circling bounds P rel A overs r);
}
