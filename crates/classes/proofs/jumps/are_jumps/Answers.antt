use Rattle.std.proofs.Common.{map, subst, refl, arith}
use Rattle.std.proofs.lemmas.List.{length-map}
use Rattle.classes.specs.Jumps.{IsJump}
use Rattle.classes.specs.Views.{class_data}
use Rattle.classes.proofs.Jumping.{one_more, all_jumps}
use Rattle.classes.proofs.jumps.are_jumps.Goals as goal

pub loop-place-preserved : goal.loop-place-preserved
loop-place-preserved c =
    one_more (λ k. IsJump (map class_data c.args.classes.now) c.args.jumps.now k) c.loop-place.place c.loop-place.invariant
    (subst (λ k. IsJump (map class_data c.args.classes.now) c.args.jumps.now k) c.in-Ok.ensures (c.if-not-is_jump.ensures refl))

pub returns : goal.returns
returns c _ =
    let long = length-map c.args.classes.now class_data in
    all_jumps (map class_data c.args.classes.now) c.args.jumps.now c.loop-place.place (omega (arith, long, c.if-jumps-classes.false)) (omega (arith, long, c.loop-place-test.false)) c.loop-place.invariant
