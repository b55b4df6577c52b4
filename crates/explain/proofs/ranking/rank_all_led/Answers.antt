-- One row more, and all.
use Rattle.std.proofs.Common.{arith, refl}
use Rattle.explain.proofs.FirstRanks.{passed_all, passed_more}
use Rattle.explain.proofs.ranking.rank_all_led.Goals as goal

pub loop-place-preserved : goal.loop-place-preserved
loop-place-preserved c =
    passed_more c.args.round c.loop-place.place c.loop-place.any c.in_ok-any.field-0 _ c.args.grounds.now.items c.loop-place.grounds.items c.rank_led.new.grounds.items c.loop-place.invariant refl
    c.rank_led.ensures.length c.in_ok-any.ensures.ranked c.in_ok-any.ensures.same c.in_ok-any.ensures.stuck

pub returns-clause-stuck : goal.returns-clause-stuck
returns-clause-stuck c =
    let many = c.len-place-end.ensures in
    let of_items = c.args.grounds.now.ok in
    let past = c.loop-place-test.false in
    passed_all c.args.round c.loop-place.place c.loop-place.any c.args.grounds.now.items c.loop-place.grounds.items (omega (arith, many, of_items, past)) c.loop-place.invariant
