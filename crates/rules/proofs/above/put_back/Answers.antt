-- No own method yet, one more, and all.
use Rattle.std.proofs.Common.{◌<◌, ◌∙◌, Some, sym, subst, arith}
use Rattle.rules.specs.Above.{above_class, nearest_from, own_with}
use Rattle.rules.proofs.AboveLemmas.{turning_none, turning_more, turning_all, own_low, own_high, own_alone, own_at, none_same}
use Rattle.rules.proofs.above.put_back.Goals as goal

pub loop-place-init : goal.loop-place-init
loop-place-init c =
    let p = c.args.program.now in
    let k = c.args.class in
    record {
      low = omega (arith, c.own_first-place.ensures);
      end = c.own_end-place-end.ensures;
      turning = turning_none (own_with p k) (nearest_from p (Some k)) (nearest_from p (above_class p k)) c.own_first-place.result c.args.current.now
          (λ name m o. let low = own_low p k name m o in omega (arith, low, c.own_first-place.ensures)) c.requires.current;
    }

pub loop-place-preserved : goal.loop-place-preserved
loop-place-preserved c =
    let p = c.args.program.now in
    let k = c.args.class in
    let place = c.loop-place.place in
    let name = c.name_at-name.result in
    let own = own_at p k place name c.loop-place.invariant.low (subst (λ e. place < e) c.loop-place.invariant.end c.loop-place-test.true) c.name_at-name.ensures in
    record {
      low = omega (arith, c.loop-place.invariant.low);
      end = c.loop-place.invariant.end;
      turning = turning_more (own_with p k) (nearest_from p (Some k)) (nearest_from p (above_class p k)) place name c.loop-place.current c.put_known.new.cells c.known_at.result
          (λ other o. own_alone p k name place other c.name_at-name.ensures o)
          (λ found is. sym own.above ∙ c.requires.noted place found (sym c.known_at.ensures ∙ is)) c.put_known.ensures.here c.put_known.ensures.others c.loop-place.invariant.turning;
    }

pub returns : goal.returns
returns c =
    let p = c.args.program.now in
    let k = c.args.class in
    turning_all (own_with p k) (nearest_from p (Some k)) (nearest_from p (above_class p k)) c.loop-place.place c.loop-place.current
    (λ name m o. let high = own_high p k name m o in omega (arith, high, c.loop-place.invariant.end, c.loop-place-test.false)) (λ name none. sym (none_same p k c.requires.passes name none)) c.loop-place.invariant.turning
