-- What is known above an own method is noted for it.
use Rattle.std.proofs.Common.{◌<◌, ◌∙◌, sym, subst, arith}
use Rattle.rules.specs.Above.{nearest_above}
use Rattle.rules.proofs.AboveLemmas.{own_at, right_more}
use Rattle.rules.proofs.above.note_own.Goals as goal

pub loop-place-preserved : goal.loop-place-preserved
loop-place-preserved c =
    let p = c.args.program.now in
    let place = c.loop-place.place in
    let name = c.name_at-name.result in
    let own = own_at p c.args.class place name c.loop-place.invariant.low (subst (λ e. place < e) c.loop-place.invariant.end c.loop-place-test.true) c.name_at-name.ensures in
    record {
      low = omega (arith, c.loop-place.invariant.low);
      end = c.loop-place.invariant.end;
      right = right_more (nearest_above p) c.loop-place.noted c.put_known.new.cells place c.known_at.result c.loop-place.invariant.right
          (λ found is. own.above ∙ c.requires.current name found (sym c.known_at.ensures ∙ is)) c.put_known.ensures.here c.put_known.ensures.others;
    }
