-- One method more.
use Rattle.std.proofs.Common.{get_or, ◌∙◌}
use Rattle.rules.specs.Near.{rel_of}
use Rattle.refutation.specs.Overs.{SaysNoMore}
use Rattle.refutation.specs.Tables.{said_by}
use Rattle.refutation.proofs.RiseLemmas.{but_more}
use Rattle.refutation.proofs.WaitLemmas.{get_or_any}
use Rattle.refutation.proofs.waiting.wake_overridden.Goals as goal

pub loop-place-preserved : goal.loop-place-preserved
loop-place-preserved c =
    let rel = rel_of c.args.floors.now.sets.now in
    let methods = c.args.methods.now in
    let k = c.loop-place.place-index in
    record {
      size = c.in_ok-wake_below.ensures.size ∙ c.loop-place.invariant.size;
      woken = but_more (SaysNoMore rel (said_by rel c.args.floors.now.tables.items) c.args.risen) c.args.waits.now c.loop-place.waits c.wake_below.new.waits methods k (get_or methods k 0) c.loop-place-test.true
          (get_or_any methods k 0 (get_or methods k 0) c.loop-place-test.true) c.loop-place.invariant.woken c.in_ok-wake_below.ensures.woken;
    }
