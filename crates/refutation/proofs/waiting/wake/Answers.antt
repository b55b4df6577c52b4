-- One method more waits.
use Rattle.std.proofs.Common.{get_or, refl, arith, ◌∙◌}
use Rattle.refutation.proofs.WaitLemmas.{woken_none, woken_more, woken_all, get_or_any}
use Rattle.refutation.proofs.waiting.wake.Goals as goal

pub loop-method-init : goal.loop-method-init
loop-method-init c = record { size = refl; woken = woken_none c.args.waits.now }

pub loop-method-preserved : goal.loop-method-preserved
loop-method-preserved c =
    let k = c.loop-method.method-index in
    record {
      size = c.wake.ensures.size ∙ c.loop-method.invariant.size;
      woken = woken_more c.args.waits.now c.loop-method.waits c.wake.new.self c.args.methods.now k (get_or c.args.methods.now k 0) c.loop-method-test.true
          (get_or_any c.args.methods.now k 0 (get_or c.args.methods.now k 0) c.loop-method-test.true) c.loop-method.invariant.woken c.wake.ensures.woken;
    }

pub returns-clause-woken : goal.returns-clause-woken
returns-clause-woken c = woken_all c.args.waits.now c.loop-method.waits c.args.methods.now c.loop-method.method-index (omega (arith, c.loop-method-test.false)) c.loop-method.invariant.woken
