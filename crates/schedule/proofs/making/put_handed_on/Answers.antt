use Rattle.std.proofs.Common.{◌+◌, ◌-◌, ◌++◌, replicate, refl, ap, ◌∙◌, append_assoc, arith}
use Rattle.schedule.specs.Made.{by_turns, handed, handed_on}
use Rattle.schedule.proofs.Growing.{one_on}
use Rattle.schedule.proofs.making.put_handed_on.Goals as goal

pub loop-worker-preserved : goal.loop-worker-preserved
loop-worker-preserved c =
    let w = c.loop-worker.worker in
    let old = c.loop-worker.schedule.items in
    one_on (handed_on c.args.both c.args.alone) (handed c.args.both c.args.alone) (λ k m. refl) (c.args.schedule.now.items ++ handed_on c.args.both c.args.alone 1 (c.args.n - 1)) old c.put_times.new.schedule.items c.args.n w
    (omega (arith, c.loop-worker-test.true)) c.loop-worker.invariant
    (c.in_ok-put_times.ensures ∙ ap (λ l. l ++ replicate c.args.alone (w + 1)) c.in_ok-put_turns.ensures ∙ append_assoc old (by_turns c.args.both w (w + 1)) (replicate c.args.alone (w + 1)))
