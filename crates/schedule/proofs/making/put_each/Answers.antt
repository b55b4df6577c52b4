use Rattle.std.proofs.Common.{◌+◌, ◌-◌, ◌∷◌, [], ◌++◌, refl, arith}
use Rattle.schedule.specs.Made.{each_once}
use Rattle.schedule.proofs.Growing.{one_on}
use Rattle.schedule.proofs.making.put_each.Goals as goal

pub loop-worker-preserved : goal.loop-worker-preserved
loop-worker-preserved c =
    one_on each_once (λ k. k ∷ []) (λ k m. refl) (c.args.schedule.now.items ++ each_once 1 c.args.n) c.loop-worker.schedule.items c.push.new.self.items (c.args.n + 1) c.loop-worker.worker
    (omega (arith, c.loop-worker-test.true)) c.loop-worker.invariant c.in_ok-push.ensures.items
