use Rattle.std.proofs.Common.{◌+◌, ◌-◌, ◌∷◌, [], ◌++◌, replicate, refl, arith}
use Rattle.schedule.proofs.Growing.{one_less}
use Rattle.schedule.proofs.making.put_times.Goals as goal

pub loop-entry-preserved : goal.loop-entry-preserved
loop-entry-preserved c =
    let t = c.args.thread in
    one_less (λ m. replicate m t) (t ∷ []) (λ m. refl) (c.args.schedule.now.items ++ replicate c.args.count t) c.loop-entry.schedule.items c.push.new.self.items c.args.count c.loop-entry._entry
    (omega (arith, c.loop-entry-test.true)) c.loop-entry.invariant c.in_ok-push.ensures.items
