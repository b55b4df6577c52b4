use Rattle.std.proofs.Common.{◌+◌, ◌-◌, ◌++◌, refl, ap, ◌∙◌, append_assoc, arith}
use Rattle.schedule.specs.Made.{handed_on, handed_back, called}
use Rattle.schedule.proofs.Growing.{one_less}
use Rattle.schedule.proofs.making.put_calls.Goals as goal

pub loop-call-preserved : goal.loop-call-preserved
loop-call-preserved c =
    let n = c.args.n in
    let old = c.loop-call.schedule.items in
    one_less (λ k. called k n) (handed_on 6 1 1 (n - 1) ++ handed_back n) (λ k. refl) (c.args.schedule.now.items ++ called 7 n) old c.put_handed_back.new.schedule.items 7 c.loop-call._call
    (omega (arith, c.loop-call-test.true)) c.loop-call.invariant
    (c.in_ok-put_handed_back.ensures ∙ ap (λ l. l ++ handed_back n) c.in_ok-put_handed_on.ensures ∙ append_assoc old (handed_on 6 1 1 (n - 1)) (handed_back n))
