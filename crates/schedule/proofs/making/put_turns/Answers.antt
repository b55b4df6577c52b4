use Rattle.std.proofs.Common.{◌+◌, ◌-◌, ◌∷◌, [], ◌++◌, refl, ap, ◌∙◌, append_assoc, arith}
use Rattle.schedule.specs.Made.{by_turns}
use Rattle.schedule.proofs.Growing.{one_less}
use Rattle.schedule.proofs.making.put_turns.Goals as goal

pub loop-turn-preserved : goal.loop-turn-preserved
loop-turn-preserved c =
    let p = c.args.first in
    let q = c.args.second in
    let old = c.loop-turn.schedule.items in
    one_less (λ m. by_turns m p q) (p ∷ q ∷ []) (λ m. refl) (c.args.schedule.now.items ++ by_turns c.args.count p q) old c.push-in-loop-turn.new.self.items c.args.count c.loop-turn._turn
    (omega (arith, c.loop-turn-test.true)) c.loop-turn.invariant
    (c.in_ok-push-2.ensures.items ∙ ap (λ l. l ++ q ∷ []) c.in_ok-push.ensures.items ∙ append_assoc old (p ∷ []) (q ∷ []))
