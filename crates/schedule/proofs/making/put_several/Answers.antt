use Rattle.std.proofs.Common.{◌≡◌, ℕ, ◌+◌, ◌-◌, ◌++◌, List, replicate, refl, ap, sym, ◌∙◌, append_assoc, append-nil, arith}
use Rattle.schedule.specs.Made.{each_once, each_times, handed_on, called}
use Rattle.schedule.proofs.Growing.{one_less}
use Rattle.schedule.proofs.making.put_several.Goals as goal

pub loop-round-preserved : goal.loop-round-preserved
loop-round-preserved c =
    let n = c.args.n in
    one_less (λ k. each_times k n) (each_once 1 n) (λ k. refl) (c.args.schedule.now.items ++ each_times 5 n) c.loop-round.schedule.items c.put_each.new.schedule.items 5 c.loop-round._round
    (omega (arith, c.loop-round-test.true)) c.loop-round.invariant c.in_ok-put_each.ensures

-- five pieces, one behind the other
five : (old a b c d e : List ℕ) → old ++ a ++ b ++ c ++ d ++ e ≡ old ++ (a ++ b ++ c ++ d ++ e)
five old a b c d e =
    ap (λ l. l ++ e) (ap (λ l. l ++ d) (ap (λ l. l ++ c) (append_assoc old a b) ∙ append_assoc old (a ++ b) c) ∙ append_assoc old (a ++ b ++ c) d) ∙ append_assoc old (a ++ b ++ c ++ d) e

pub returns : goal.returns
returns c =
    let n = c.args.n in
    let old = c.args.schedule.now.items in
    let first : c.loop-round.schedule.items ≡ old ++ each_times 5 n =
    sym (append-nil c.loop-round.schedule.items) ∙ ap (λ k. c.loop-round.schedule.items ++ each_times k n) (let e : 0 ≡ 5 - c.loop-round._round = omega (arith, c.loop-round-test.false) in e) ∙ c.loop-round.invariant in
    c.in_ok-put_times-2.ensures
    ∙ ap (λ l. l ++ replicate 3 n) (c.in_ok-put_handed_on.ensures
    ∙ ap (λ l. l ++ handed_on 3 4 1 (n - 1)) (c.in_ok-put_calls.ensures
    ∙ ap (λ l. l ++ called 7 n) (c.in_ok-put_times.ensures
    ∙ ap (λ l. l ++ replicate 7 1) first)))
    ∙ five old (each_times 5 n) (replicate 7 1) (called 7 n) (handed_on 3 4 1 (n - 1)) (replicate 3 n)
