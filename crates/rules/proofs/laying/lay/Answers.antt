-- A step down, or a step up.
use Rattle.std.proofs.Common.{sym, subst, arith}
use Rattle.forest.specs.Walks.{after}
use Rattle.rules.specs.Ranges.{IsLaid, step_begin}
use Rattle.rules.proofs.ClauseLemmas.{on_ok}
use Rattle.rules.proofs.laying.lay.Goals as goal

pub returns-in-Down : goal.returns-in-Down
returns-in-Down c =
    on_ok c.go_down.result
    (λ goes nexts laid. subst (λ s. IsLaid nexts (after nexts s) c.go_down.new.order.items c.go_down.new.begun c.args.ranges.now) (sym c.in-Down.is)
    (goes nexts c.args.ranges.now (subst (λ s. IsLaid nexts (step_begin nexts s) c.args.order.now.items c.args.begun.now c.args.ranges.now) c.in-Down.is laid))) c.go_down.ensures

pub returns-in-Up : goal.returns-in-Up
returns-in-Up c nexts laid =
    subst (λ s. IsLaid nexts (after nexts s) c.args.order.now.items c.go_up.new.begun c.go_up.new.ranges) (sym c.in-Up.is)
    (c.go_up.ensures nexts c.args.order.now.items (omega (arith, c.len.ensures, c.args.order.now.ok.0))
    (subst (λ s. IsLaid nexts (step_begin nexts s) c.args.order.now.items c.args.begun.now c.args.ranges.now) c.in-Up.is laid))
