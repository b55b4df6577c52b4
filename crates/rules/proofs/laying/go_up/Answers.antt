-- The range ends, or none has begun.
use Rattle.std.proofs.Common.{◌-◌, sym, ap, refl, ◌∙◌}
use Rattle.rules.proofs.RangeLemmas.{laid_up, laid_past}
use Rattle.rules.proofs.laying.go_up.Goals as goal

pub returns-in_default : goal.returns-in_default
returns-in_default c nexts order long laid = laid_past nexts c.args.node order c.args.begun.now c.args.ranges.now (sym c.begun_at.ensures ∙ c.in_default.is) laid

pub returns : goal.returns
returns c nexts order long laid =
    let first = c.in-Some.first in
    laid_up nexts c.args.node first order c.args.begun.now c.put_begun.new.begun c.args.ranges.now c.put_range.new.ranges (record { first = first; count = c.saturating_sub.result })
    refl (c.saturating_sub.ensures ∙ ap (λ n. n - first) long) (sym c.begun_at.ensures ∙ c.in-Some.is)
    c.put_range.ensures.here c.put_range.ensures.others c.put_begun.ensures.here c.put_begun.ensures.others laid
