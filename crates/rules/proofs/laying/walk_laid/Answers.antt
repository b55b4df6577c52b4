-- Nothing is laid yet, and then all that the walk meets.
use Rattle.std.proofs.Common.{None, length, sym, ap, subst, refl, ◌∙◌, arith}
use Rattle.std.specs.Prelude.{slice_get}
use Rattle.forest.specs.Walks.{Leads}
use Rattle.rules.specs.Ranges.{empty_range}
use Rattle.rules.proofs.RangeLemmas.{laid_none, written}
use Rattle.rules.proofs.laying.walk_laid.Goals as goal

pub returns : goal.returns
returns c m k range is low high =
    let nexts = c.args.nexts.now in
    let leads = subst (λ steps. Leads nexts None steps) (sym c.as_slice.ensures.value) c.in_ok-steps.ensures in
    let none = laid_none nexts (length nexts) (length nexts) c.new-order.result.items c.as_mut_slice.result.now c.as_mut_slice-2.result.now empty_range refl
    (c.as_mut_slice.ensures.value ∙ c.in_ok-begun.ensures) (c.as_mut_slice-2.ensures.value ∙ c.in_ok-ranges.ensures) in
    let back = written c.lay_all.new.ranges c.in_ok-ranges.ranges.items c.in_ok-ranges.ranges.len c.in_ok-ranges.ranges.ok.0
    (omega (arith, c.lay_all.auto.ranges, ap length c.as_mut_slice-2.ensures.value)) in
    c.in_ok-lay_all.ensures nexts leads none m k range (sym (ap (λ xs. slice_get xs m) back) ∙ is) low high
