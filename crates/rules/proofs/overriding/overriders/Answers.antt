-- What the walk lays, where no method is missed; else the rows.
use Rattle.std.proofs.Common.{sym, ap, subst, ◌∙◌}
use Rattle.core_program.specs.Views.{program_of}
use Rattle.forest.specs.Walks.{above_in}
use Rattle.rules.specs.Overriding.{AreOverriders}
use Rattle.rules.specs.Ranges.{LieBelowNext}
use Rattle.rules.specs.Search.{rows_of}
use Rattle.rules.proofs.RangeLemmas.{ranges_exact}
use Rattle.rules.proofs.overriding.overriders.Goals as goal

pub returns-then-lie_below_next : goal.returns-then-lie_below_next
returns-then-lie_below_next c =
    let nexts = c.as_slice-nexts.result.now in
    let laid = c.in_ok-laid.laid in
    let tested = c.lie_below_next.ensures c.if-lie_below_next.true in
    let of_order = subst (λ order. LieBelowNext nexts order c.as_slice-2.result.now) c.as_slice.ensures.value tested in
    let all = subst (LieBelowNext nexts laid.order.items) c.as_slice-2.ensures.value of_order in
    ranges_exact nexts laid.order.items laid.ranges.items all c.args.program.now (λ m. ap (λ xs. above_in xs m) c.as_slice-nexts.ensures.value ∙ c.in_ok-noted.ensures m) c.in_ok-laid.ensures

pub returns : goal.returns
returns c = subst (AreOverriders (program_of c.args.program.now)) (sym (c.in_ok-laid-2.ensures ∙ ap rows_of c.as_slice-3.ensures.value)) c.in_ok-rows.ensures
