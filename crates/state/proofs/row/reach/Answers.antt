use Rattle.std.proofs.Common.{ap, ◌∙◌, arith}
use Rattle.std.specs.Prelude.{None}
use Rattle.state.specs.Slots.{slot_at, filled_in}
use Rattle.state.proofs.Grids.{slot_at_more, filled_more}
use Rattle.state.proofs.row.reach.Goals as goal

pub loop-slots-preserved : goal.loop-slots-preserved
loop-slots-preserved g c =
    let e = c.in_ok-push.ensures.items in (
      (λ k. ap (λ xs. slot_at xs k) e ∙ slot_at_more c.loop-slots.slots.items k ∙ c.loop-slots.invariant.0 k),
      ap filled_in e ∙ filled_more c.loop-slots.slots.items None ∙ (let p = c.loop-slots.invariant.1 in omega arith),
      omega (arith, c.in_ok-push.ensures.len, c.loop-slots.invariant.2),
    )
