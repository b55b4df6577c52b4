use Rattle.std.proofs.Common.{ap, ◌∙◌, ◌++◌}
use Rattle.serialise.specs.UnitMaps.{maps_of}
use Rattle.serialise.specs.Spreading.{spread_committed, spread_threads}
use Rattle.serialise.proofs.Spreads.{opened_spread}
use Rattle.serialise.proofs.spreading.in_open_order.Goals as goal

pub returns : goal.returns
returns c =
    c.in_ok-spread_threads.ensures
    ∙ (λ i. (c.in_ok-spread_committed.ensures ∙ ap (λ xs. xs ++ spread_committed (maps_of c.in_ok-tables.tables).sizes 0 c.args.steps.now) c.in_ok-order.ensures.items) i ++ spread_threads 0 (c.deref.ensures.value i))
    ∙ opened_spread c.args.steps.now c.in_ok-lefts.lefts.items (maps_of c.in_ok-tables.tables) c.in_ok-tables.ensures c.in_ok-lefts.ensures
