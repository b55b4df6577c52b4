use Rattle.std.proofs.Common.{◌∙◌}
use Rattle.std.proofs.lemmas.Result.{IfOk-weaker}
use Rattle.serialise.specs.UnitMaps.{maps_of}
use Rattle.serialise.proofs.Spread.{units_spread}
use Rattle.serialise.proofs.order.in_order.Goals as goal

pub returns : goal.returns
returns c =
    IfOk-weaker c.spread.result _ _
    (λ order is. is ∙ units_spread (maps_of c.in_ok-tables.tables) c.args.steps.now c.in_ok-tables.ensures)
    c.spread.ensures
