use Rattle.std.proofs.Common.{◌≡◌, ◌++◌}
use Rattle.std.specs.Prelude.{drop}
use Rattle.serialise.specs.UnitMaps.{maps_of, spread}
use Rattle.serialise.proofs.order.spread.Given as goal

abbrev pub invariant-loop-place : goal.invariant-loop-place
invariant-loop-place l = l.order.items ++ spread (maps_of l.tables).sizes l.place (drop l.place l.steps) ≡ spread (maps_of l.tables).sizes 0 l.steps
