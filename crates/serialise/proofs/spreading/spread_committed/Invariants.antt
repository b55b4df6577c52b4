use Rattle.std.proofs.Common.{◌≡◌, ◌++◌}
use Rattle.std.specs.Prelude.{drop}
use Rattle.serialise.specs.UnitMaps.{maps_of}
use Rattle.serialise.specs.Spreading.{spread_committed}
use Rattle.serialise.proofs.spreading.spread_committed.Given as goal

abbrev pub invariant-loop-place : goal.invariant-loop-place
invariant-loop-place l = l.order.items ++ spread_committed (maps_of l.tables).sizes l.place (drop l.place l.steps) ≡ l.initial.order.items ++ spread_committed (maps_of l.tables).sizes 0 l.steps
