use Rattle.std.proofs.Common.{◌≡◌, ◌≤◌, length}
use Rattle.std.specs.Prelude.{drop}
use Rattle.serialise.specs.Entries.{entries_of}
use Rattle.serialise.specs.UnitMaps.{unit_maps, maps_of}
use Rattle.serialise.proofs.units.unit_tables.Given as goal

abbrev pub invariant-loop-place : goal.invariant-loop-place
invariant-loop-place l = (l.place ≤ length l.steps) × (maps_of l.tables ≡ unit_maps (entries_of l.place (drop l.place l.steps)))

abbrev pub decreases-loop-place : goal.decreases-loop-place
decreases-loop-place l = l.place
