use Rattle.std.proofs.Common.{◌≡◌, ◌≤◌, ℕ, length}
use Rattle.std.specs.Prelude.{drop}
use Rattle.serialise.specs.Tables.{value_or}
use Rattle.serialise.specs.UnitMaps.{maps_of}
use Rattle.serialise.specs.Spreading.{left_sizes}
use Rattle.serialise.proofs.spreading.left_sizes.Given as goal

abbrev pub invariant-loop-place : goal.invariant-loop-place
invariant-loop-place l = (l.place ≤ length l.steps) × ((other : ℕ) → value_or 0 l.lefts.items other ≡ left_sizes (maps_of l.tables).sizes l.place (drop l.place l.steps) other)

abbrev pub decreases-loop-place : goal.decreases-loop-place
decreases-loop-place l = l.place
