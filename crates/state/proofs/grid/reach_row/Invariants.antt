use Rattle.std.proofs.Common.{◌≡◌, ◌+◌, ◌-◌, ◌≤◌, vec_len}
use Rattle.std.specs.Prelude.{max}
use Rattle.state.specs.declared.value.Address.{Address}
use Rattle.state.specs.Slots.{grid_at}
use Rattle.state.proofs.grid.reach_row.Given as goal

abbrev pub invariant-rows : goal.invariant-rows
invariant-rows g l = ((b : Address) → grid_at l.rows.items b ≡ grid_at l.initial.rows.items b) × (vec_len l.rows ≤ max (l.thread + 1) (vec_len l.initial.rows))

abbrev pub decreases-rows : goal.decreases-rows
decreases-rows g l = l.thread + 1 - vec_len l.rows
