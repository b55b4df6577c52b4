use Rattle.std.proofs.Common.{◌≡◌, ◌≤◌, ◌-◌, ℕ, vec_len}
use Rattle.std.specs.Prelude.{max}
use Rattle.state.specs.Slots.{slot_at, filled_in}
use Rattle.state.proofs.row.reach.Given as goal

abbrev pub invariant-loop-slots : goal.invariant-loop-slots
invariant-loop-slots g l =
    ((c : ℕ) → slot_at l.slots.items c ≡ slot_at l.initial.slots.items c)
    × (filled_in l.slots.items ≡ filled_in l.initial.slots.items)
    × (vec_len l.slots ≤ max l.at (vec_len l.initial.slots))

abbrev pub decreases-loop-slots : goal.decreases-loop-slots
decreases-loop-slots g l = l.at - vec_len l.slots
