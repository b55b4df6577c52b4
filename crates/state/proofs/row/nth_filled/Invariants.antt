use Rattle.std.proofs.Common.{◌≡◌, ℕ, drop}
use Rattle.std.specs.Prelude.{slice_get}
use Rattle.state.specs.Slots.{slots_entries}
use Rattle.state.proofs.row.nth_filled.Given as goal

-- the entry is that of the slots from this count on
abbrev pub invariant-loop-count : goal.invariant-loop-count
invariant-loop-count g l = (t : ℕ) → slice_get (slots_entries t l.count (drop l.count l.slots)) l.left ≡ slice_get (slots_entries t 0 l.slots) l.place
