use Rattle.std.proofs.Common.{◌≡◌, take}
use Rattle.state.proofs.row.copy_slots.Given as goal

abbrev pub invariant-loop-slot : goal.invariant-loop-slot
invariant-loop-slot g l = l.copies.items ≡ take l.slot-index l.slots
