use Rattle.std.proofs.Common.{◌≡◌, ◌-◌, ℕ, suc, length}
use Rattle.explain.specs.OneFinal.{has_mark}
use Rattle.explain.proofs.final_fields.mark.Given as goal

-- there is room for more marks, and the same ones are set
abbrev pub invariant-marks : goal.invariant-marks
invariant-marks l = (f : ℕ) → has_mark l.marks.items f ≡ has_mark l.fn.marks.items f

-- the room that is still to be made
abbrev pub decreases-marks : goal.decreases-marks
decreases-marks l = suc l.place - length l.marks.items
