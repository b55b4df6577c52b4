use Rattle.std.proofs.Common.{◌≡◌}
use Rattle.classes.specs.Alike.{all_left}
use Rattle.classes.specs.LineViews.{line_state}
use Rattle.classes.proofs.alike.Line.leave_all.Given as goal

-- it is left to those that are left
abbrev pub invariant-loop-left : goal.invariant-loop-left
invariant-loop-left l = all_left l.left (line_state l.self) ≡ all_left l.count (line_state l.fn.self)

abbrev pub decreases-loop-left : goal.decreases-loop-left
decreases-loop-left l = l.left
