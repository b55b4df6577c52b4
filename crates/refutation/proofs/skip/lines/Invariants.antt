use Rattle.std.proofs.Common.{◌≡◌}
use Rattle.refutation.specs.Passing.{pass_lines}
use Rattle.refutation.proofs.skip.lines.Given as goal

abbrev pub invariant-loop-left : goal.invariant-loop-left
invariant-loop-left l = pass_lines l.count l.text ≡ pass_lines l.left l.rest

abbrev pub decreases-loop-left : goal.decreases-loop-left
decreases-loop-left l = l.left
