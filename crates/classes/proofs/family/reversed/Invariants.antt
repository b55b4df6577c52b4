use Rattle.std.proofs.Common.{length, reverse, take, ◌++◌, ◌≡◌, ◌≤◌}
use Rattle.classes.proofs.family.reversed.Given as goal

abbrev pub invariant-loop-left : goal.invariant-loop-left
invariant-loop-left l =
    (l.left ≤ length l.numbers) × (l.found.items ++ reverse (take l.left l.numbers) ≡ reverse l.numbers)

abbrev pub decreases-loop-left : goal.decreases-loop-left
decreases-loop-left l = l.left
