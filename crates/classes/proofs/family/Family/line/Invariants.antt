use Rattle.classes.specs.Families.{tree_of}
use Rattle.classes.specs.Lines.{above, ancestors, ancestors_of}
use Rattle.std.proofs.Common.{◌++◌, ◌≡◌}
use Rattle.classes.proofs.family.Family.line.Given as goal

abbrev pub invariant-loop-left : goal.invariant-loop-left
invariant-loop-left l =
    l.line.items ++ ancestors (above (tree_of l.self)) l.left l.next ≡ ancestors_of (tree_of l.self) l.number

abbrev pub decreases-loop-left : goal.decreases-loop-left
decreases-loop-left l = l.left
