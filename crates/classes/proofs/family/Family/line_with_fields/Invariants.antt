use Rattle.std.proofs.Common.{◌++◌, ◌≡◌, length}
use Rattle.classes.specs.Climbs.{fields_above}
use Rattle.classes.specs.Families.{tree_of}
use Rattle.classes.specs.Lines.{ancestors}
use Rattle.classes.proofs.family.Family.line_with_fields.Given as goal

abbrev pub invariant-loop-left : goal.invariant-loop-left
invariant-loop-left l =
    let tree = tree_of l.self in
    l.line.items ++ ancestors (fields_above tree) l.left l.next ≡ ancestors (fields_above tree) (length tree) (fields_above tree l.number)

abbrev pub decreases-loop-left : goal.decreases-loop-left
decreases-loop-left l = l.left
