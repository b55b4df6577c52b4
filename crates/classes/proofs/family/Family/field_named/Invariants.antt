use Rattle.classes.specs.Climbs.{fields_above}
use Rattle.classes.specs.Families.{tree_of}
use Rattle.classes.specs.Lines.{ancestors, ancestors_of}
use Rattle.classes.specs.Overriding.{field_along}
use Rattle.std.proofs.Common.{◌≡◌}
use Rattle.classes.proofs.family.Family.field_named.Given as goal

abbrev pub invariant-loop-left : goal.invariant-loop-left
invariant-loop-left l =
    field_along (tree_of l.self) (ancestors (fields_above (tree_of l.self)) l.left l.next) l.name ≡ field_along (tree_of l.self) (ancestors_of (tree_of l.self) l.number) l.name

abbrev pub decreases-loop-left : goal.decreases-loop-left
decreases-loop-left l = l.left
