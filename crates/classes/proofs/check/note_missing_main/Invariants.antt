use Rattle.classes.specs.Families.{tree_of}
use Rattle.classes.specs.Faults.{has_main}
use Rattle.syntax.specs.Views.{class_of}
use Rattle.std.proofs.Common.{drop, map, ◌≡◌}
use Rattle.classes.proofs.check.note_missing_main.Given as goal

abbrev pub invariant-loop-number : goal.invariant-loop-number
invariant-loop-number l =
    has_main (tree_of l.family) l.number (map class_of (drop l.number l.family.classes.now)) ≡ has_main (tree_of l.family) 0 (tree_of l.family)
