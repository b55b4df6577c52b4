use Rattle.classes.specs.Families.{tree_of}
use Rattle.classes.specs.Faults.{class_faults_from}
use Rattle.classes.specs.Noted.{noted}
use Rattle.syntax.specs.Views.{class_of}
use Rattle.std.proofs.Common.{drop, map, ◌≡◌}
use Rattle.classes.proofs.check.note_classes.Given as goal

abbrev pub invariant-loop-number : goal.invariant-loop-number
invariant-loop-number l =
    noted l.found (class_faults_from (tree_of l.inheritance.family.now) l.number (map class_of (drop l.number l.inheritance.family.now.classes.now)))
    ≡ noted l.fn.first (class_faults_from (tree_of l.inheritance.family.now) 0 (tree_of l.inheritance.family.now))
