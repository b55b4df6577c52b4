use Rattle.classes.specs.Families.{first_places, new_places}
use Rattle.classes.specs.Faults.{twice_faults}
use Rattle.classes.specs.Members.{class_names}
use Rattle.classes.specs.Names.{distinct, distinct_after, repeats_after}
use Rattle.classes.specs.Noted.{noted}
use Rattle.classes.specs.declared.fault.ClassFault.TheVariants.{Twice}
use Rattle.syntax.specs.Views.{class_of}
use Rattle.std.proofs.Common.{None, drop, map, ◌++◌, ◌≡◌}
use Rattle.classes.proofs.check.note_class_names.Given as goal

abbrev pub invariant-loop-number : goal.invariant-loop-number
invariant-loop-number l =
    (noted l.found (map Twice (repeats_after l.names (class_names (map class_of (drop l.number l.classes)))))
    ≡ noted None (twice_faults (class_names (map class_of l.classes))))
    × (distinct_after l.names (class_names (map class_of (drop l.number l.classes))) ≡ distinct (class_names (map class_of l.classes)))
    × (l.firsts.items ++ new_places l.names l.number (class_names (map class_of (drop l.number l.classes))) ≡ first_places (class_names (map class_of l.classes)))
