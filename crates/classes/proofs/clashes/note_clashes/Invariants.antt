use Rattle.classes.specs.Families.{tree_of, heading_data, class_headings, rows_data}
use Rattle.classes.specs.Faults.{override_faults}
use Rattle.classes.specs.Lines.{ancestors_of}
use Rattle.classes.specs.Noted.{noted}
use Rattle.std.proofs.Common.{drop, map, ◌≡◌}
use Rattle.classes.proofs.clashes.note_clashes.Given as goal

abbrev pub invariant-loop-one : goal.invariant-loop-one
invariant-loop-one l =
    noted l.found (override_faults (class_headings (rows_data l.inheritance.headings.now)) (ancestors_of (tree_of l.inheritance.family.now) l.number) (map heading_data (drop l.one-index l.own)))
    ≡ noted l.fn.first (override_faults (class_headings (rows_data l.inheritance.headings.now)) (ancestors_of (tree_of l.inheritance.family.now) l.number) (map heading_data l.own))
