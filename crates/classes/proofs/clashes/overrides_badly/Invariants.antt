use Rattle.std.proofs.Common.{◌≡◌}
use Rattle.classes.specs.Families.{tree_of, heading_data, rows_data, class_headings}
use Rattle.classes.specs.Lines.{above, ancestors, ancestors_of}
use Rattle.classes.specs.Overriding.{overrides_badly}
use Rattle.classes.proofs.clashes.overrides_badly.Given as goal

-- it is left to the classes that are left
abbrev pub invariant-loop-left : goal.invariant-loop-left
invariant-loop-left l =
    overrides_badly (class_headings (rows_data l.rows)) (ancestors (above (tree_of l.family)) l.left l.next) (heading_data l.one)
    ≡ overrides_badly (class_headings (rows_data l.rows)) (ancestors_of (tree_of l.family) l.number) (heading_data l.one)

abbrev pub decreases-loop-left : goal.decreases-loop-left
decreases-loop-left l = l.left
