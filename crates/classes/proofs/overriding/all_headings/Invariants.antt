use Rattle.classes.specs.Families.{all_headings, rows_data, tree_of}
use Rattle.syntax.specs.Views.{class_of}
use Rattle.std.proofs.Common.{drop, map, ◌++◌, ◌≡◌}
use Rattle.classes.proofs.overriding.all_headings.Given as goal

abbrev pub invariant-loop-number : goal.invariant-loop-number
invariant-loop-number l =
    rows_data l.rows.items ++ all_headings (tree_of l.family) l.number (map class_of (drop l.number l.family.classes.now)) ≡ all_headings (tree_of l.family) 0 (tree_of l.family)
