use Rattle.classes.specs.Families.{heading_data, tree_of}
use Rattle.classes.specs.Overriding.{headings}
use Rattle.syntax.specs.Views.{member_of}
use Rattle.std.proofs.Common.{drop, map, ◌++◌, ◌≡◌}
use Rattle.classes.proofs.overriding.headings_of.Given as goal

abbrev pub invariant-loop-member : goal.invariant-loop-member
invariant-loop-member l =
    map heading_data l.row.items ++ headings (tree_of l.family) l.class (map member_of (drop l.member-index l.members)) ≡ headings (tree_of l.family) l.class (map member_of l.members)
