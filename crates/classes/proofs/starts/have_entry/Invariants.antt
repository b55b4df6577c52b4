use Rattle.classes.specs.Families.{members_along}
use Rattle.classes.specs.Members.{is_entry}
use Rattle.syntax.specs.Views.{class_of}
use Rattle.std.proofs.Common.{drop, map, ◌≡◌}
use Rattle.std.specs.List.{list_any}
use Rattle.classes.proofs.starts.have_entry.Given as goal

abbrev pub invariant-loop-number : goal.invariant-loop-number
invariant-loop-number l =
    list_any (is_entry l.text) (members_along (map class_of l.classes) (drop l.number-index l.order)) ≡ list_any (is_entry l.text) (members_along (map class_of l.classes) l.order)
