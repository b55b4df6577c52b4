use Rattle.classes.specs.Members.{is_entry}
use Rattle.syntax.specs.Views.{member_of}
use Rattle.std.proofs.Common.{drop, map, ◌≡◌}
use Rattle.std.specs.List.{list_any}
use Rattle.classes.proofs.starts.has_entry.Given as goal

abbrev pub invariant-loop-member : goal.invariant-loop-member
invariant-loop-member l =
    list_any (is_entry l.text) (map member_of (drop l.member-index l.members)) ≡ list_any (is_entry l.text) (map member_of l.members)
