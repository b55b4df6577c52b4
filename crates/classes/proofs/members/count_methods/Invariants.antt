use Rattle.classes.specs.Members.{method_names}
use Rattle.syntax.specs.Views.{member_of}
use Rattle.std.proofs.Common.{drop, length, map, ◌+◌, ◌≡◌, ◌≤◌}
use Rattle.classes.proofs.members.count_methods.Given as goal

abbrev pub invariant-loop-member : goal.invariant-loop-member
invariant-loop-member l =
    (l.count ≤ l.member-index) × (l.count + length (method_names (map member_of (drop l.member-index l.members))) ≡ length (method_names (map member_of l.members)))
