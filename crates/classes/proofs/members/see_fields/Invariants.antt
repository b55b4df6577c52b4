use Rattle.classes.specs.Members.{field_names}
use Rattle.classes.specs.Names.{distinct_after}
use Rattle.syntax.specs.Views.{member_of}
use Rattle.std.proofs.Common.{drop, map, ◌≡◌}
use Rattle.classes.proofs.members.see_fields.Given as goal

abbrev pub invariant-loop-member : goal.invariant-loop-member
invariant-loop-member l =
    distinct_after l.seen (field_names (map member_of (drop l.member-index l.members))) ≡ distinct_after l.initial.seen (field_names (map member_of l.members))
