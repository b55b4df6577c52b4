use Rattle.classes.specs.Members.{finals_of, has_none}
use Rattle.syntax.specs.Views.{member_of}
use Rattle.std.proofs.Common.{drop, map, ◌≡◌}
use Rattle.classes.proofs.constructors.has_final.Given as goal

abbrev pub invariant-loop-member : goal.invariant-loop-member
invariant-loop-member l =
    has_none (finals_of (map member_of (drop l.member-index l.members))) ≡ has_none (finals_of (map member_of l.members))
