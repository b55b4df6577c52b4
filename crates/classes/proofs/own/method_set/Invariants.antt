use Rattle.std.proofs.Common.{◌≡◌, drop, map}
use Rattle.syntax.specs.Views.{member_of}
use Rattle.classes.specs.Names.{distinct, distinct_after}
use Rattle.classes.specs.Members.{method_names}
use Rattle.classes.proofs.own.method_set.Given as goal

abbrev pub invariant-loop-member : goal.invariant-loop-member
invariant-loop-member l =
    distinct_after l.names (method_names (map member_of (drop l.member-index l.members))) ≡ distinct (method_names (map member_of l.members))
