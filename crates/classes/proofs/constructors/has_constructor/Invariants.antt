use Rattle.std.proofs.Common.{◌≡◌, drop, map}
use Rattle.std.specs.List.{list_any}
use Rattle.syntax.specs.Views.{member_of}
use Rattle.classes.specs.Members.{is_constructor}
use Rattle.classes.proofs.constructors.has_constructor.Given as goal

abbrev pub invariant-loop-member : goal.invariant-loop-member
invariant-loop-member l =
    list_any is_constructor (map member_of (drop l.member-index l.members)) ≡ list_any is_constructor (map member_of l.members)
