use Rattle.classes.specs.Families.{members_along}
use Rattle.classes.specs.Members.{finals_of, has_none}
use Rattle.syntax.specs.Views.{class_of}
use Rattle.std.proofs.Common.{drop, map, ◌≡◌}
use Rattle.classes.proofs.constructors.has_finals.Given as goal

abbrev pub invariant-loop-number : goal.invariant-loop-number
invariant-loop-number l =
    has_none (finals_of (members_along (map class_of l.classes) (drop l.number-index l.order))) ≡ has_none (finals_of (members_along (map class_of l.classes) l.order))
