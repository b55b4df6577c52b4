use Rattle.classes.specs.Families.{members_along}
use Rattle.classes.specs.Finals.{final_of}
use Rattle.classes.specs.Members.{finals_of}
use Rattle.syntax.specs.Views.{class_of}
use Rattle.std.proofs.Common.{drop, map, ◌++◌, ◌≡◌}
use Rattle.classes.proofs.constructors.final_fields.Given as goal

abbrev pub invariant-loop-number : goal.invariant-loop-number
invariant-loop-number l =
    map final_of l.finals.items ++ finals_of (members_along (map class_of l.classes) (drop l.number-index l.order)) ≡ finals_of (members_along (map class_of l.classes) l.order)
