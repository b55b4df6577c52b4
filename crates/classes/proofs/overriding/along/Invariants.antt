use Rattle.classes.specs.Families.{place_data, tree_of}
use Rattle.classes.specs.Overriding.{reach_along, reach_from}
use Rattle.std.proofs.Common.{drop, map, ◌≡◌}
use Rattle.classes.proofs.overriding.along.Given as goal

abbrev pub invariant-loop-name : goal.invariant-loop-name
invariant-loop-name l =
    reach_along (tree_of l.family) (record { slot = l.slot; fields = map place_data l.fields.items; class = l.place }) (drop l.name-index l.names) ≡ reach_along (tree_of l.family) (reach_from l.slot l.class) l.names
