use Rattle.std.proofs.Common.{◌≡◌, drop, length, map}
use Rattle.std.specs.Vec.Iter.{into_iter_items, into_iter_len}
use Rattle.syntax.specs.Views.{class_of}
use Rattle.classes.specs.Own.{all_own_names}
use Rattle.classes.specs.Building.{parts_data, with_classes, parts_from}
use Rattle.classes.proofs.build.parts_of.Given as goal

abbrev pub invariant-loop-own : goal.invariant-loop-own
invariant-loop-own l =
    (with_classes (map class_of l.classes) l.lineup.aboves.items l.names (parts_data l.parts) (map class_of (drop l.number l.classes)) ≡ parts_from l.names (map class_of l.classes))
    × (into_iter_items l.own-iterator ≡ all_own_names (map class_of (drop l.number l.classes)))
    × (into_iter_len l.own-iterator ≡ length (into_iter_items l.own-iterator))
