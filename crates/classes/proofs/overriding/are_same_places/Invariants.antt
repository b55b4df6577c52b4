use Rattle.classes.specs.Families.{place_data}
use Rattle.classes.specs.Overriding.{are_same_places}
use Rattle.std.proofs.Common.{drop, map, ◌≡◌}
use Rattle.classes.proofs.overriding.are_same_places.Given as goal

abbrev pub invariant-loop-field : goal.invariant-loop-field
invariant-loop-field l =
    are_same_places (map place_data (drop l.field-index l.one)) (map place_data l.rest) ≡ are_same_places (map place_data l.one) (map place_data l.other)
