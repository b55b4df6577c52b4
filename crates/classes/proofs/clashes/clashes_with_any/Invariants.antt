use Rattle.classes.specs.Families.{heading_data}
use Rattle.classes.specs.Overriding.{clashes}
use Rattle.std.proofs.Common.{drop, map, ◌≡◌}
use Rattle.std.specs.List.{list_any}
use Rattle.classes.proofs.clashes.clashes_with_any.Given as goal

abbrev pub invariant-loop-other : goal.invariant-loop-other
invariant-loop-other l =
    list_any (clashes (heading_data l.one)) (map heading_data (drop l.other-index l.others)) ≡ list_any (clashes (heading_data l.one)) (map heading_data l.others)
