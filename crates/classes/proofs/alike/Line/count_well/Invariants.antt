use Rattle.std.proofs.Common.{drop, map, ◌≡◌, ◌+◌}
use Rattle.classes.specs.Alike.{count_well}
use Rattle.classes.specs.Families.{heading_data}
use Rattle.classes.specs.LineViews.{line_state}
use Rattle.classes.proofs.alike.Line.count_well.Given as goal

-- it is left to the rest
abbrev pub invariant-loop-one : goal.invariant-loop-one
invariant-loop-one l =
    (l.count ≡ l.one-index)
    × (l.count + count_well l.names (line_state l.self).known (map heading_data (drop l.one-index l.row)) ≡ count_well l.names (line_state l.self).known (map heading_data l.row))
