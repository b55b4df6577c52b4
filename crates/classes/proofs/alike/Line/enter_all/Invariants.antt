use Rattle.std.proofs.Common.{drop, map, ◌≡◌}
use Rattle.classes.specs.Alike.{with_headings}
use Rattle.classes.specs.Families.{heading_data}
use Rattle.classes.specs.LineViews.{line_state}
use Rattle.classes.proofs.alike.Line.enter_all.Given as goal

-- it is left to the rest
abbrev pub invariant-loop-one : goal.invariant-loop-one
invariant-loop-one l =
    with_headings l.names (map heading_data (drop l.one-index l.row)) (line_state l.self) ≡ with_headings l.names (map heading_data l.row) (line_state l.fn.self)
