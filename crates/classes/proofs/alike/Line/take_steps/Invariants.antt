use Rattle.std.proofs.Common.{drop, ◌≡◌}
use Rattle.classes.specs.Alike.{well_after_all}
use Rattle.classes.specs.Families.{rows_data, class_headings}
use Rattle.classes.specs.LineViews.{line_state}
use Rattle.classes.proofs.alike.Line.take_steps.Given as goal

-- it is left to the rest
abbrev pub invariant-loop-step : goal.invariant-loop-step
invariant-loop-step l =
    well_after_all (class_headings (rows_data l.rows)) l.names (drop l.step-index l.steps) (line_state l.self) l.well.items
    ≡ well_after_all (class_headings (rows_data l.rows)) l.names l.steps (line_state l.fn.self) l.fn.well.items
