-- The line is judged, and the next one begins.
use Rattle.std.proofs.Common.{ap, ◌∙◌}
use Rattle.logs.specs.State.{known_of}
use Rattle.logs.specs.Views.{guards_data}
use Rattle.logs.specs.Said.{said_data, said_of}
use Rattle.logs.specs.Stops.{stand_of}
use Rattle.logs.proofs.Rows.{row_goes}
use Rattle.logs.proofs.walk.Walk.end_line.Goals as goal

pub returns-in-Ok-next_line-clause-walked : goal.returns-in-Ok-next_line-clause-walked
returns-in-Ok-next_line-clause-walked c = row_goes (guards_data c.args.guards.now) (stand_of c.args.self.now) (stand_of c.next_line.new.self) (said_data c.in-Some.said) (known_of c.note.new.self)
    (c.in-Some.ensures ∙ ap said_of c.as_slice.ensures.value) c.in-Ok.ensures (ap known_of c.next_line.ensures.known) c.in-Ok-next_line.ensures.row c.in-Ok-next_line.ensures.next
