use Rattle.trace_commands.proofs.NoteLines.{all_notes, no_notes}
use Rattle.trace_commands.proofs.notes.notes_on.Goals as goal

pub returns-in-HasEnded : goal.returns-in-HasEnded
returns-in-HasEnded c =
    let name = c.args.name.now in
    let line = c.args.walk.now.line in
    let which = no_notes name line c.args.why c.new.result.items c.in-HasEnded.is c.new.ensures.items in
    record { notes = all_notes name line c.args.why c.new.result.items which; which = which }
