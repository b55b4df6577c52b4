use Rattle.std.proofs.Common.{sym, subst}
use Rattle.trace_commands.specs.NoteLines.{AreNotes, none}
use Rattle.trace_commands.proofs.notes.note_at_end.Goals as goal

pub returns : goal.returns
returns c = c.in_ok-add_begin.ensures (subst (AreNotes c.args.name.now) (sym c.new-text.ensures.items) none)
