use Rattle.std.proofs.lemmas.Result.{on_ok_weaker}
use Rattle.trace_commands.proofs.NoteLines.{one_note}
use Rattle.trace_commands.proofs.notes.add_commit.Goals as goal

pub returns : goal.returns
returns c = on_ok_weaker c.add_note.result (λ is are. one_note _ _ _ _ is are) c.add_note.ensures.noted
