use Rattle.std.proofs.Common.{sym, subst}
use Rattle.trace_commands.specs.NoteLines.{AreNotes, AddsNote, none}
use Rattle.trace_commands.proofs.NoteLines.{one_note}
use Rattle.trace_commands.proofs.notes.notes_on_cut.Goals as goal

pub returns : goal.returns
returns c =
    let name = c.args.name.now in
    let before = c.add_commit.new.text.items in
    let text = c.add_help.new.text.items in
    let begun = c.in_ok-add_begin.ensures (subst (AreNotes name) (sym c.new-text.ensures.items) none) in
    let noted = subst (λ line. AddsNote name line before text) c.line.ensures c.in_ok-add_help.ensures in
    record {
      notes = one_note name c.args.walk.now.line before text noted (c.in_ok-add_commit.ensures begun);
      last = (before, noted);
    }
