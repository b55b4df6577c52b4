-- One cell more was noted.
use Rattle.std.proofs.Common.{◌∙◌, refl}
use Rattle.fixpoint.proofs.NoteLemmas.{noted_next}
use Rattle.fixpoint.proofs.rounds.note_all.Goals as goal

pub loop-cell-preserved : goal.loop-cell-preserved
loop-cell-preserved c = record {
  noted = noted_next c.loop-cell.cell c.args.waits.now c.loop-cell.waits c.note.new.waits c.args.next.now.items c.loop-cell.next.items c.note.new.next.items c.loop-cell.invariant.noted c.in_ok-note.ensures.noted;
  size = c.in_ok-note.ensures.size ∙ c.loop-cell.invariant.size;
  end = refl;
}
