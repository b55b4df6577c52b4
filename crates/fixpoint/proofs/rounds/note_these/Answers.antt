-- One cell more was noted.
use Rattle.std.proofs.Common.{◌∙◌}
use Rattle.fixpoint.proofs.NoteLemmas.{noted_step}
use Rattle.fixpoint.proofs.rounds.note_these.Goals as goal

pub loop-cell-preserved : goal.loop-cell-preserved
loop-cell-preserved c = record {
  noted = noted_step c.args.cells.now c.loop-cell.cell-index c.args.waits.now c.loop-cell.waits c.note.new.waits c.args.next.now.items c.loop-cell.next.items c.note.new.next.items
      c.loop-cell-test.true c.loop-cell.invariant.noted c.in_ok-note.ensures.noted;
  size = c.in_ok-note.ensures.size ∙ c.loop-cell.invariant.size;
}
