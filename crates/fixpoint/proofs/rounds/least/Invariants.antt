-- Between the start and every closed assignment, and the cells whose demands may not be met wait.
use Rattle.std.proofs.Common.{◌≡◌, ◌+◌, ◌*◌}
use Rattle.fixpoint.specs.Assignments.{IsBetween}
use Rattle.fixpoint.specs.Waiting.{AreWaiting, more}
use Rattle.fixpoint.proofs.rounds.least.Given as goal

abbrev pub invariant-rounds : goal.invariant-rounds
invariant-rounds g l = record {
  same : g.R.Rising.met l.rising ≡ g.R.Rising.met l.fn.rising;
  between : IsBetween (g.R.Rising.met l.fn.rising) (g.R.Rising.marks l.fn.rising) (g.R.Rising.marks l.rising);
  keeps : (earlier : g.row.R.Denot) → g.R.Rising.keeps earlier l.fn.rising → g.R.Rising.keeps earlier l.rising;
  waiting : AreWaiting (g.R.Rising.met l.fn.rising) (g.R.Rising.marks l.rising) l.waits.items l.cells.items;
}

abbrev pub decreases-rounds : goal.decreases-rounds
decreases-rounds g l = 2 * g.R.Rising.left l.rising + more l.cells.items
