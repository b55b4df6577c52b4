-- The cells that are left wait, and those that were noted.
use Rattle.std.proofs.Common.{◌≡◌, ◌≤◌, ◌+◌, ◌++◌, length, drop}
use Rattle.fixpoint.specs.Assignments.{IsBetween}
use Rattle.fixpoint.specs.Waiting.{AreWaiting, more}
use Rattle.fixpoint.proofs.rounds.ask_each.Given as goal

abbrev pub invariant-loop-cell : goal.invariant-loop-cell
invariant-loop-cell g l = record {
  same : g.R.Rising.met l.rising ≡ g.R.Rising.met l.fn.rising;
  between : IsBetween (g.R.Rising.met l.fn.rising) (g.R.Rising.marks l.fn.rising) (g.R.Rising.marks l.rising);
  keeps : (earlier : g.row.R.Denot) → g.R.Rising.keeps earlier l.fn.rising → g.R.Rising.keeps earlier l.rising;
  size : length l.waits ≡ length l.fn.waits;
  waiting : AreWaiting (g.R.Rising.met l.fn.rising) (g.R.Rising.marks l.rising) l.waits (drop l.cell-index l.cells ++ l.next.items);
  room : g.R.Rising.left l.rising + more l.next.items ≤ g.R.Rising.left l.fn.rising;
}
