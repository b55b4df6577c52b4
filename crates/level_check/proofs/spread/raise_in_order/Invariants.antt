-- What was kept is kept on.
use Rattle.level_check.proofs.spread.raise_in_order.Given as goal

abbrev pub invariant-loop-cell : goal.invariant-loop-cell
invariant-loop-cell g l = (earlier : g.row.R.Denot) → g.R.Rising.keeps earlier l.fn.rising → g.R.Rising.keeps earlier l.rising
