-- What was kept is kept on.
use Rattle.level_check.proofs.spread.raise_from.Given as goal

abbrev pub invariant-left : goal.invariant-left
invariant-left g l = (earlier : g.row.R.Denot) → g.R.Rising.keeps earlier l.fn.rising → g.R.Rising.keeps earlier l.rising

abbrev pub decreases-left : goal.decreases-left
decreases-left g l = l.room
