-- What was kept is kept on.
use Rattle.std.proofs.Common.{◌-◌, ◌^◌}
use Rattle.level_check.proofs.spread.raise_each.Given as goal

abbrev pub invariant-cells : goal.invariant-cells
invariant-cells g l = (earlier : g.row.R.Denot) → g.R.Rising.keeps earlier l.fn.rising → g.R.Rising.keeps earlier l.rising

abbrev pub decreases-cells : goal.decreases-cells
decreases-cells g l = 2 ^ 64 - l.at
