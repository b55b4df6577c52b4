use Rattle.std.proofs.Common.{◌-◌, ◌^◌, length}
use Rattle.level_check.specs.Bodies.{told_from}
use Rattle.level_check.specs.Cells.{queue_of, AreCalledUnder}
use Rattle.level_check.proofs.explore.follow_all.Given as goal

-- the cells that have links are followed
abbrev pub invariant-cells : goal.invariant-cells
invariant-cells l = AreCalledUnder (told_from l.judged) (queue_of l.fn.cells) (queue_of l.cells) l.rows.items

abbrev pub decreases-cells : goal.decreases-cells
decreases-cells l = 2 ^ 64 - length l.rows.items
