use Rattle.std.proofs.Common.{take}
use Rattle.level_check.specs.Cells.{queue_of, AreFirstCells}
use Rattle.level_check.proofs.explore.cells_of.Given as goal

-- the cells of the methods so far
abbrev pub invariant-loop-method : goal.invariant-loop-method
invariant-loop-method l = AreFirstCells (take l.method-index l.methods) (queue_of l.cells)
