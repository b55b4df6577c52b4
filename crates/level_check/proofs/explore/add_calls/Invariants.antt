use Rattle.std.proofs.Common.{take, map}
use Rattle.level_check.specs.Told.{told_level_of}
use Rattle.level_check.specs.Cells.{queue_of, AreAdded}
use Rattle.level_check.proofs.explore.add_calls.Given as goal

-- the cells of the calls so far
abbrev pub invariant-loop-visit : goal.invariant-loop-visit
invariant-loop-visit l = AreAdded (map told_level_of (take l.visit-index l.seen)) l.from (queue_of l.fn.cells) (queue_of l.cells) l.links.items
