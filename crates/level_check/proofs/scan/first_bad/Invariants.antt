use Rattle.std.proofs.Common.{◌≡◌, None, drop}
use Rattle.level_check.specs.Bodies.{told_from}
use Rattle.level_check.specs.Bad.{firsts, all_bads}
use Rattle.level_check.proofs.scan.first_bad.Given as goal

-- the first of those so far and of the cells that are left is the first of all
abbrev pub invariant-loop-at : goal.invariant-loop-at
invariant-loop-at l = firsts l.first (all_bads (told_from l.judged) (drop l.at l.cells.keys) (drop l.at l.levels)) ≡ firsts None (all_bads (told_from l.judged) l.cells.keys l.levels)
