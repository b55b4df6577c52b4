use Rattle.std.proofs.Common.{◌≡◌, drop}
use Rattle.infer.specs.Cells.{are_below}
use Rattle.infer.proofs.rows.are_below.Given as goal

-- the rest decides
abbrev pub invariant-loop-place : goal.invariant-loop-place
invariant-loop-place l = are_below (drop l.place l.row) (drop l.place l.table) ≡ are_below l.row l.table
