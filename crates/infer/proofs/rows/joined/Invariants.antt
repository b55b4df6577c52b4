use Rattle.std.proofs.Common.{◌≡◌, ◌++◌, drop}
use Rattle.infer.specs.Cells.{joined_tables}
use Rattle.infer.proofs.rows.joined.Given as goal

-- what is joined, and then the rest joined, is all
abbrev pub invariant-loop-place : goal.invariant-loop-place
invariant-loop-place l = l.greater.items ++ joined_tables (drop l.place l.row) (drop l.place l.table) ≡ joined_tables l.row l.table
