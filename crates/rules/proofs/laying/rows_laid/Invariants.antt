-- The rows so far are laid.
use Rattle.std.proofs.Common.{◌≡◌, length, map, take}
use Rattle.rules.specs.Ranges.{in_range}
use Rattle.rules.specs.Search.{rows_of}
use Rattle.rules.proofs.RangeLemmas.{AllIn}
use Rattle.rules.proofs.laying.rows_laid.Given as goal

abbrev pub invariant-loop-row : goal.invariant-loop-row
invariant-loop-row l = record {
  so_far : map (in_range l.order.items) l.ranges.items ≡ rows_of (take l.row-index l.rows);
  within : AllIn (length l.order.items) l.ranges.items;
}
