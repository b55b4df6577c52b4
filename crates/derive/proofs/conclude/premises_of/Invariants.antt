use Rattle.std.proofs.Common.{◌≡◌, ◌++◌, map, drop, length}
use Rattle.conditions.specs.Shown.{AreAmongFirst, node_value, trees_at}
use Rattle.books.specs.Memory.{nodes_at}
use Rattle.book_check.specs.Conclusions.{conclusions, table_value}
use Rattle.derive.proofs.conclude.premises_of.Given as goal

-- the nodes so far, and then those of the rest, are all
abbrev pub invariant-loop-premise : goal.invariant-loop-premise
invariant-loop-premise l = record {
  known : AreAmongFirst (length l.table) l.found.items;
  values : map (node_value l.table) l.found.items ++ conclusions (table_value (trees_at l.table l.nodes)) (nodes_at (drop l.premise-index l.premises)) ≡ conclusions (table_value (trees_at l.table l.nodes)) (nodes_at l.premises);
}
