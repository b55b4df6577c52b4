use Rattle.std.proofs.Common.{◌≡◌, map, take}
use Rattle.conditions.specs.Conditions.{cond_of}
use Rattle.conditions.specs.Shown.{trees_at}
use Rattle.conditions.proofs.table.NodeTable.trees_of.Given as goal

abbrev pub invariant-loop-node : goal.invariant-loop-node
invariant-loop-node l = map cond_of l.trees.items ≡ trees_at l.self (take l.node-index l.nodes)
