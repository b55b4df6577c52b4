-- What the numbers of a table show of its nodes.
use Rattle.std.proofs.Common.{length}
use Rattle.conditions.specs.Conditions.{IsCanonical}
use Rattle.conditions.specs.declared.table.Node.{Node}
use Rattle.conditions.specs.Nodes.{Items, IsTable}
use Rattle.conditions.specs.Shown.{IsAmongFirst, node_tree}

-- a node that is there stands for a canonical tree
pub node_canonical : (is : Items) (n : Node) → IsTable is → IsAmongFirst (length is) n → IsCanonical (node_tree is n)
node_canonical is n table there = table.canonical n.0 there
