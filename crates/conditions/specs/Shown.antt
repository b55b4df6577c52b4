-- Nodes of a table and the trees that they stand for.
use Rattle.std.specs.Prelude.{◌<◌, ℕ, List, map, slice_get, IfSome}
use Rattle.algebra.specs.declared.basic.Basic.{Basic}
use Rattle.algebra.specs.HeldPaths.{Held}
use Rattle.conditions.specs.Conditions.{Cond, value_of}
use Rattle.conditions.specs.declared.rows.Item.{Item}
use Rattle.conditions.specs.declared.table.Node.{Node}
use Rattle.conditions.specs.Nodes.{tree_at}

-- a node is one of the first so many
abbrev pub IsAmongFirst : ℕ → Node → Type 0
IsAmongFirst count n = n.0 < count

-- each node of the list is
abbrev pub AreAmongFirst : ℕ → List Node → Type 0
AreAmongFirst count nodes = (m : ℕ) → IfSome (slice_get nodes m) (λ n. n.0 < count)

-- the tree that a node stands for
abbrev pub node_tree : List Item → Node → Cond
node_tree is n = tree_at is n.0

-- the basic of a node at a set of held paths
abbrev pub node_value : List Item → Node → Held → Basic
node_value is n H = value_of (tree_at is n.0) H

-- the trees that the nodes stand for
abbrev pub trees_at : List Item → List Node → List Cond
trees_at is nodes = map (λ n. tree_at is n.0) nodes
