-- What the nodes of a derivation conclude: values of trees, by their numbers in a table.
use Rattle.std.specs.Prelude.{ℕ, Bool, true, ◌&&◌, List, [], ◌∷◌, Option, Some, None, slice_get}
use Rattle.algebra.specs.declared.basic.Basic.TheVariants.{Const}
use Rattle.paths.specs.Paths.{PathData}
use Rattle.algebra.specs.HeldPaths.{has_path}
use Rattle.conditions.specs.Conditions.{Cond, LeafC, TestC, value_of}
use Rattle.books.specs.Derivations.{Nodes, no_nodes, and_node, conclusion_number}
use Rattle.effects.specs.Rules.{Value}

-- the value of a tree; const where there is none
abbrev pub tree_value : Option Cond → Value
tree_value None H = Const
tree_value (Some t) H = value_of t H

-- the value of the tree with this number in a table
abbrev pub table_value : List Cond → ℕ → Value
table_value table n = tree_value (slice_get table n)

-- the values of the conclusions of nodes
abbrev pub conclusions : (ℕ → Value) → Nodes → List Value
conclusions V no_nodes = []
conclusions V (and_node d ds) = V (conclusion_number d) ∷ conclusions V ds

-- the tree with this number in a table; const where there is none
abbrev pub tree_numbered : Option Cond → Cond
tree_numbered None = LeafC Const
tree_numbered (Some t) = t

-- each test of the tree is on one of these paths
abbrev pub tests_only : List PathData → Cond → Bool
tests_only paths (LeafC b) = true
tests_only paths (TestC p a b) = has_path paths p && (tests_only paths a && tests_only paths b)
