-- A node is no higher than its part.
use Rattle.std.proofs.Common.{ℕ, ◌≤◌, List, [], ◌∷◌, arith}
use Rattle.core_program.specs.Core.{Program}
use Rattle.paths.specs.Paths.{PathData}
use Rattle.conditions.specs.Conditions.{Cond}
use Rattle.rules.specs.Effect.{Assignment}
use Rattle.books.specs.Derivations.{Node, node, Nodes, no_nodes, and_node}
use Rattle.books.specs.Books.{node_high, nodes_high}
use Rattle.effects.specs.Parts.{Part, parts_of}
use Rattle.effects.proofs.Sizes.{high_part, high_parts, parts_lower}
use Rattle.derive.specs.Concluded.{Concludes, ConcludeAll}

-- a node is no higher than its part
module _ (P : Program) (rel : ℕ → List PathData) (A : Assignment) (table : List Cond) where
  mutual
    pub node_lower : (x : Part) (d : Node) → Concludes P rel A table x d → node_high d ≤ high_part x
    node_lower x (node w n ds) is = omega (arith, parts_lower x, nodes_lower (parts_of x) ds is.3)

    nodes_lower : (xs : List Part) (ds : Nodes) → ConcludeAll P rel A table xs ds → nodes_high ds ≤ high_parts xs
    nodes_lower [] no_nodes all = omega arith
    nodes_lower [] (and_node d ds) all = absurd all
    nodes_lower (x ∷ xs) no_nodes all = absurd all
    nodes_lower (x ∷ xs) (and_node d ds) all = omega (arith, node_lower x d all.0, nodes_lower xs ds all.1)
