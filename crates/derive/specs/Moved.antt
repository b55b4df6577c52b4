-- Derivations under other numbers.
use Rattle.std.specs.Prelude.{◌≡◌, List, Some, length, slice_get}
use Rattle.conditions.specs.Conditions.{Cond}
use Rattle.books.specs.Derivations.{Node, node, Nodes, no_nodes, and_node}
use Rattle.derive.specs.Concluded.{BeginsWithTrees}
use Rattle.derive.specs.Derived.{node_numbers, nodes_numbers, AreInOrder}

module _ (from to : List Cond) where
  abbrev mutual
    -- the same words, and the same conclusions, by their numbers in one table and in the other
    pub IsSame : Node → Node → Type 0
    IsSame (node w n ds) (node x k es) = (w ≡ x) × ((t : Cond) × (slice_get from n ≡ Some t) × (slice_get to k ≡ Some t)) × AreSame ds es

    -- the same of two lists of nodes, which are of one length
    pub AreSame : Nodes → Nodes → Type 0
    AreSame no_nodes no_nodes = Unit {0}
    AreSame no_nodes (and_node e es) = ⊥
    AreSame (and_node d ds) no_nodes = ⊥
    AreSame (and_node d ds) (and_node e es) = IsSame d e × AreSame ds es

-- a derivation over one table became one over another, whose trees came in order of first use
pub record IsMoved (from old new : List Cond) (d e : Node) : Type 0 where
  pub begins : BeginsWithTrees old new
  pub same : IsSame from new d e
  pub in_order : AreInOrder (length old) (node_numbers e) (length new)

-- the same of several derivations, in order
pub record AreMoved (from old new : List Cond) (ds es : Nodes) : Type 0 where
  pub begins : BeginsWithTrees old new
  pub same : AreSame from new ds es
  pub in_order : AreInOrder (length old) (nodes_numbers es) (length new)
