-- Numbers, trees and values: equal exactly together.
use Rattle.std.proofs.Common.{◌≡◌, ◌↔◌, ◌==◌, ℕ, ◌<◌, Bool, true, List, length, sym, ◌∙◌, ap, eqb-true, eq-eqb}
use Rattle.algebra.specs.declared.basic.Basic.{Basic}
use Rattle.algebra.specs.HeldPaths.{Held}
use Rattle.conditions.specs.Conditions.{Cond, value_of}
use Rattle.conditions.proofs.SameValues.{unique}
use Rattle.conditions.proofs.NodeLemmas.{Is}
use Rattle.conditions.specs.declared.rows.Item.{Item}
use Rattle.conditions.specs.declared.table.Node.{Node}
use Rattle.conditions.specs.Nodes.{tree_at, IsTable, StandsForTree}

pub same_number : (is : List Item) (m n : ℕ) (test : Bool) → IsTable is → m < length is → n < length is → test ≡ (m == n)
    → (test ≡ true) ↔ ((H : Held) → value_of (tree_at is m) H ≡ value_of (tree_at is n) H)
same_number is m n test table m_there n_there told = (
  λ same H. ap (λ k. value_of (tree_at is k) H) (eqb-true m n (sym told ∙ same)),
  λ values. told ∙ eq-eqb m n (table.apart m n m_there n_there (unique (tree_at is m) (tree_at is n) (table.canonical m m_there) (table.canonical n n_there) values)),
)

-- nodes are equal exactly where their numbers are
pub same_node : (a b : Node) (test : Bool) → test ≡ (a.0 == b.0) → (test ≡ true) ↔ (a ≡ b)
same_node a b test told = (
  λ same. (let e = eqb-true a.0 b.0 (sym told ∙ same) in λ i. record { 0 = e i }),
  λ same. told ∙ eq-eqb a.0 b.0 (ap (λ n. n.0) same),
)

-- a number that stands for a tree has the values of that tree
pub value_by : (new : List Item) (n : ℕ) (t : Cond) (v : Held → Basic) → StandsForTree new n t → Is v t → (H : Held) → value_of (tree_at new n) H ≡ v H
value_by new n t v stands is = λ H. ap (λ u. value_of u H) stands.tree ∙ is.same H
