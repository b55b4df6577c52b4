-- A test of two numbers that differ.
use Rattle.std.proofs.Common.{◌≡◌, ℕ, ◌<◌, Bool, true, false, List, length, Result, IfOk, refl, sym, ◌∙◌, ap, subst, if◌then◌else◌}
use Rattle.paths.specs.Paths.{PathData}
use Rattle.conditions.specs.Conditions.{TestC, cond_eq, IsCanonical}
use Rattle.conditions.specs.Operations.{node}
use Rattle.conditions.proofs.CondLemmas.{cond_eq-is}
use Rattle.conditions.specs.declared.rows.Item.{Item}
use Rattle.conditions.specs.Nodes.{tree_at, IsTable, StandsForTree}

-- a test of two numbers that differ is a test
pub node_apart : (is : List Item) (p : PathData) (m n : ℕ) → IsTable is → m < length is → n < length is → (m ≡ n → ⊥) → node p (tree_at is m) (tree_at is n) ≡ TestC p (tree_at is m) (tree_at is n)
node_apart is p m n table m_there n_there differ = by (cond_eq (tree_at is m) (tree_at is n)) refl
  where
    by : (b : Bool) → cond_eq (tree_at is m) (tree_at is n) ≡ b → node p (tree_at is m) (tree_at is n) ≡ TestC p (tree_at is m) (tree_at is n)
    by true e = absurd (differ (table.apart m n m_there n_there (cond_eq-is (tree_at is m) (tree_at is n) e)))
    by false e = ap (λ b. if b then tree_at is m else TestC p (tree_at is m) (tree_at is n)) e

pub apart_canonical : (is : List Item) (p q : PathData) (m n : ℕ) → IsTable is → m < length is → n < length is → (m ≡ n → ⊥) → q ≡ p → IsCanonical (node p (tree_at is m) (tree_at is n)) → IsCanonical (TestC q (tree_at is m) (tree_at is n))
apart_canonical is p q m n table m_there n_there differ same canonical =
    subst (λ r. IsCanonical (TestC r (tree_at is m) (tree_at is n))) (sym same) (subst IsCanonical (node_apart is p m n table m_there n_there differ) canonical)

pub apart_stands : {E : Type 0} (is new : List Item) (p q : PathData) (m n : ℕ) (r : Result ℕ E) → IsTable is → m < length is → n < length is → (m ≡ n → ⊥) → q ≡ p
    → IfOk r (λ k. StandsForTree new k (TestC q (tree_at is m) (tree_at is n))) → IfOk r (λ k. StandsForTree new k (node p (tree_at is m) (tree_at is n)))
apart_stands is new p q m n r table m_there n_there differ same stands =
    subst (λ t. IfOk r (λ k. StandsForTree new k t)) (ap (λ s. TestC s (tree_at is m) (tree_at is n)) same ∙ sym (node_apart is p m n table m_there n_there differ)) stands
