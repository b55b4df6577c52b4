-- Derivations whose trees test few paths.
use Rattle.std.specs.Prelude.{◌≡◌, ℕ, Bool, true, List, [], ◌∷◌, slice_get}
use Rattle.paths.specs.Paths.{PathData}
use Rattle.conditions.specs.Conditions.{Cond}
use Rattle.books.specs.Derivations.{Node, node, Nodes, no_nodes, and_node, conclusion_number}
use Rattle.book_check.specs.declared.judge.Judge.{Judge}
use Rattle.book_check.specs.Conclusions.{tree_numbered, tests_only}
use Rattle.book_check.specs.Judges.{judge_near, own_near}
use Rattle.book_check.specs.declared.steps.Steps.{Steps}

-- the tree with this number in a table tests only these paths
abbrev pub is_near : List PathData → List Cond → ℕ → Bool
is_near paths table n = tests_only paths (tree_numbered (slice_get table n))

abbrev mutual
  -- the tree of a node tests only these paths, and so do those of all nodes below it
  pub AreNear : List PathData → List Cond → Node → Type 0
  AreNear paths table (node w n ds) = (is_near paths table n ≡ true) × AreAllNear paths table ds

  -- so do those of nodes side by side, and of all below them
  pub AreAllNear : List PathData → List Cond → Nodes → Type 0
  AreAllNear paths table no_nodes = Unit {0}
  AreAllNear paths table (and_node d ds) = AreNear paths table d × AreAllNear paths table ds

-- the tree of each method line tests only relevant paths of its method
abbrev pub AreOwnNear : Judge → Type 0
AreOwnNear judge = (m : ℕ) → own_near judge m ≡ true

-- the paths near the method whose steps are judged
abbrev pub steps_near : Steps → List PathData
steps_near steps = judge_near steps.judge.now steps.method

-- the numbers of nodes side by side
abbrev pub conclusion_numbers : Nodes → List ℕ
conclusion_numbers no_nodes = []
conclusion_numbers (and_node d ds) = conclusion_number d ∷ conclusion_numbers ds
