-- Where a walk along a derivation ends.
use Rattle.std.specs.Prelude.{◌≡◌, ℕ, ◌+◌, List, length}
use Rattle.books.specs.Derivations.{Node, node, Nodes, no_nodes, and_node}
use Rattle.book_check.specs.declared.walk.End.{End}
use Rattle.book_check.specs.declared.walk.End.TheVariants.{Good, Bad}
use Rattle.book_check.specs.Parts.{PlacedNode, Each, IsLeastBad}

-- a walk along places, the first of which has this number: all are good, and what number comes next; or the least that is not good
abbrev pub IsWalkEnd : (PlacedNode → Type 0) → List PlacedNode → ℕ → End → Type 0
IsWalkEnd G xs at (Good next) = Each G xs × (next ≡ at + length xs)
IsWalkEnd G xs at (Bad k) = (j : ℕ) × (k ≡ at + j) × IsLeastBad G xs j

abbrev mutual
  -- a fact holds of a node and of all below it
  pub AllNodes : (Node → Type 0) → Node → Type 0
  AllNodes Q (node w n ds) = Q (node w n ds) × AllIn Q ds

  -- so it does of nodes side by side, and of all below them
  pub AllIn : (Node → Type 0) → Nodes → Type 0
  AllIn Q no_nodes = Unit {0}
  AllIn Q (and_node d ds) = AllNodes Q d × AllIn Q ds
