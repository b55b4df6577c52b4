-- What nodes conclude exactly.
use Rattle.std.specs.Prelude.{◌≡◌, ℕ, ◌<◌, List, [], ◌∷◌, ◌++◌, length}
use Rattle.paths.specs.Paths.{PathData}
use Rattle.core_program.specs.Core.{Program}
use Rattle.core_program.specs.Views.{program_of}
use Rattle.conditions.specs.Conditions.{Cond}
use Rattle.rules.specs.Effect.{Assignment}
use Rattle.rules.specs.Near.{rel_of}
use Rattle.books.specs.Derivations.{Node, node, Nodes, no_nodes, and_node}
use Rattle.effects.specs.Parts.{Part, parts_of}
use Rattle.book_check.specs.Parts.{FitsPart}
use Rattle.book_check.specs.Conclusions.{table_value}
use Rattle.book_check.specs.Good.{ConcludesExactly}
use Rattle.derive.specs.declared.basis.Basis.{Basis}
use Rattle.derive.specs.Bases.{own_trees, trees_assign}

module _ (P : Program) (rel : ℕ → List PathData) (A : Assignment) (table : List Cond) where
  abbrev mutual
    -- each node stands for its part, has a number in the table, and concludes exactly its rule's value
    pub Concludes : Part → Node → Type 0
    Concludes part (node w n ds) =
        (n < length table) × FitsPart (record { part = part; at = node w n ds }) × ConcludesExactly P rel (table_value table) A (record { part = part; at = node w n ds })
        × ConcludeAll (parts_of part) ds

    -- there are as many nodes as parts, and each concludes so at the part beside it
    pub ConcludeAll : List Part → Nodes → Type 0
    ConcludeAll [] no_nodes = Unit {0}
    ConcludeAll [] (and_node d ds) = ⊥
    ConcludeAll (x ∷ xs) no_nodes = ⊥
    ConcludeAll (x ∷ xs) (and_node d ds) = Concludes x d × ConcludeAll xs ds

-- a table begins with these trees
pub record BeginsWithTrees (front table : List Cond) : Type 0 where
  pub behind : List Cond
  pub is : table ≡ front ++ behind

-- a part of a body is concluded over the trees of a basis
abbrev pub ConcludesOn : Basis → List Cond → Part → Node → Type 0
ConcludesOn basis table part d = Concludes (program_of basis.program.now) (rel_of basis.sets.now) (trees_assign (own_trees basis)) table part d

-- each of these nodes concludes exactly its rule's value at the part beside it, by the program, the relevant sets and the trees of a basis
abbrev pub ConcludeAllOn : Basis → List Cond → List Part → Nodes → Type 0
ConcludeAllOn basis table parts ds = ConcludeAll (program_of basis.program.now) (rel_of basis.sets.now) (trees_assign (own_trees basis)) table parts ds
