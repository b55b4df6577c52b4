-- Books that are derived from what trees assign to the methods of a program.
use Rattle.std.specs.Prelude.{◌≡◌, ◌⊎◌, ◌&&◌, ℕ, suc, ◌<◌, List, [], ◌∷◌, ◌++◌, length, Some, slice_get}
use Rattle.paths.specs.Paths.{PathData}
use Rattle.algebra.specs.HeldPaths.{Held, has_path}
use Rattle.core_program.specs.Core.{Program, Method}
use Rattle.conditions.specs.Conditions.{Cond}
use Rattle.rules.specs.Effect.{Assignment}
use Rattle.rules.specs.Rules.{IsAntitone, IsClosed, HoldsBound}
use Rattle.books.specs.Derivations.{Node, node, Nodes, no_nodes, and_node}
use Rattle.books.specs.Books.{Line, Book}
use Rattle.effects.specs.Parts.{StmtP}
use Rattle.book_check.specs.Parts.{places, Each}
use Rattle.book_check.specs.Conclusions.{table_value}
use Rattle.book_check.specs.Good.{book_assignment, ConcludesExactly, IsShaped}

-- The conclusions' numbers in a derivation and in a list of them.
abbrev mutual
  -- the numbers of the nodes of a derivation, as they are written
  pub node_numbers : Node → List ℕ
  node_numbers (node w n ds) = n ∷ nodes_numbers ds

  -- the numbers of the nodes of several derivations, one derivation after the other
  pub nodes_numbers : Nodes → List ℕ
  nodes_numbers no_nodes = []
  nodes_numbers (and_node d ds) = node_numbers d ++ nodes_numbers ds

-- the numbers of method lines: of each its tree's, and then those of its nodes
abbrev pub lines_numbers : List Line → List ℕ
lines_numbers [] = []
lines_numbers (line ∷ lines) = line.number ∷ (node_numbers line.body ++ lines_numbers lines)

-- numbers in order of first use, where so many are used before, and so many in the end: each is used before, or the next
abbrev pub AreInOrder : ℕ → List ℕ → ℕ → Type 0
AreInOrder used [] all = used ≡ all
AreInOrder used (n ∷ ns) all = ((n < used) × AreInOrder used ns all) ⊎ ((n ≡ used) × AreInOrder (suc used) ns all)

-- no tree stands twice
abbrev pub AreDistinct : List Cond → Type 0
AreDistinct table = (i j : ℕ) (t : Cond) → slice_get table i ≡ Some t → slice_get table j ≡ Some t → i ≡ j

-- the book that is derived from trees for the methods of a program
pub record IsDerived (P : Program) (rel : ℕ → List PathData) (trees : List Cond) (book : Book) : Type 0 where
  -- each method has a line of its shape, with its tree
  pub count : length book.lines ≡ length P.methods
  pub shaped : (m : ℕ) (method : Method) (line : Line) → slice_get P.methods m ≡ Some method → slice_get book.lines m ≡ Some line → IsShaped m method line
  pub own : (m : ℕ) (line : Line) → slice_get book.lines m ≡ Some line → slice_get book.table line.number ≡ slice_get trees m
  -- each node concludes exactly its rule's value
  pub exact : (m : ℕ) (method : Method) (line : Line) → slice_get P.methods m ≡ Some method → slice_get book.lines m ≡ Some line →
      Each (ConcludesExactly P rel (table_value book.table) (book_assignment book)) (places (StmtP method.body) line.body)
  -- the table has each different conclusion once, in order of first use
  pub distinct : AreDistinct book.table
  pub in_order : AreInOrder 0 (lines_numbers book.lines) (length book.table)

-- what an assignment of which a good book is derived keeps: it falls, is closed, looks at relevant paths alone, and keeps every bound
pub record KeepsRules (P : Program) (rel : ℕ → List PathData) (A : Assignment) : Type 0 where
  pub falling : IsAntitone rel A
  pub closed : IsClosed P rel A
  pub relevant : (m : ℕ) (H : Held) → A m H ≡ A m (λ q. has_path (rel m) q && H q)
  pub bounds : (m : ℕ) (method : Method) → slice_get P.methods m ≡ Some method → HoldsBound A m method
