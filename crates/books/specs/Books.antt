-- Books as plain data: a table of conditional atomicities, and a line with a derivation for each method.
use Rattle.std.specs.Prelude.{◌≡◌, ℕ, suc, ◌^◌, ◌<◌, ◌≤◌, ◌∷◌, ◌&&◌, Bool, true, false, not, List, [], length, Option, Some, None, nat_lt, max}
use Rattle.std.specs.List.{list_all}
use Rattle.std.specs.declared.cmp.Ordering.{Ordering}
use Rattle.std.specs.declared.cmp.Ordering.TheVariants.{Less, Equal, Greater}
use Rattle.paths.specs.Paths.{PathData, path_order, most_fields}
use Rattle.conditions.specs.Conditions.{Cond, LeafC, TestC, cond_eq}
use Rattle.books.specs.Derivations.{Node, node, Nodes, no_nodes, and_node}

-- a method line: the method, the number of its tree in the table, the derivation of its body
pub record Line : Type 0 where
  pub id : ℕ
  pub number : ℕ
  pub body : Node

-- a book: the trees that conclusions are numbered by, and a line for each method
pub record Book : Type 0 where
  pub table : List Cond
  pub lines : List Line

-- how many nodes and how many tests stand within each other at most
abbrev pub most_nesting : ℕ
most_nesting = 64

-- a path's root fits 16 bits, each field 32 bits, and there are at most two fields
pub record IsPath (p : PathData) : Type 0 where
  pub root : p.root < 2 ^ 16
  pub fields : list_all (λ f. nat_lt f (2 ^ 32)) p.fields ≡ true
  pub few : length p.fields ≤ most_fields

-- each test of a tree is on a path that can be written
abbrev pub HasPaths : Cond → Type 0
HasPaths (LeafC b) = Unit {0}
HasPaths (TestC p a b) = IsPath p × HasPaths a × HasPaths b

-- how many tests stand within each other
abbrev pub tests_high : Cond → ℕ
tests_high (LeafC b) = 0
tests_high (TestC p a b) = suc (max (tests_high a) (tests_high b))

-- whether a comparison says that the first comes before the second
abbrev pub is_less : Ordering → Bool
is_less Less = true
is_less Equal = false
is_less Greater = false

-- whether a path comes after the one above it, if there is one
abbrev pub comes_after : Option PathData → PathData → Bool
comes_after None p = true
comes_after (Some q) p = is_less (path_order q p)

-- whether tests strictly ascend from the root to a leaf, below a path if there is one, and no test has equal branches
abbrev pub is_canonical_below : Option PathData → Cond → Bool
is_canonical_below above (LeafC b) = true
is_canonical_below above (TestC p a b) =
    comes_after above p && (not (cond_eq a b) && (is_canonical_below (Some p) a && is_canonical_below (Some p) b))

-- whether a tree is the one canonical tree of its value: tests ascend to each leaf, and no test has equal branches
abbrev pub is_canonical : Cond → Bool
is_canonical = is_canonical_below None

-- a tree that a table may have
pub record IsTree (t : Cond) : Type 0 where
  pub paths : HasPaths t
  pub high : tests_high t ≤ most_nesting
  pub canonical : is_canonical t ≡ true

-- each of these trees may stand in a table
abbrev pub AreTrees : List Cond → Type 0
AreTrees [] = Unit {0}
AreTrees (t ∷ ts) = IsTree t × AreTrees ts

-- Heights of derivations: of a node, and of its premises.
abbrev mutual
  -- how many nodes stand within each other
  pub node_high : Node → ℕ
  node_high (node w n ds) = suc (nodes_high ds)

  -- the height of the highest of some premises, or 0
  pub nodes_high : Nodes → ℕ
  nodes_high no_nodes = 0
  nodes_high (and_node d ds) = max (node_high d) (nodes_high ds)

-- Numbers that are in a table, in a node and in its premises.
abbrev mutual
  -- each conclusion's number is in the table of so many trees
  pub AreNumbered : ℕ → Nodes → Type 0
  AreNumbered count no_nodes = Unit {0}
  AreNumbered count (and_node d ds) = IsNumbered count d × AreNumbered count ds

  -- the numbers of a node's conclusion and of all below it are in the table of so many trees
  pub IsNumbered : ℕ → Node → Type 0
  IsNumbered count (node w n ds) = (n < count) × AreNumbered count ds

-- a method line that a book with so many trees may have
pub record IsMethodLine (count : ℕ) (line : Line) : Type 0 where
  pub id : line.id < 2 ^ 32
  pub number : line.number < count
  pub numbered : IsNumbered count line.body
  pub high : node_high line.body ≤ most_nesting

-- each of these is a method line that a book with so many trees may have
abbrev pub AreMethodLines : ℕ → List Line → Type 0
AreMethodLines count [] = Unit {0}
AreMethodLines count (line ∷ lines) = IsMethodLine count line × AreMethodLines count lines

-- a book that can be written
pub record IsBook (book : Book) : Type 0 where
  pub few : length book.table < 2 ^ 32
  pub trees : AreTrees book.table
  pub lines : AreMethodLines (length book.table) book.lines
