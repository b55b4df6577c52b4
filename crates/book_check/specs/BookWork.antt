-- The work of a book: how many leaves of trees are compared at most, where each two of a node's trees are compared with its conclusion.
-- A block of two statements with trees of 3 leaves under a tree of 5 leaves has the work 5 * (6 + 2) * (6 + 2).
use Rattle.std.specs.Prelude.{ℕ, zero, suc, ◌+◌, ◌*◌, Bool, true, false, ◌&&◌, not, List, ◌∷◌, slice_get, if◌then◌else◌}
use Rattle.conditions.specs.Conditions.{Cond, LeafC, TestC}
use Rattle.core_program.specs.Core.{Program, Method, Stmts, no_stmts, and_stmt, GetE, CallE, BlockS, SetFieldS}
use Rattle.books.specs.Derivations.{Node, node, Nodes, no_nodes, and_node, conclusion_number}
use Rattle.books.specs.Books.{Line, Book}
use Rattle.effects.specs.Parts.{Part, ExprP, StmtP, parts_of}
use Rattle.book_check.specs.Blocks.{keeps_paths}
use Rattle.book_check.specs.Conclusions.{tree_numbered}

-- how many leaves a tree has
abbrev pub leaves : Cond → ℕ
leaves (LeafC b) = 1
leaves (TestC p a b) = leaves a + leaves b

-- how many the tree with this number in a table has; one where there is none
abbrev pub leaves_numbered : List Cond → ℕ → ℕ
leaves_numbered table n = leaves (tree_numbered (slice_get table n))

-- how many the trees of nodes side by side have together
abbrev pub leaves_among : List Cond → Nodes → ℕ
leaves_among table no_nodes = 0
leaves_among table (and_node d ds) = leaves_numbered table (conclusion_number d) + leaves_among table ds

-- each statement keeps the paths that are held, which is so unless it declares a final local
abbrev pub all_keep : Stmts → Bool
all_keep no_stmts = true
all_keep (and_stmt s ss) = keeps_paths s && all_keep ss

-- a tree is made for the part's value: a block's, where it declares a final local, as the later values are other ones before it
abbrev pub makes_tree : Part → Bool
makes_tree (StmtP (BlockS ss)) = not (all_keep ss)
makes_tree _ = false

-- how many leaves the part's own trees have at most: a callee's under eight paths, an access under one; and that of no premise
abbrev pub own_leaves : Part → ℕ
own_leaves (ExprP (CallE e m args)) = 257
own_leaves (ExprP (GetE e f)) = 3
own_leaves (StmtP (SetFieldS e f g)) = 3
own_leaves _ = 2

-- twice as much for each, from one on
abbrev pub doubled : ℕ → ℕ
doubled zero = 1
doubled (suc n) = doubled n + doubled n

-- how many leaves the value of a part's rule has, where its premises' trees have so many together: all pairs; where a tree is made, as many as there
-- may be sets of the paths that so many leaves have
abbrev pub value_work : Part → ℕ → ℕ
value_work part n = if makes_tree part then doubled n else ((n + own_leaves part) * (n + own_leaves part))

-- each is compared with each leaf of the conclusion
abbrev pub step_work : List Cond → Part → ℕ → Nodes → ℕ
step_work table part n ds = leaves_numbered table n * value_work part (leaves_among table ds)

-- A node at the part that it stands for, and its premises at that part's own parts.
abbrev mutual
  -- the work of a node and of all below it
  pub node_work : List Cond → Part → Node → ℕ
  node_work table part (node w n ds) = step_work table part n ds + premises_work table (parts_of part) ds

  -- that of premises, as far as there are both parts and nodes
  pub premises_work : List Cond → List Part → Nodes → ℕ
  premises_work table (part ∷ parts) (and_node d ds) = node_work table part d + premises_work table parts ds
  premises_work table _ _ = 0

-- the work of a method line: its nodes', and that of its body's tree beside the method's, which looks at eight paths at most
abbrev pub line_work : List Cond → Method → Line → ℕ
line_work table method line = 256 * leaves_numbered table (conclusion_number line.body) + node_work table (StmtP method.body) line.body

-- the work of method lines beside their methods
abbrev pub lines_work : List Cond → List Method → List Line → ℕ
lines_work table (method ∷ methods) (line ∷ lines) = line_work table method line + lines_work table methods lines
lines_work table _ _ = 0

-- the work of a book for a program
abbrev pub book_work : Program → Book → ℕ
book_work P book = lines_work book.table P.methods book.lines

-- a book with no more work than this is judged, whatever its trees test
abbrev pub most_book_work : ℕ
most_book_work = 67108864
