-- Derivations in one list, in the order of their text: each node, and then the nodes below it.
use Rattle.std.specs.Prelude.{◌≡◌, ℕ, zero, suc, List, [], ◌∷◌, ◌++◌, map, length, take, drop, Ok}
use Rattle.conditions.specs.Conditions.{cond_of}
use Rattle.book_lists.specs.declared.listed.ListedNode.{ListedNode}
use Rattle.book_lists.specs.declared.listed.ListedBook.{ListedBook}
use Rattle.books.specs.Derivations.{Node, node, Nodes, no_nodes, and_node}
use Rattle.books.specs.Books.{Line, Book, IsBook}
use Rattle.books.specs.Combine.{Res}
use Rattle.books.specs.Views.{after_those}

-- Nodes as a list: a node, and nodes side by side.
abbrev mutual
  -- a node, which tells how many are below it, and those
  pub listed : Node → List ListedNode
  listed (node w n ds) = record { word = w; number = n; below = length (listed_all ds) } ∷ listed_all ds

  -- nodes side by side, each with those below it
  pub listed_all : Nodes → List ListedNode
  listed_all no_nodes = []
  listed_all (and_node d ds) = listed d ++ listed_all ds

-- the nodes side by side that a list has, of at most so many
abbrev pub unlisted_among : ℕ → List ListedNode → Nodes
unlisted_among zero xs = no_nodes
unlisted_among (suc most) [] = no_nodes
unlisted_among (suc most) (x ∷ xs) =
    and_node (node x.word x.number (unlisted_among most (take x.below xs))) (unlisted_among most (drop x.below xs))

-- the nodes side by side that a list has
abbrev pub unlisted : List ListedNode → Nodes
unlisted xs = unlisted_among (length xs) xs

-- a list has nodes, and nothing else
abbrev pub IsList : List ListedNode → Type 0
IsList xs = xs ≡ listed_all (unlisted xs)

-- what a method line has beside its derivation: the method, and the number of its tree
abbrev pub line_head : Line → ℕ × ℕ
line_head line = (line.id, line.number)

-- the derivations of method lines, one after another
abbrev pub listed_lines : List Line → List ListedNode
listed_lines [] = []
listed_lines (line ∷ lines) = listed line.body ++ listed_lines lines

-- the method lines of which two lists have the heads and the nodes
abbrev pub unlisted_lines : List (ℕ × ℕ) → List ListedNode → List Line
unlisted_lines [] xs = []
unlisted_lines (h ∷ hs) [] = []
unlisted_lines (h ∷ hs) (x ∷ xs) =
    record { id = h.0; number = h.1; body = node x.word x.number (unlisted (take x.below xs)) } ∷ unlisted_lines hs (drop x.below xs)

-- two lists have the heads and the nodes of method lines
pub record AreListed (heads : List (ℕ × ℕ)) (nodes : List ListedNode) (lines : List Line) : Type 0 where
  pub heads_are : heads ≡ map line_head lines
  pub nodes_are : nodes ≡ listed_lines lines

-- a book in lists
pub record IsListedBook (lists : ListedBook) (book : Book) : Type 0 where
  pub table : map cond_of lists.table.items ≡ book.table
  pub lines : AreListed lists.lines.items lists.nodes.items book.lines
  pub book_is : IsBook book

-- what a reader reads stands, as a list, behind what was there
pub record IsListedAs {A B : Type 0} (list : A → List B) (old new : List B) (read : Res A) (rest : List ℕ) : Type 0 where
  pub what : A
  pub read_is : read ≡ Ok (what, rest)
  pub behind : new ≡ old ++ list what

-- what a reader has read so far stands, as a list, behind what was there
pub record AreListedSoFar {A B : Type 0} (list : List A → List B) (old now : List B) (whole rest : Res (List A)) : Type 0 where
  pub so_far : List A
  pub read_is : whole ≡ after_those so_far rest
  pub behind : now ≡ old ++ list so_far
