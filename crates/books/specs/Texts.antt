-- The text of a book: the count of its trees, the trees, the method lines, and `end`, each in a line of its own.
use Rattle.std.specs.Prelude.{◌≡◌, ℕ, List, [], ◌∷◌, ◌++◌, length, codes, decimal}
use Rattle.conditions.specs.Conditions.{Cond}
use Rattle.conditions.specs.Texts.{text_of}
use Rattle.books.specs.Derivations.{Node, node, Nodes, no_nodes, and_node, word_text}
use Rattle.books.specs.Books.{Line, Book, IsBook}

-- the byte behind each line
abbrev pub newline : ℕ
newline = 10

-- The texts of a node and of its premises.
abbrev mutual
  -- a node: its word, its number and its premises, in brackets
  pub node_text : Node → List ℕ
  node_text (node w n ds) = codes "(" ++ ((word_text w ++ codes " ") ++ (decimal n ++ (nodes_text ds ++ codes ")")))

  -- nodes side by side, each after a blank
  pub nodes_text : Nodes → List ℕ
  nodes_text no_nodes = []
  nodes_text (and_node d ds) = (codes " " ++ node_text d) ++ nodes_text ds

-- a method line: the method, the number of its tree, the derivation of its body
abbrev pub method_line_text : Line → List ℕ
method_line_text line = codes "method " ++ (decimal line.id ++ (codes " " ++ (decimal line.number ++ ((newline ∷ []) ++ (node_text line.body ++ (newline ∷ []))))))

-- the lines of methods, one after the other
abbrev pub method_lines_text : List Line → List ℕ
method_lines_text [] = []
method_lines_text (line ∷ lines) = method_line_text line ++ method_lines_text lines

-- the trees, each in a line
abbrev pub table_text : List Cond → List ℕ
table_text [] = []
table_text (t ∷ ts) = (text_of t ++ (newline ∷ [])) ++ table_text ts

-- a book as it is written
abbrev pub book_text : Book → List ℕ
book_text book =
    (codes "book " ++ (decimal (length book.table) ++ (newline ∷ []))) ++
    (table_text book.table ++ (method_lines_text book.lines ++ (codes "end" ++ (newline ∷ []))))

-- the bytes are the text of this book
pub record IsBookText (bytes : List ℕ) (book : Book) : Type 0 where
  pub book_is : IsBook book
  pub text_is : bytes ≡ book_text book
