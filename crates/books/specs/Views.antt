-- What the parts of a book that are lent from its bytes stand for.
use Rattle.std.specs.Prelude.{◌≡◌, ℕ, ◌-◌, ◌^◌, ◌≤◌, List, [], ◌∷◌, ◌++◌, length, take, codes, Option, Some, None, Ok, Err}
use Rattle.books.specs.declared.word.Word.{Word}
use Rattle.books.specs.declared.cursor.NodeView.{NodeView}
use Rattle.books.specs.declared.cursor.Premises.{Premises}
use Rattle.books.specs.declared.cursor.MethodView.{MethodView}
use Rattle.books.specs.declared.cursor.BookCursor.{BookCursor}
use Rattle.books.specs.Derivations.{Node, Nodes, no_nodes, and_node, nodes_from, word_at, conclusion_number}
use Rattle.books.specs.Books.{Line, Book, IsBook, IsNumbered, AreNumbered, node_high, nodes_high, most_nesting}
use Rattle.books.specs.Texts.{newline, node_text, nodes_text, method_lines_text, table_text}
use Rattle.books.specs.Combine.{Res, ◌>>=◌, expect, several}
use Rattle.books.specs.Reading.{number_at, word_at_front, premise_with, node_at, tree_at, lines_at}
use Rattle.conditions.specs.Conditions.{Cond}
use Rattle.books.specs.Passing.{pass_node}

-- the view of a node: its word, its number and its text
pub record IsViewOf (view : NodeView) (d : Node) : Type 0 where
  pub word : view.word ≡ word_at d
  pub number : view.number ≡ conclusion_number d
  pub bytes : view.bytes.now ≡ node_text d
  pub numbered : IsNumbered (2 ^ 32) d
  pub high : node_high d ≤ most_nesting

-- premises that are still to come: their text, and the bracket behind them
pub record ArePremises (premises : Premises) (ds : Nodes) : Type 0 where
  pub text : premises.rest.now ≡ nodes_text ds ++ codes ")"
  pub numbered : AreNumbered (2 ^ 32) ds
  pub high : nodes_high ds ≤ most_nesting

-- the next of the premises, and those that are then still to come; none exactly where there are none
abbrev pub IsNext : Nodes → Option NodeView → Premises → Type 0
IsNext no_nodes None new = ArePremises new no_nodes
IsNext no_nodes (Some view) new = ⊥
IsNext (and_node d ds) None new = ⊥
IsNext (and_node d ds) (Some view) new = IsViewOf view d × ArePremises new ds

-- the view of a method line
pub record IsMethodOf (view : MethodView) (line : Line) : Type 0 where
  pub id : view.id ≡ line.id
  pub number : view.number ≡ line.number
  pub node : IsViewOf view.node line.body

-- a cursor at a book with the method lines that are still to come
pub record IsCursorAt (cursor : BookCursor) (book : Book) : Type 0 where
  pub trees : cursor.trees ≡ length book.table
  pub table : cursor.table.now ≡ table_text book.table ++ cursor.all_lines.now
  pub lines : cursor.lines.now ≡ method_lines_text book.lines ++ (codes "end" ++ (newline ∷ []))
  pub book_is : IsBook book

-- the next of the method lines, and those that are then still to come; none exactly where there are none
abbrev pub IsNextLine : Book → List Line → Option MethodView → BookCursor → Type 0
IsNextLine book [] None new = IsCursorAt new (record { table = book.table; lines = [] })
IsNextLine book [] (Some view) new = ⊥
IsNextLine book (line ∷ lines) None new = ⊥
IsNextLine book (line ∷ lines) (Some view) new = IsMethodOf view line × IsCursorAt new (record { table = book.table; lines = lines })

-- the word and the number of a node
abbrev pub head_at : List ℕ → Res (Word × ℕ)
head_at ts = expect (codes "(") ts >>= λ u ts. word_at_front ts >>= λ w ts. number_at (2 ^ 32) ts >>= λ n ts. Ok ((w, n), ts)

-- the word, the number and the text of a node
abbrev pub view_at : List ℕ → Res (Word × ℕ × List ℕ)
view_at ts = head_at ts >>= λ h premises. pass_node (2 ^ 32) most_nesting ts >>= λ u rest. Ok ((h.0, h.1, take (length ts - length rest) ts), rest)

-- the same after a blank
abbrev pub premise_view_at : List ℕ → Res (Word × ℕ × List ℕ)
premise_view_at ts = expect (codes " ") ts >>= λ u ts. view_at ts

-- a method line: the method, the number of its tree, and the node
abbrev pub line_view_at : List ℕ → Res (ℕ × ℕ × Word × ℕ × List ℕ)
line_view_at ts =
    expect (codes "method ") ts >>= λ u ts. number_at (2 ^ 32) ts >>= λ id ts. expect (codes " ") ts >>= λ u ts.
    number_at (2 ^ 32) ts >>= λ n ts. expect (newline ∷ []) ts >>= λ u ts. view_at ts >>= λ v ts.
    expect (newline ∷ []) ts >>= λ u ts. Ok ((id, n, v.0, v.1, v.2), ts)

-- what is behind the word and the number of a node; nothing where none stands
abbrev pub behind_head : Res (Word × ℕ) → List ℕ
behind_head (Ok y) = y.1
behind_head (Err e) = codes ")"

-- nodes as they are read; none where they can't be
abbrev pub nodes_of : Res (List Node) → Nodes
nodes_of (Ok y) = nodes_from y.0
nodes_of (Err e) = no_nodes

-- the nodes that a text of premises has
abbrev pub nodes_in : List ℕ → Nodes
nodes_in ts = nodes_of (several 32 (premise_with (node_at (2 ^ 32) most_nesting)) ts)

-- method lines as they are read; none where they can't be
abbrev pub lines_of : Res (List Line) → List Line
lines_of (Ok y) = y.0
lines_of (Err e) = []

-- the method lines that a text has, up to the end of the book
abbrev pub lines_in : List ℕ → List Line
lines_in ts = lines_of (lines_at (2 ^ 32) ts)

-- a cursor stands at some book with the method lines that its text has
pub record IsAtSome (cursor : BookCursor) : Type 0 where
  pub table : List Cond
  pub at : IsCursorAt cursor (record { table = table; lines = lines_in cursor.lines.now })

-- a line of the table, canonical or not
abbrev pub plain_line : List ℕ → Res Cond
plain_line ts = tree_at most_nesting ts >>= λ t ts. expect (newline ∷ []) ts >>= λ u ts. Ok (t, ts)

-- more items behind those that were read before
abbrev pub after_those : {A : Type 0} → List A → Res (List A) → Res (List A)
after_those so_far read = read >>= λ more ts. Ok (so_far ++ more, ts)

-- what was read
abbrev pub IsReadAs : {A : Type 0} → A → Res A → Type 0
IsReadAs x (Ok y) = y.0 ≡ x
IsReadAs x (Err e) = ⊥
