-- What the parts of an open book stand for.
use Rattle.std.proofs.Common.{◌≡◌, ℕ, ◌-◌, ◌<◌, ◌≤◌, ◌^◌, true, false, List, [], ◌∷◌, ◌++◌, length, codes, decimal, Some, None, Ok, Err, refl, sym, ◌∙◌, ap, arith, append_assoc, append-nil}
use Rattle.books.specs.declared.stop.Kind.{Kind}
use Rattle.books.specs.declared.stop.BookFault.{BookFault}
use Rattle.books.specs.declared.word.Word.{Word}
use Rattle.books.specs.declared.cursor.NodeView.{NodeView}
use Rattle.books.specs.declared.cursor.Premises.{Premises}
use Rattle.books.specs.declared.cursor.MethodView.{MethodView}
use Rattle.books.specs.declared.cursor.BookCursor.{BookCursor}
use Rattle.books.specs.Derivations.{Node, node, Nodes, no_nodes, and_node, word_at, conclusion_number, premises_of}
use Rattle.books.specs.Books.{Line, Book, IsMethodLine, IsNumbered, AreNumbered, node_high, nodes_high, most_nesting}
use Rattle.books.specs.Texts.{newline, node_text, nodes_text, method_line_text, method_lines_text, table_text, book_text, IsBookText}
use Rattle.books.specs.Combine.{Res, ◌>>=◌, unread, begins, expect, several, exactly}
use Rattle.books.specs.Reading.{line_at, lines_at, nothing_behind, table_line, book_at}
use Rattle.books.specs.Faults.{fault_at, fault_of, first_book_fault}
use Rattle.books.specs.Passing.{pass_node, pass_book}
use Rattle.books.specs.Views.{IsViewOf, ArePremises, IsNext, IsCursorAt, IsNextLine, head_at, view_at, premise_view_at, line_view_at, behind_head}
use Rattle.books.proofs.Sound.{sound_exactly, RowOf}
use Rattle.books.proofs.SoundTrees.{ReadsTableLine, sound_table_line}
use Rattle.books.proofs.Complete.{stops, complete_number, complete_word, complete_node, node_before, line_before}
use Rattle.books.proofs.PassLemmas.{pass_node-is, front_taken}
use Rattle.books.proofs.BookLaws.{book_found, found_text, book_fault, complete_book, after_ok, ok_value, sound_ok, row_trees, sound_lines, ReadsLines}

-- opening

pub nothing_left : (ts r : List ℕ) (u : Unit {0}) → nothing_behind ts ≡ Ok (u, r) → r ≡ []
nothing_left [] r u e = sym (rest_same e)
  where
    equal : (y z : Unit {0} × List ℕ) → (let p : Res (Unit {0}) = Ok y in p ≡ Ok z) → y ≡ z
    equal y z h = cc

    rest_same : (let p : Res (Unit {0}) = Ok (tt, []) in p ≡ Ok (u, r)) → [] ≡ r
    rest_same h = ap (λ z. z.1) (equal (tt, []) (u, r) h)
nothing_left (x ∷ ts) r u e = absurd (cc)

pub lines_end : (n : ℕ) (ts : List ℕ) (ls : List Line) (r : List ℕ) → lines_at n ts ≡ Ok (ls, r) → r ≡ []
unfolding lines_at
lines_end n ts ls r e =
    let a = after_ok (several 109 (line_at n) ts) (λ lines ts. expect (codes "end" ++ (newline ∷ [])) ts >>= λ u ts. nothing_behind ts >>= λ u ts. Ok (lines, ts)) (ls, r) e in
    let b = after_ok (expect (codes "end" ++ (newline ∷ [])) a.1) (λ u ts. nothing_behind ts >>= λ u ts. Ok (a.0, ts)) (ls, r) a.3 in
    let c = after_ok (nothing_behind b.1) (λ u ts. Ok (a.0, ts)) (ls, r) b.3 in
    rest_same a.0 c.1 c.3 ∙ nothing_left b.1 c.1 c.0 c.2
  where
    equal : (y z : List Line × List ℕ) → (let p : Res (List Line) = Ok y in p ≡ Ok z) → y ≡ z
    equal y z h = cc

    rest_same : (l : List Line) (s : List ℕ) → (let p : Res (List Line) = Ok (l, s) in p ≡ Ok (ls, r)) → r ≡ s
    rest_same l s h = sym (ap (λ z. z.1) (equal (l, s) (ls, r) h))

-- what an open book is
pub record Opened (bytes : List ℕ) (n : ℕ) (table lines : List ℕ) : Type 0 where
  pub book : Book
  pub read : book_at bytes ≡ Ok (book, [])
  pub text : IsBookText bytes book
  pub trees : n ≡ length book.table
  pub table_is : table ≡ table_text book.table ++ lines
  pub lines_are : lines ≡ method_lines_text book.lines ++ (codes "end" ++ (newline ∷ []))

pub opened : (bytes : List ℕ) (n : ℕ) (table lines r : List ℕ) → pass_book bytes ≡ Ok ((n, table, lines), r) → Opened bytes n table lines
opened bytes n table lines r e =
    let f = book_found bytes n table lines r e in
    let t = found_text bytes n table lines r f in
    let ended : r ≡ [] = lines_end n lines f.book.lines r f.rest in
    let trees = sound_ok (RowOf ReadsTableLine n) table f.book.table lines (exactly n table_line table) (sound_exactly ReadsTableLine table_line sound_table_line n table) f.trees in
    let row = row_trees trees.0 f.book.table trees.2.0 in
    let l = sound_ok (ReadsLines n) lines f.book.lines r (lines_at n lines) (sound_lines n (omega (arith, t.3)) lines) f.rest in
    record {
      book = f.book;
      read = f.read ∙ ap (λ z. Ok (f.book, z)) ended;
      text = record { book_is = t.1; text_is = t.0 ∙ ap (λ z. book_text f.book ++ z) ended ∙ append-nil (book_text f.book) };
      trees = t.2;
      table_is = trees.1 ∙ ap (λ z. z ++ lines) row.0;
      lines_are = l.1 ∙ ap (λ z. l.0 ++ z) ended ∙ append-nil l.0 ∙ l.2.0;
    }

-- one text has one book
pub one_book : (bytes : List ℕ) (a b : Book) → book_at bytes ≡ Ok (a, []) → IsBookText bytes b → a ≡ b
one_book bytes a b reads is = ok_value a b [] [] (sym reads ∙ complete_book bytes b is)

pub no_fault : (bytes : List ℕ) (book : Book) (r : List ℕ) (fault : BookFault) → book_at bytes ≡ Ok (book, r) → first_book_fault bytes ≡ Some fault → ⊥
no_fault bytes book r fault reads e = absurd (let none : None ≡ Some fault = sym (ap (fault_of (length bytes)) reads) ∙ e in cc)

pub has_fault : (bytes : List ℕ) (kind : Kind) (rest : List ℕ) → pass_book bytes ≡ Err (kind, rest) → first_book_fault bytes ≡ Some (fault_at kind (length bytes - length rest))
has_fault bytes kind rest e = ap (fault_of (length bytes)) (book_fault bytes (kind, rest) e)

pub same_fault : (a b : BookFault) (bytes : List ℕ) → first_book_fault bytes ≡ Some a → first_book_fault bytes ≡ Some b → a ≡ b
same_fault a b bytes e d = let same : Some a ≡ Some b = sym e ∙ d in cc

pub no_book : (bytes : List ℕ) (kind : Kind) (rest : List ℕ) (book : Book) → pass_book bytes ≡ Err (kind, rest) → IsBookText bytes book → ⊥
no_book bytes kind rest book e is = absurd (let no : Err (kind, rest) ≡ Ok (book, []) = sym (book_fault bytes (kind, rest) e) ∙ complete_book bytes book is in cc)

-- nodes

numbers_fit : (ds : Nodes) (more : List ℕ) → stops (nodes_text ds ++ (41 ∷ more)) ≡ true
numbers_fit no_nodes more = refl
numbers_fit (and_node d ds) more = refl

head_read : (x : Word) (n : ℕ) (ds : Nodes) (more : List ℕ) → n < 2 ^ 32 → head_at (node_text (node x n ds) ++ more) ≡ Ok ((x, n), nodes_text ds ++ (41 ∷ more))
head_read x n ds more small =
    ap head_at (node_before x n ds more)
    ∙ rw (complete_word x (decimal n ++ (nodes_text ds ++ (41 ∷ more))), complete_number (2 ^ 32) n (nodes_text ds ++ (41 ∷ more)) small (omega arith) (numbers_fit ds more)) refl

node_passed : (d : Node) (more : List ℕ) → IsNumbered (2 ^ 32) d → node_high d ≤ most_nesting → pass_node (2 ^ 32) most_nesting (node_text d ++ more) ≡ Ok (tt, more)
node_passed d more nums high =
    pass_node-is (2 ^ 32) most_nesting (node_text d ++ more) ∙ ap unread (complete_node (2 ^ 32) (omega arith) most_nesting d more nums high)

pub view_read : (d : Node) (more : List ℕ) → IsNumbered (2 ^ 32) d → node_high d ≤ most_nesting → view_at (node_text d ++ more) ≡ Ok ((word_at d, conclusion_number d, node_text d), more)
view_read (node x n ds) more nums high =
    rw (head_read x n ds more nums.0, node_passed (node x n ds) more nums high) (ap (λ z. Ok ((x, n, z), more)) (front_taken (node_text (node x n ds)) more))

pub premise_read : (d : Node) (ds : Nodes) → IsNumbered (2 ^ 32) d → node_high d ≤ most_nesting →
    premise_view_at (nodes_text (and_node d ds) ++ codes ")") ≡ Ok ((word_at d, conclusion_number d, node_text d), nodes_text ds ++ codes ")")
premise_read d ds nums high =
    ap (λ z. view_at z) (append_assoc (node_text d) (nodes_text ds) (codes ")")) ∙ view_read d (nodes_text ds ++ codes ")") nums high

pub premises_of_view : (view : NodeView) (rest : List ℕ) (d : Node) → rest ≡ behind_head (head_at view.bytes.now) → IsViewOf view d → rest ≡ nodes_text (premises_of d) ++ codes ")"
premises_of_view view rest (node x n ds) e is =
    e ∙ ap (λ z. behind_head (head_at z)) (is.bytes ∙ sym (append-nil (node_text (node x n ds)))) ∙ ap behind_head (head_read x n ds [] is.numbered.0)

pub premises_numbered : (view : NodeView) (d : Node) → IsViewOf view d → AreNumbered (2 ^ 32) (premises_of d) × (nodes_high (premises_of d) ≤ most_nesting)
premises_numbered view (node x n ds) is = (is.numbered.1, omega (arith, is.high))

-- what was read of a view
record Same (a b : Word × ℕ × List ℕ) (r s : List ℕ) : Type 0 where
  word : a.0 ≡ b.0
  number : a.1 ≡ b.1
  bytes : a.2 ≡ b.2
  rest : r ≡ s

same_view : (a b : Word × ℕ × List ℕ) (r s : List ℕ) → (let p : Res (Word × ℕ × List ℕ) = Ok (a, r) in p ≡ Ok (b, s)) → Same a b r s
same_view a b r s e =
    let same = equal (a, r) (b, s) e in
    record { word = ap (λ z. z.0.0) same; number = ap (λ z. z.0.1) same; bytes = ap (λ z. z.0.2) same; rest = ap (λ z. z.1) same }
  where
    equal : (y z : (Word × ℕ × List ℕ) × List ℕ) → (let p : Res (Word × ℕ × List ℕ) = Ok y in p ≡ Ok z) → y ≡ z
    equal y z h = cc

pub next_none : (ds : Nodes) (old : Premises) → ArePremises old ds → begins 32 old.rest.now ≡ false → IsNext ds None old
next_none no_nodes old are e = are
next_none (and_node d ds) old are e = absurd (let no : true ≡ false = sym (ap (begins 32) are.text) ∙ e in cc)

pub next_fault : (ds : Nodes) (old : Premises) (k : Kind × List ℕ) → ArePremises old ds → begins 32 old.rest.now ≡ true → premise_view_at old.rest.now ≡ Err k → IsNext ds None old
next_fault no_nodes old k are e f = are
next_fault (and_node d ds) old k are e f =
    absurd (let no : Err k ≡ Ok ((word_at d, conclusion_number d, node_text d), nodes_text ds ++ codes ")") = sym f ∙ ap premise_view_at are.text ∙ premise_read d ds are.numbered.0 (omega (arith, are.high)) in cc)

pub next_some : (ds : Nodes) (old new : Premises) (view : NodeView) → ArePremises old ds → begins 32 old.rest.now ≡ true →
    premise_view_at old.rest.now ≡ Ok ((view.word, view.number, view.bytes.now), new.rest.now) → IsNext ds (Some view) new
next_some no_nodes old new view are e f = absurd (let no : false ≡ true = sym (ap (begins 32) are.text) ∙ e in cc)
next_some (and_node d ds) old new view are e f =
    let same = same_view (view.word, view.number, view.bytes.now) (word_at d, conclusion_number d, node_text d) new.rest.now (nodes_text ds ++ codes ")")
    (sym f ∙ ap premise_view_at are.text ∙ premise_read d ds are.numbered.0 (omega (arith, are.high))) in (
      record { word = same.word; number = same.number; bytes = same.bytes; numbered = are.numbered.0; high = omega (arith, are.high) },
      record { text = same.rest; numbered = are.numbered.1; high = omega (arith, are.high) },
    )

-- method lines

mutual
  pub widened : (n m : ℕ) → n ≤ m → (ds : Nodes) → AreNumbered n ds → AreNumbered m ds
  widened n m more no_nodes is = tt
  widened n m more (and_node d ds) is = (widened_one n m more d is.0, widened n m more ds is.1)

  pub widened_one : (n m : ℕ) → n ≤ m → (d : Node) → IsNumbered n d → IsNumbered m d
  widened_one n m more (node x k ds) is = (omega (arith, is.0, more), widened n m more ds is.1)

line_read : (count : ℕ) → count < 2 ^ 32 → (line : Line) (more : List ℕ) → IsMethodLine count line →
    line_view_at (method_line_text line ++ more) ≡ Ok ((line.id, line.number, word_at line.body, conclusion_number line.body, node_text line.body), more)
line_read count small line more is =
    let rest_d = newline ∷ more in
    let rest_n = newline ∷ (node_text line.body ++ rest_d) in
    let rest_i = codes " " ++ (decimal line.number ++ rest_n) in
    ap line_view_at (line_before line more)
    ∙ rw (
      complete_number (2 ^ 32) line.id rest_i is.id (omega arith) refl,
      complete_number (2 ^ 32) line.number rest_n (omega (arith, is.number, small)) (omega arith) refl,
      view_read line.body rest_d (widened_one count (2 ^ 32) (omega (arith, small)) line.body is.numbered) is.high,
    ) refl

record SameLine (a b : ℕ × ℕ × Word × ℕ × List ℕ) (r s : List ℕ) : Type 0 where
  id : a.0 ≡ b.0
  tree : a.1 ≡ b.1
  word : a.2 ≡ b.2
  number : a.3 ≡ b.3
  bytes : a.4 ≡ b.4
  rest : r ≡ s

same_line : (a b : ℕ × ℕ × Word × ℕ × List ℕ) (r s : List ℕ) → (let p : Res (ℕ × ℕ × Word × ℕ × List ℕ) = Ok (a, r) in p ≡ Ok (b, s)) → SameLine a b r s
same_line a b r s e =
    let same = equal (a, r) (b, s) e in
    record { id = ap (λ z. z.0.0) same; tree = ap (λ z. z.0.1) same; word = ap (λ z. z.0.2) same; number = ap (λ z. z.0.3) same; bytes = ap (λ z. z.0.4) same; rest = ap (λ z. z.1) same }
  where
    equal : (y z : (ℕ × ℕ × Word × ℕ × List ℕ) × List ℕ) → (let p : Res (ℕ × ℕ × Word × ℕ × List ℕ) = Ok y in p ≡ Ok z) → y ≡ z
    equal y z h = cc

-- a cursor at a book with these lines
abbrev At : BookCursor → Book → List Line → Type 0
At cursor book lines = IsCursorAt cursor (record { table = book.table; lines = lines })

line_front : (cursor : BookCursor) (book : Book) (line : Line) (lines : List Line) → At cursor book (line ∷ lines) →
    cursor.lines.now ≡ method_line_text line ++ (method_lines_text lines ++ (codes "end" ++ (newline ∷ [])))
line_front cursor book line lines at = at.lines ∙ append_assoc (method_line_text line) (method_lines_text lines) (codes "end" ++ (newline ∷ []))

pub next_line_none : (book : Book) (lines : List Line) (old : BookCursor) → At old book lines → begins 109 old.lines.now ≡ false → IsNextLine book lines None old
next_line_none book [] old at e = record { trees = at.trees; table = at.table; lines = at.lines; book_is = at.book_is }
next_line_none book (line ∷ lines) old at e = absurd (let no : true ≡ false = sym (ap (begins 109) at.lines) ∙ e in cc)

pub next_line_fault : (book : Book) (lines : List Line) (old : BookCursor) (k : Kind × List ℕ) → At old book lines → begins 109 old.lines.now ≡ true → line_view_at old.lines.now ≡ Err k →
    IsNextLine book lines None old
next_line_fault book [] old k at e f = absurd (let no : false ≡ true = sym (ap (begins 109) at.lines) ∙ e in cc)
next_line_fault book (line ∷ lines) old k at e f =
    absurd (let no : Err k ≡ Ok ((line.id, line.number, word_at line.body, conclusion_number line.body, node_text line.body), method_lines_text lines ++ (codes "end" ++ (newline ∷ []))) =
    sym f ∙ ap line_view_at (line_front old book line lines at) ∙ line_read (length book.table) at.book_is.few line (method_lines_text lines ++ (codes "end" ++ (newline ∷ []))) at.book_is.lines.0 in cc)

pub next_line_some : (book : Book) (lines : List Line) (old new : BookCursor) (view : MethodView) → At old book lines → begins 109 old.lines.now ≡ true →
    line_view_at old.lines.now ≡ Ok ((view.id, view.number, view.node.word, view.node.number, view.node.bytes.now), new.lines.now) →
    new.trees ≡ old.trees → new.table.now ≡ old.table.now → new.all_lines.now ≡ old.all_lines.now → IsNextLine book lines (Some view) new
next_line_some book [] old new view at e f same_trees same_table same_lines = absurd (let no : false ≡ true = sym (ap (begins 109) at.lines) ∙ e in cc)
next_line_some book (line ∷ lines) old new view at e f same_trees same_table same_lines =
    let rest = method_lines_text lines ++ (codes "end" ++ (newline ∷ [])) in
    let of_line = at.book_is.lines.0 in
    let same = same_line (view.id, view.number, view.node.word, view.node.number, view.node.bytes.now) (line.id, line.number, word_at line.body, conclusion_number line.body, node_text line.body) new.lines.now rest
    (sym f ∙ ap line_view_at (line_front old book line lines at) ∙ line_read (length book.table) at.book_is.few line rest of_line) in (
      record {
        id = same.id;
        number = same.tree;
        node = record { word = same.word; number = same.number; bytes = same.bytes; numbered = widened_one (length book.table) (2 ^ 32) (omega (arith, at.book_is.few)) line.body of_line.numbered; high = of_line.high };
      },
      record {
        trees = same_trees ∙ at.trees;
        table = same_table ∙ at.table ∙ ap (λ z. table_text book.table ++ z) (sym same_lines);
        lines = same.rest;
        book_is = record { few = at.book_is.few; trees = at.book_is.trees; lines = at.book_is.lines.1 };
      },
    )
