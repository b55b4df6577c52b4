-- The texts of books that keep the grammar are read by the reader that asks for no more.
use Rattle.std.proofs.Common.{◌≡◌, ◌^◌, ℕ, false, List, [], ◌∷◌, ◌++◌, length, codes, decimal, Ok, refl, ◌∙◌, ap, arith, append_assoc}
use Rattle.std.specs.List.{AllByRecursion}
use Rattle.conditions.specs.Conditions.{Cond}
use Rattle.conditions.specs.Texts.{text_of}
use Rattle.books.specs.Books.{Line, Book, IsBook, AreTrees, AreMethodLines, most_nesting}
use Rattle.books.specs.Combine.{◌>>=◌, begins, several, exactly}
use Rattle.books.specs.Reading.{tree_at}
use Rattle.books.specs.Texts.{newline, node_text, method_line_text, method_lines_text, table_text, book_text}
use Rattle.books.proofs.Complete.{complete_number, complete_tree, complete_node, line_before}
use Rattle.books.proofs.Several.{several_done, several_more}
use Rattle.books.proofs.TableLaws.{lines_wider}
use Rattle.book_faults.specs.Loose.{IsLooseTree, IsLooseLine, IsLooseBook}
use Rattle.book_faults.proofs.TreeStops.{loose_table_line}
use Rattle.book_faults.proofs.NodeStops.{loose_line, line_takes}
use Rattle.book_faults.proofs.BookStops.{loose_lines, loose_book}
use Rattle.book_faults.proofs.Breaking.{complete_count}

read_tree_line : (t : Cond) (z rest : List ℕ) → tree_at most_nesting z ≡ Ok (t, newline ∷ rest) → loose_table_line z ≡ Ok (t, rest)
read_tree_line t z rest e = rw e refl

read_table : (ts : List Cond) (more : List ℕ) → AllByRecursion IsLooseTree ts → exactly (length ts) loose_table_line (table_text ts ++ more) ≡ Ok (ts, more)
read_table [] more are = refl
read_table (t ∷ ts) more are =
    let group : ((text_of t ++ (newline ∷ [])) ++ table_text ts) ++ more ≡ text_of t ++ (newline ∷ (table_text ts ++ more)) =
    append_assoc (text_of t ++ (newline ∷ [])) (table_text ts) more ∙ append_assoc (text_of t) (newline ∷ []) (table_text ts ++ more) in
    let first : loose_table_line (((text_of t ++ (newline ∷ [])) ++ table_text ts) ++ more) ≡ Ok (t, table_text ts ++ more) =
    ap loose_table_line group ∙ read_tree_line t (text_of t ++ (newline ∷ (table_text ts ++ more))) (table_text ts ++ more) (complete_tree t (newline ∷ (table_text ts ++ more)) are.0.0 most_nesting are.0.1) in
    rw (first, read_table ts more are.1) refl

read_line : (line : Line) (more : List ℕ) → IsLooseLine line → loose_line (method_line_text line ++ more) ≡ Ok (line, more)
read_line line more is =
    let rest_d = newline ∷ more in
    let rest_n = newline ∷ (node_text line.body ++ rest_d) in
    let rest_i = codes " " ++ (decimal line.number ++ rest_n) in
    ap loose_line (line_before line more)
    ∙ rw (
      complete_number (2 ^ 32) line.id rest_i is.id (omega arith) refl,
      complete_number (2 ^ 32) line.number rest_n is.number (omega arith) refl,
      complete_node (2 ^ 32) (omega arith) 65 line.body rest_d is.numbered is.high,
    ) refl

read_rows : (ls : List Line) (more : List ℕ) → AllByRecursion IsLooseLine ls → begins 109 more ≡ false → several 109 loose_line (method_lines_text ls ++ more) ≡ Ok (ls, more)
read_rows [] more are next = several_done 109 loose_line more next
read_rows (l ∷ ls) more are next =
    let R = method_lines_text ls ++ more in
    let group : (method_line_text l ++ method_lines_text ls) ++ more ≡ method_line_text l ++ R = append_assoc (method_line_text l) (method_lines_text ls) more in
    ap (several 109 loose_line) group
    ∙ several_more 109 loose_line line_takes (method_line_text l ++ R) l R refl (read_line l R are.0)
    ∙ ap (λ q. q >>= λ xs ts. Ok (l ∷ xs, ts)) (read_rows ls more are.1 next)

read_lines : (ls : List Line) → AllByRecursion IsLooseLine ls → loose_lines (method_lines_text ls ++ (codes "end" ++ (newline ∷ []))) ≡ Ok (ls, [])
read_lines ls are = rw (read_rows ls (codes "end" ++ (newline ∷ [])) are refl) refl

pub read_loose : (book : Book) → IsLooseBook book → loose_book (book_text book) ≡ Ok (book, [])
read_loose book is =
    let L = method_lines_text book.lines ++ (codes "end" ++ (newline ∷ [])) in
    rw (complete_count (length book.table) (table_text book.table ++ L) is.few, read_table book.table L is.trees, read_lines book.lines is.lines) refl

-- ---- a book that can be written keeps the grammar

loose_trees : (ts : List Cond) → AreTrees ts → AllByRecursion IsLooseTree ts
loose_trees [] are = tt
loose_trees (t ∷ ts) are = ((are.0.paths, are.0.high), loose_trees ts are.1)

loose_all : (ls : List Line) → AreMethodLines (2 ^ 32) ls → AllByRecursion IsLooseLine ls
loose_all [] are = tt
loose_all (l ∷ ls) are = (record { id = are.0.id; number = are.0.number; numbered = are.0.numbered; high = omega (arith, are.0.high) }, loose_all ls are.1)

pub loose_of : (book : Book) → IsBook book → IsLooseBook book
loose_of book is = record { few = is.few; trees = loose_trees book.table is.trees; lines = loose_all book.lines (lines_wider (length book.table) is.few book.lines is.lines) }
