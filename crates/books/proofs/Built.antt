-- Parts of a book that are built one after another, each from the front of what is still to come.
use Rattle.std.proofs.Common.{◌≡◌, ℕ, ◌<◌, ◌≤◌, ◌^◌, true, false, List, [], ◌∷◌, ◌++◌, map, length, Ok, Err, refl, sym, ◌∙◌, ap, arith, append-nil}
use Rattle.std.proofs.lemmas.List.{map-append}
use Rattle.conditions.specs.Conditions.{cond_of}
use Rattle.conditions.specs.declared.tree.Tree.{Tree}
use Rattle.books.specs.declared.derivation.Derivation.{Derivation}
use Rattle.books.specs.declared.word.Word.{Word}
use Rattle.books.specs.Derivations.{Node, node, and_node, nodes_from}
use Rattle.books.specs.Books.{Line}
use Rattle.books.specs.Texts.{book_text, IsBookText}
use Rattle.books.specs.Combine.{Res, begins, exactly, several}
use Rattle.books.specs.Memory.{book_of, method_line_of, node_of, nodes_at}
use Rattle.books.specs.Passing.{pass_table}
use Rattle.books.specs.Reading.{count_at, line_at, lines_at, node_at, premise_with, table_line}
use Rattle.books.specs.Views.{after_those, plain_line, IsReadAs}
use Rattle.books.proofs.BookLaws.{book_by, found_text, pass_table-is, Found}
use Rattle.books.proofs.CursorLaws.{lines_end}
use Rattle.books.proofs.PassBooks.{line_shorter}
use Rattle.books.proofs.PassLemmas.{premise_takes}
use Rattle.books.proofs.Several.{Takes, several_done, several_more, unseen}
use Rattle.books.proofs.TableLaws.{exactly_plain, moved, read_same}

-- one item more
item_pushed : {T A : Type 0} (f : T → A) (byte : ℕ) (item : List ℕ → Res A) → Takes item → (old new : List T) (t : T) (rest behind : List ℕ) →
    begins byte rest ≡ true → item rest ≡ Ok (f t, behind) → new ≡ old ++ (t ∷ []) →
    after_those (map f old) (several byte item rest) ≡ after_those (map f new) (several byte item behind)
item_pushed f byte item takes old new t rest behind go e pushed =
    ap (after_those (map f old)) (several_more byte item takes rest (f t) behind go e)
    ∙ moved (map f old) (f t) (several byte item behind)
    ∙ ap (λ z. after_those z (several byte item behind)) (sym (ap (map f) pushed ∙ map-append f old (t ∷ [])))

-- no more items
items_done : {A : Type 0} (byte : ℕ) (item : List ℕ → Res A) (so_far : List A) (rest : List ℕ) (p : Res (List A)) →
    p ≡ after_those so_far (several byte item rest) → begins byte rest ≡ false → p ≡ Ok (so_far, rest)
items_done byte item so_far rest p e stop =
    e ∙ ap (after_those so_far) (several_done byte item rest stop) ∙ ap (λ z. Ok (z, rest)) (append-nil so_far)

pub started : {A : Type 0} (p : Res (List A)) → p ≡ after_those [] p
started (Ok y) = refl
started (Err e) = refl

-- premises

pub premise_pushed : (count room : ℕ) (old new : List Derivation) (d : Derivation) (text rest behind : List ℕ) → count ≤ 2 ^ 32 →
    several 32 (premise_with (node_at count room)) text ≡ after_those (map node_of old) (several 32 (premise_with (node_at count room)) rest) → begins 32 rest ≡ true →
    premise_with (node_at count room) rest ≡ Ok (node_of d, behind) → new ≡ old ++ (d ∷ []) →
    several 32 (premise_with (node_at count room)) text ≡ after_those (map node_of new) (several 32 (premise_with (node_at count room)) behind)
premise_pushed count room old new d text rest behind small before go e pushed =
    before ∙ item_pushed node_of 32 (premise_with (node_at count room)) (λ ts x r is. premise_takes count (omega (arith, small)) room ts x r is) old new d rest behind go e pushed

pub premises_built : (count room : ℕ) (so_far : List Derivation) (text rest : List ℕ) →
    several 32 (premise_with (node_at count room)) text ≡ after_those (map node_of so_far) (several 32 (premise_with (node_at count room)) rest) → begins 32 rest ≡ false →
    several 32 (premise_with (node_at count room)) text ≡ Ok (map node_of so_far, rest)
premises_built count room so_far text rest e stop =
    items_done 32 (premise_with (node_at count room)) (map node_of so_far) rest (several 32 (premise_with (node_at count room)) text) e stop

pub premise_shorter : (count room : ℕ) (text rest : List ℕ) (d : Node) → count ≤ 2 ^ 32 → premise_with (node_at count room) text ≡ Ok (d, rest) → length rest < length text
premise_shorter count room text rest d small e = premise_takes count (omega (arith, small)) room text d rest e

-- the premises of a node in memory
pub nodes_same : (ds : List Derivation) → nodes_from (map node_of ds) ≡ nodes_at ds
nodes_same [] = refl
nodes_same (d ∷ ds) = ap (and_node (node_of d)) (nodes_same ds)

pub node_built : (x : Word) (n : ℕ) (ds : List Derivation) (d : Derivation) → node_of d ≡ node x n (nodes_at ds) → node x n (nodes_from (map node_of ds)) ≡ node_of d
node_built x n ds d e = ap (node x n) (nodes_same ds) ∙ sym e

-- method lines

pub line_shorter_in : (count : ℕ) (text rest : List ℕ) (line : Line) → count ≤ 2 ^ 32 → line_at count text ≡ Ok (line, rest) → length rest < length text
line_shorter_in count text rest line small e = line_shorter count (omega (arith, small)) text line rest e

pub line_pushed : (count : ℕ) (old new : List (ℕ × ℕ × Derivation)) (line : ℕ × ℕ × Derivation) (text rest behind : List ℕ) → count ≤ 2 ^ 32 →
    several 109 (line_at count) text ≡ after_those (map method_line_of old) (several 109 (line_at count) rest) → begins 109 rest ≡ true →
    line_at count rest ≡ Ok (method_line_of line, behind) → new ≡ old ++ (line ∷ []) →
    several 109 (line_at count) text ≡ after_those (map method_line_of new) (several 109 (line_at count) behind)
line_pushed count old new line text rest behind small before go e pushed =
    before ∙ item_pushed method_line_of 109 (line_at count) (λ ts x r is. line_shorter count (omega (arith, small)) ts x r is) old new line rest behind go e pushed

pub lines_built : (count : ℕ) (so_far : List (ℕ × ℕ × Derivation)) (text rest : List ℕ) →
    several 109 (line_at count) text ≡ after_those (map method_line_of so_far) (several 109 (line_at count) rest) → begins 109 rest ≡ false →
    several 109 (line_at count) text ≡ Ok (map method_line_of so_far, rest)
lines_built count so_far text rest e stop = items_done 109 (line_at count) (map method_line_of so_far) rest (several 109 (line_at count) text) e stop

-- a table and method lines, each read from its part of a text, are the book of the text
pub book_built : (bytes : List ℕ) (n : ℕ) (table lines rest : List ℕ) (trees : List Tree) (ls : List (ℕ × ℕ × Derivation)) → count_at bytes ≡ Ok (n, table) → pass_table n table ≡ Ok (tt, lines) →
    IsReadAs (map cond_of trees) (exactly n plain_line table) → lines_at n lines ≡ Ok (map method_line_of ls, rest) → IsBookText bytes (book_of (trees, ls))
book_built bytes n table lines rest trees ls counted passed built read =
    let whole = unseen (λ t. tt {0}) (exactly n table_line table) tt lines (sym (pass_table-is n table) ∙ passed) in
    let same : map cond_of trees ≡ whole.0 = read_same (map cond_of trees) whole.0 lines (exactly n plain_line table) built (exactly_plain n table whole.0 lines whole.1) in
    let tabled : exactly n table_line table ≡ Ok (map cond_of trees, lines) = whole.1 ∙ ap (λ z. Ok (z, lines)) (sym same) in
    let book = book_of (trees, ls) in
    let found : Found bytes n table lines rest = record { book = book; read = book_by bytes n table lines rest (map cond_of trees) (map method_line_of ls) counted tabled read; count = counted; trees = tabled; rest = read } in
    let text = found_text bytes n table lines rest found in
    let ended : rest ≡ [] = lines_end n lines (map method_line_of ls) rest read in
    record { book_is = text.1; text_is = text.0 ∙ ap (λ z. book_text book ++ z) ended ∙ append-nil (book_text book) }
