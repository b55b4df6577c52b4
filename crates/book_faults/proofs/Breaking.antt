-- Where a rule is broken, reading stops with its kind.
use Rattle.std.proofs.Common.{◌≡◌, ℕ, zero, suc, ◌<◌, ◌≤◌, ◌^◌, true, false, List, [], ◌∷◌, ◌++◌, length, codes, decimal, Ok, Err, None, refl, sym, ◌∙◌, ap, subst, arith, append_assoc}
use Rattle.conditions.specs.Conditions.{Cond, LeafC, TestC}
use Rattle.conditions.specs.Texts.{path_text, text_of}
use Rattle.books.specs.declared.stop.Kind.{Kind}
use Rattle.books.specs.declared.stop.Kind.TheVariants.{Form, TooDeep}
use Rattle.books.specs.Derivations.{Nodes, no_nodes, and_node, word_text}
use Rattle.books.specs.Books.{Line, HasPaths, tests_high, AreTrees, is_canonical, AreNumbered, nodes_high, AreMethodLines, most_nesting}
use Rattle.books.specs.Broken.{IsPast}
use Rattle.books.specs.BrokenPaths.{BreaksPath, root, field, late}
use Rattle.books.specs.Combine.{Res, ◌>>=◌, begins, several, exactly}
use Rattle.books.specs.Reading.{path_at, test_with, tree_at, canonical_at, table_line, premise_with, node_at, line_at, count_at, lines_at, book_at}
use Rattle.books.specs.Texts.{newline, node_text, nodes_text, method_line_text, method_lines_text, table_text}
use Rattle.books.proofs.BookLaws.{complete_table}
use Rattle.books.proofs.Complete.{stops, complete_number, complete_path, complete_tree, complete_canonical, complete_word, complete_node, complete_line}
use Rattle.books.proofs.PassLemmas.{premise_takes}
use Rattle.books.proofs.PathFaults.{past_number, some_digit, path_stops, no_root}
use Rattle.books.proofs.Several.{Takes, several_fault, several_more}
use Rattle.books.proofs.SoundTrees.{ReadsLine, test_text, sound_line}
use Rattle.book_faults.specs.Breaks.{BreaksTest, in_path, in_held, in_free, BreaksTree, BreaksTableTree, inside, uncanonical, at_number, in_premise, BreaksNode, BreaksLine, at_method, at_tree, in_body, table_heading, BreaksBook, at_count, in_tree, in_line}
use Rattle.book_faults.proofs.RowStops.{takes_by}

-- ---- trees

broken_path : (ahead rest : List ℕ) → BreaksPath None ahead rest → path_at (ahead ++ rest) ≡ Err (Form, rest)
broken_path ahead rest (root none past) = ap (λ z. path_at (z ++ rest)) none ∙ no_root rest (past_number (2 ^ 16) rest past)
broken_path ahead rest (field p is few text past) =
    ap (λ z. path_at (z ++ rest)) text ∙ ap path_at (append_assoc (path_text p) (codes ".") rest) ∙ path_stops p rest is few (past_number (2 ^ 32) rest past)
broken_path ahead rest (late p behind none e f) = absurd (let no : true ≡ false = f in cc)

some_path : (ahead rest : List ℕ) → BreaksPath None ahead rest → 0 < length rest
some_path ahead rest (root none past) = some_digit (2 ^ 16) rest past
some_path ahead rest (field p is few text past) = some_digit (2 ^ 32) rest past
some_path ahead rest (late p behind none e f) = absurd (let no : true ≡ false = f in cc)

-- what a reader of trees must do
record Inner (room : ℕ) (kind : Kind) (inner : List ℕ → Res Cond) (I : List ℕ → List ℕ → Type 0) : Type 0 where
  breaks : (front rest : List ℕ) → I front rest → inner (front ++ rest) ≡ Err (kind, rest)
  reads : (t : Cond) (more : List ℕ) → HasPaths t → tests_high t ≤ room → inner (text_of t ++ more) ≡ Ok (t, more)

of_kind : {A : Type 0} (kind : Kind) (rest : List ℕ) (x : Res A) → kind ≡ Form → x ≡ Err (Form, rest) → x ≡ Err (kind, rest)
of_kind kind rest x is e = e ∙ ap (λ k. Err (k, rest)) (sym is)

test_in_path : (inner : List ℕ → Res Cond) (ahead rest : List ℕ) → path_at (ahead ++ rest) ≡ Err (Form, rest) → test_with inner (40 ∷ (ahead ++ rest)) ≡ Err (Form, rest)
test_in_path inner ahead rest e = rw e refl

test_stops : (room : ℕ) (kind : Kind) (inner : List ℕ → Res Cond) (I : List ℕ → List ℕ → Type 0) → Inner room kind inner I → (front rest : List ℕ) → BreaksTest kind room I front rest → test_with inner (front ++ rest) ≡ Err (kind, rest)
test_stops room kind inner I law front rest (in_path ahead is text b) =
    of_kind kind rest (test_with inner (front ++ rest)) is (ap (λ z. test_with inner (z ++ rest)) text ∙ test_in_path inner ahead rest (broken_path ahead rest b))
test_stops room kind inner I law front rest (in_held p ahead is text b) =
    let P = path_text p in
    ap (λ z. test_with inner (z ++ rest)) text ∙ ap (λ z. test_with inner (40 ∷ z)) (append_assoc P (32 ∷ ahead) rest)
    ∙ rw (complete_path p (ahead ++ rest) is, law.breaks ahead rest b) refl
test_stops room kind inner I law front rest (in_free p a ahead is paths high text b) =
    let P = path_text p in let A = text_of a in
    ap (λ z. test_with inner (z ++ rest)) text
    ∙ ap (λ z. test_with inner (40 ∷ z)) (append_assoc P (32 ∷ (A ++ (32 ∷ ahead))) rest ∙ ap (λ z. P ++ (32 ∷ z)) (append_assoc A (32 ∷ ahead) rest))
    ∙ rw (complete_path p (A ++ (32 ∷ (ahead ++ rest))) is, law.reads a (32 ∷ (ahead ++ rest)) paths high, law.breaks ahead rest b) refl

-- a test begins with a bracket
test_begins : (room : ℕ) (kind : Kind) (I : List ℕ → List ℕ → Type 0) (front rest : List ℕ) → BreaksTest kind room I front rest → (more : List ℕ) × (front ++ rest ≡ 40 ∷ more)
test_begins room kind I front rest (in_path ahead is text b) = (ahead ++ rest, ap (λ z. z ++ rest) text)
test_begins room kind I front rest (in_held p ahead is text b) = ((path_text p ++ (32 ∷ ahead)) ++ rest, ap (λ z. z ++ rest) text)
test_begins room kind I front rest (in_free p a ahead is paths high text b) = ((path_text p ++ (32 ∷ (text_of a ++ (32 ∷ ahead)))) ++ rest, ap (λ z. z ++ rest) text)

as_test : (room : ℕ) (ts more : List ℕ) → ts ≡ 40 ∷ more → tree_at (suc room) ts ≡ test_with (tree_at room) ts
unfolding tree_at
as_test room ts more e = ap (tree_at (suc room)) e ∙ sym (ap (test_with (tree_at room)) e)

no_deeper : (rest : List ℕ) → begins 40 rest ≡ true → tree_at 0 rest ≡ Err (TooDeep, rest)
unfolding tree_at
no_deeper rest h = rw h refl

of_deep : {A : Type 0} (kind : Kind) (rest : List ℕ) (x : Res A) → kind ≡ TooDeep → x ≡ Err (TooDeep, rest) → x ≡ Err (kind, rest)
of_deep kind rest x is e = e ∙ ap (λ k. Err (k, rest)) (sym is)

tree_stops : (room : ℕ) (kind : Kind) (front rest : List ℕ) → BreaksTree kind room front rest → tree_at room (front ++ rest) ≡ Err (kind, rest)
tree_stops zero kind front rest b = of_deep kind rest (tree_at 0 (front ++ rest)) b.0 (ap (λ z. tree_at 0 (z ++ rest)) b.1 ∙ no_deeper rest b.2)
tree_stops (suc room) kind front rest b =
    let start = test_begins room kind (BreaksTree kind room) front rest b in
    as_test room (front ++ rest) start.0 start.1
    ∙ test_stops room kind (tree_at room) (BreaksTree kind room)
    (record { breaks = λ front rest b. tree_stops room kind front rest b; reads = λ t more paths high. complete_tree t more paths room high }) front rest b

begun : (byte : ℕ) (rest : List ℕ) → begins byte rest ≡ true → 0 < length rest
begun byte [] h = absurd (let no : false ≡ true = h in cc)
begun byte (b ∷ rest) h = omega arith

test_there : (room : ℕ) (kind : Kind) (I : List ℕ → List ℕ → Type 0) → ((front rest : List ℕ) → I front rest → 0 < length rest) → (front rest : List ℕ) → BreaksTest kind room I front rest → 0 < length rest
test_there room kind I law front rest (in_path ahead is text b) = some_path ahead rest b
test_there room kind I law front rest (in_held p ahead is text b) = law ahead rest b
test_there room kind I law front rest (in_free p a ahead is paths high text b) = law ahead rest b

tree_there : (room : ℕ) (kind : Kind) (front rest : List ℕ) → BreaksTree kind room front rest → 0 < length rest
tree_there zero kind front rest b = begun 40 rest b.2
tree_there (suc room) kind front rest b = test_there room kind (BreaksTree kind room) (λ front rest b. tree_there room kind front rest b) front rest b

-- ---- trees of the table

inside_stops : (kind : Kind) (ts rest : List ℕ) → tree_at most_nesting ts ≡ Err (kind, rest) → canonical_at ts ≡ Err (kind, rest)
unfolding canonical_at
inside_stops kind ts rest e = rw e refl

uncanonical_stops : (t : Cond) (ts behind : List ℕ) → tree_at most_nesting ts ≡ Ok (t, behind) → is_canonical t ≡ false → canonical_at ts ≡ Err (Form, ts)
unfolding canonical_at
uncanonical_stops t ts behind e fails = rw (e, fails) refl

table_tree_stops : (kind : Kind) (front rest : List ℕ) → BreaksTableTree kind front rest → canonical_at (front ++ rest) ≡ Err (kind, rest)
table_tree_stops kind front rest (inside b) = inside_stops kind (front ++ rest) rest (tree_stops most_nesting kind front rest b)
table_tree_stops kind front rest (uncanonical t behind is none text paths high fails) =
    of_kind kind rest (canonical_at (front ++ rest)) is (ap (λ z. canonical_at (z ++ rest)) none
    ∙ uncanonical_stops t rest behind (ap (tree_at most_nesting) text ∙ complete_tree t behind paths most_nesting high) fails)

some_tree : (t : Cond) (behind : List ℕ) → is_canonical t ≡ false → 0 < length (text_of t ++ behind)
some_tree (LeafC b) behind fails = absurd (let wrong : true ≡ false = fails in cc)
some_tree (TestC p a b) behind fails = subst (λ z. 0 < length (z ++ behind)) (sym (test_text p a b)) (omega arith)

table_tree_there : (kind : Kind) (front rest : List ℕ) → BreaksTableTree kind front rest → 0 < length rest
table_tree_there kind front rest (inside b) = tree_there most_nesting kind front rest b
table_tree_there kind front rest (uncanonical t behind is none text paths high fails) = subst (λ z. 0 < length z) (sym text) (some_tree t behind fails)

table_line_stops : (kind : Kind) (ts rest : List ℕ) → canonical_at ts ≡ Err (kind, rest) → table_line ts ≡ Err (kind, rest)
table_line_stops kind ts rest e = rw e refl

complete_tree_line : (t : Cond) (z rest : List ℕ) → canonical_at z ≡ Ok (t, newline ∷ rest) → table_line z ≡ Ok (t, rest)
complete_tree_line t z rest e = rw e refl

table_stops : (n : ℕ) (before : List Cond) (kind : Kind) (ts rest : List ℕ) → length before < n → AreTrees before → table_line ts ≡ Err (kind, rest) → exactly n table_line (table_text before ++ ts) ≡ Err (kind, rest)
table_stops zero before kind ts rest fewer are e = absurd (omega (arith, fewer))
table_stops (suc n) [] kind ts rest fewer are e = rw e refl
table_stops (suc n) (t ∷ before) kind ts rest fewer are e =
    let group : ((text_of t ++ (newline ∷ [])) ++ table_text before) ++ ts ≡ text_of t ++ (newline ∷ (table_text before ++ ts)) =
    append_assoc (text_of t ++ (newline ∷ [])) (table_text before) ts ∙ append_assoc (text_of t) (newline ∷ []) (table_text before ++ ts) in
    let first : table_line (((text_of t ++ (newline ∷ [])) ++ table_text before) ++ ts) ≡ Ok (t, table_text before ++ ts) =
    ap table_line group ∙ complete_tree_line t (text_of t ++ (newline ∷ (table_text before ++ ts))) (table_text before ++ ts) (complete_canonical t (newline ∷ (table_text before ++ ts)) are.0) in
    rw (first, table_stops n before kind ts rest (omega (arith, fewer)) are.1 e) refl

-- ---- nodes

nodes_begin : (ds : Nodes) (more : List ℕ) → stops (nodes_text ds ++ (32 ∷ more)) ≡ true
nodes_begin no_nodes more = refl
nodes_begin (and_node d ds) more = refl

premises_stop : (count room : ℕ) → count ≤ 2 ^ 64 → (ds : Nodes) (kind : Kind) (ts rest : List ℕ) → AreNumbered count ds → nodes_high ds ≤ room → node_at count room ts ≡ Err (kind, rest) →
    several 32 (premise_with (node_at count room)) (nodes_text ds ++ (32 ∷ ts)) ≡ Err (kind, rest)
premises_stop count room small no_nodes kind ts rest nums high e = several_fault 32 (premise_with (node_at count room)) (32 ∷ ts) (kind, rest) refl e
premises_stop count room small (and_node d ds) kind ts rest nums high e =
    let R = nodes_text ds ++ (32 ∷ ts) in
    let group : ((32 ∷ node_text d) ++ nodes_text ds) ++ (32 ∷ ts) ≡ 32 ∷ (node_text d ++ R) = ap (λ z. 32 ∷ z) (append_assoc (node_text d) (nodes_text ds) (32 ∷ ts)) in
    let item : premise_with (node_at count room) (32 ∷ (node_text d ++ R)) ≡ Ok (d, R) = complete_node count small room d R nums.0 (omega (arith, high)) in
    ap (several 32 (premise_with (node_at count room))) group
    ∙ several_more 32 (premise_with (node_at count room)) (λ ts x r e. premise_takes count small room ts x r e) (32 ∷ (node_text d ++ R)) d R refl item
    ∙ ap (λ q. q >>= λ xs ts. Ok (d ∷ xs, ts)) (premises_stop count room small ds kind ts rest nums.1 (omega (arith, high)) e)

no_deeper_node : (count : ℕ) (rest : List ℕ) → begins 40 rest ≡ true → node_at count 0 rest ≡ Err (TooDeep, rest)
unfolding node_at
no_deeper_node count rest h = rw h refl

node_at_number : (count room : ℕ) (w : _) (rest : List ℕ) → IsPast count rest → node_at count (suc room) (40 ∷ ((word_text w ++ codes " ") ++ rest)) ≡ Err (Form, rest)
unfolding node_at
node_at_number count room w rest past = rw (complete_word w rest, past_number count rest past) refl

node_in_premise : (count room : ℕ) → count ≤ 2 ^ 64 → (w : _) (n : ℕ) (ds : Nodes) (kind : Kind) (ts rest : List ℕ) → n < count → AreNumbered count ds → nodes_high ds ≤ room → node_at count room ts ≡ Err (kind, rest) →
    node_at count (suc room) (40 ∷ ((word_text w ++ codes " ") ++ (decimal n ++ (nodes_text ds ++ (32 ∷ ts))))) ≡ Err (kind, rest)
unfolding node_at
node_in_premise count room small w n ds kind ts rest below nums high e =
    let R = nodes_text ds ++ (32 ∷ ts) in
    rw (complete_word w (decimal n ++ R), complete_number count n R below small (nodes_begin ds ts), premises_stop count room small ds kind ts rest nums high e) refl

node_stops : (count : ℕ) → count ≤ 2 ^ 64 → (room : ℕ) (kind : Kind) (front rest : List ℕ) → BreaksNode kind count room front rest → node_at count room (front ++ rest) ≡ Err (kind, rest)
node_stops count small zero kind front rest b = of_deep kind rest (node_at count 0 (front ++ rest)) b.0 (ap (λ z. node_at count 0 (z ++ rest)) b.1 ∙ no_deeper_node count rest b.2)
node_stops count small (suc room) kind front rest (at_number w is text past) =
    of_kind kind rest (node_at count (suc room) (front ++ rest)) is (ap (λ z. node_at count (suc room) (z ++ rest)) text ∙ node_at_number count room w rest past)
node_stops count small (suc room) kind front rest (in_premise w n ds ahead below nums high text b) =
    let W = word_text w ++ codes " " in let N = decimal n in let D = nodes_text ds in
    ap (λ z. node_at count (suc room) (z ++ rest)) text
    ∙ ap (λ z. node_at count (suc room) (40 ∷ z)) (append_assoc W (N ++ (D ++ (32 ∷ ahead))) rest ∙ ap (λ z. W ++ z) (append_assoc N (D ++ (32 ∷ ahead)) rest ∙ ap (λ z. N ++ z) (append_assoc D (32 ∷ ahead) rest)))
    ∙ node_in_premise count room small w n ds kind (ahead ++ rest) rest below nums high (node_stops count small room kind ahead rest b)

node_there : (count room : ℕ) (kind : Kind) (front rest : List ℕ) → BreaksNode kind count room front rest → 0 < length rest
node_there count zero kind front rest b = begun 40 rest b.2
node_there count (suc room) kind front rest (at_number w is text past) = some_digit count rest past
node_there count (suc room) kind front rest (in_premise w n ds ahead below nums high text b) = node_there count room kind ahead rest b

-- ---- method lines

line_at_method : (count : ℕ) (rest : List ℕ) → IsPast (2 ^ 32) rest → line_at count (codes "method " ++ rest) ≡ Err (Form, rest)
unfolding line_at
line_at_method count rest past = rw (past_number (2 ^ 32) rest past) refl

line_at_tree : (count m : ℕ) (rest : List ℕ) → m < 2 ^ 32 → IsPast count rest → line_at count (codes "method " ++ (decimal m ++ (32 ∷ rest))) ≡ Err (Form, rest)
unfolding line_at
line_at_tree count m rest below past = rw (complete_number (2 ^ 32) m (32 ∷ rest) below (omega arith) refl, past_number count rest past) refl

line_in_body : (count m n : ℕ) (kind : Kind) (ts rest : List ℕ) → count ≤ 2 ^ 64 → m < 2 ^ 32 → n < count → node_at count most_nesting ts ≡ Err (kind, rest) →
    line_at count (codes "method " ++ (decimal m ++ (32 ∷ (decimal n ++ (10 ∷ ts))))) ≡ Err (kind, rest)
unfolding line_at
line_in_body count m n kind ts rest small first second e =
    rw (complete_number (2 ^ 32) m (32 ∷ (decimal n ++ (10 ∷ ts))) first (omega arith) refl, complete_number count n (10 ∷ ts) second small refl, e) refl

line_stops : (count : ℕ) → count ≤ 2 ^ 64 → (kind : Kind) (front rest : List ℕ) → BreaksLine kind count front rest → line_at count (front ++ rest) ≡ Err (kind, rest)
line_stops count small kind front rest (at_method is text past) = of_kind kind rest (line_at count (front ++ rest)) is (ap (λ z. line_at count (z ++ rest)) text ∙ line_at_method count rest past)
line_stops count small kind front rest (at_tree m below is text past) =
    of_kind kind rest (line_at count (front ++ rest)) is (ap (λ z. line_at count (z ++ rest)) text ∙ ap (λ z. line_at count (codes "method " ++ z)) (append_assoc (decimal m) (codes " ") rest) ∙ line_at_tree count m rest below past)
line_stops count small kind front rest (in_body m n ahead first second text b) =
    let M = decimal m in let N = decimal n in
    ap (λ z. line_at count (z ++ rest)) text
    ∙ ap (λ z. line_at count (codes "method " ++ z)) (append_assoc M (32 ∷ (N ++ (10 ∷ ahead))) rest ∙ ap (λ z. M ++ (32 ∷ z)) (append_assoc N (10 ∷ ahead) rest))
    ∙ line_in_body count m n kind (ahead ++ rest) rest small first second (node_stops count small most_nesting kind ahead rest b)

line_begins : (count : ℕ) (kind : Kind) (front rest : List ℕ) → BreaksLine kind count front rest → begins 109 (front ++ rest) ≡ true
line_begins count kind front rest (at_method is text past) = ap (λ z. begins 109 (z ++ rest)) text
line_begins count kind front rest (at_tree m below is text past) = ap (λ z. begins 109 (z ++ rest)) text
line_begins count kind front rest (in_body m n ahead first second text b) = ap (λ z. begins 109 (z ++ rest)) text

line_there : (count : ℕ) (kind : Kind) (front rest : List ℕ) → BreaksLine kind count front rest → 0 < length rest
line_there count kind front rest (at_method is text past) = some_digit (2 ^ 32) rest past
line_there count kind front rest (at_tree m below is text past) = some_digit count rest past
line_there count kind front rest (in_body m n ahead first second text b) = node_there count most_nesting kind ahead rest b

some_line : (count : ℕ) (front : List ℕ) (line : Line) → ReadsLine count front line → 0 < length front
some_line count front line l = subst (λ z. 0 < length z) (sym l.0) (omega arith)

line_takes : (count : ℕ) → count ≤ 2 ^ 64 → Takes (line_at count)
line_takes count small = takes_by (ReadsLine count) (line_at count) (some_line count) (sound_line count small)

rows_stop : (count : ℕ) → count ≤ 2 ^ 64 → (before : List Line) (kind : Kind) (ts rest : List ℕ) → AreMethodLines count before → begins 109 ts ≡ true → line_at count ts ≡ Err (kind, rest) →
    several 109 (line_at count) (method_lines_text before ++ ts) ≡ Err (kind, rest)
rows_stop count small [] kind ts rest are go e = several_fault 109 (line_at count) ts (kind, rest) go e
rows_stop count small (l ∷ before) kind ts rest are go e =
    let R = method_lines_text before ++ ts in
    let group : (method_line_text l ++ method_lines_text before) ++ ts ≡ method_line_text l ++ R = append_assoc (method_line_text l) (method_lines_text before) ts in
    ap (several 109 (line_at count)) group
    ∙ several_more 109 (line_at count) (line_takes count small) (method_line_text l ++ R) l R refl (complete_line count small l R are.0)
    ∙ ap (λ q. q >>= λ xs ts. Ok (l ∷ xs, ts)) (rows_stop count small before kind ts rest are.1 go e)

lines_stop : (count : ℕ) (kind : Kind) (ts rest : List ℕ) → several 109 (line_at count) ts ≡ Err (kind, rest) → lines_at count ts ≡ Err (kind, rest)
unfolding lines_at
lines_stop count kind ts rest e = rw e refl

-- ---- whole texts

pub complete_count : (n : ℕ) (more : List ℕ) → n < 2 ^ 32 → count_at (table_heading n ++ more) ≡ Ok (n, more)
unfolding count_at
complete_count n more small =
    ap (λ z. count_at (codes "book " ++ z)) (append_assoc (decimal n) (newline ∷ []) more)
    ∙ rw (complete_number (2 ^ 32) n (newline ∷ more) small (omega arith) refl) refl

book_at_count : (rest : List ℕ) → IsPast (2 ^ 32) rest → book_at (codes "book " ++ rest) ≡ Err (Form, rest)
unfolding book_at count_at
book_at_count rest past = rw (past_number (2 ^ 32) rest past) refl

book_in_tree : (n : ℕ) (before : List Cond) (kind : Kind) (ts rest : List ℕ) → n < 2 ^ 32 → length before < n → AreTrees before → table_line ts ≡ Err (kind, rest) →
    book_at (table_heading n ++ (table_text before ++ ts)) ≡ Err (kind, rest)
unfolding book_at
book_in_tree n before kind ts rest small fewer are e = rw (complete_count n (table_text before ++ ts) small, table_stops n before kind ts rest fewer are e) refl

book_in_line : (table : List Cond) (kind : Kind) (ts rest : List ℕ) → length table < 2 ^ 32 → AreTrees table → lines_at (length table) ts ≡ Err (kind, rest) →
    book_at (table_heading (length table) ++ (table_text table ++ ts)) ≡ Err (kind, rest)
unfolding book_at
book_in_line table kind ts rest small are e = rw (complete_count (length table) (table_text table ++ ts) small, complete_table table ts are, e) refl

pub book_stops : (kind : Kind) (front rest : List ℕ) → BreaksBook kind front rest → book_at (front ++ rest) ≡ Err (kind, rest)
book_stops kind front rest (at_count is text past) = of_kind kind rest (book_at (front ++ rest)) is (ap (λ z. book_at (z ++ rest)) text ∙ book_at_count rest past)
book_stops kind front rest (in_tree n before ahead small fewer are text b) =
    ap (λ z. book_at (z ++ rest)) text
    ∙ ap book_at (append_assoc (table_heading n) (table_text before ++ ahead) rest ∙ ap (λ z. table_heading n ++ z) (append_assoc (table_text before) ahead rest))
    ∙ book_in_tree n before kind (ahead ++ rest) rest small fewer are (table_line_stops kind (ahead ++ rest) rest (table_tree_stops kind ahead rest b))
book_stops kind front rest (in_line table before ahead small are lines text b) =
    let n = length table in
    let T = table_text table in let L = method_lines_text before in
    let wide : n ≤ 2 ^ 64 = omega (arith, small) in
    ap (λ z. book_at (z ++ rest)) text
    ∙ ap book_at (append_assoc (table_heading n) (T ++ (L ++ ahead)) rest ∙ ap (λ z. table_heading n ++ z) (append_assoc T (L ++ ahead) rest ∙ ap (λ z. T ++ z) (append_assoc L ahead rest)))
    ∙ book_in_line table kind (L ++ (ahead ++ rest)) rest small are
    (lines_stop n kind (L ++ (ahead ++ rest)) rest (rows_stop n wide before kind (ahead ++ rest) rest lines (line_begins n kind ahead rest b) (line_stops n wide kind ahead rest b)))

pub book_there : (kind : Kind) (front rest : List ℕ) → BreaksBook kind front rest → 0 < length rest
book_there kind front rest (at_count is text past) = some_digit (2 ^ 32) rest past
book_there kind front rest (in_tree n before ahead small fewer are text b) = table_tree_there kind ahead rest b
book_there kind front rest (in_line table before ahead small are lines text b) = line_there (length table) kind ahead rest b
