-- Books are read as they are written, and passing over one gives what reading it gives.
use Rattle.std.proofs.Common.{◌≡◌, ℕ, zero, suc, ◌+◌, ◌-◌, ◌<◌, ◌≤◌, ◌^◌, ◌&&◌, Bool, true, false, not, List, [], ◌∷◌, ◌++◌, length, length-append, take, codes, decimal, Option, Some, None, Ok, Err, refl, sym, ◌∙◌, ap, subst, arith, append_assoc, append-nil}
use Rattle.std.proofs.lemmas.Slice.Eq.{bytes_eq-Decides}
use Rattle.std.specs.Str.{bytes_eq}
use Rattle.paths.specs.Paths.{PathData}
use Rattle.conditions.specs.Conditions.{Cond, LeafC, cond_eq}
use Rattle.conditions.specs.Texts.{text_of}
use Rattle.conditions.proofs.CondLemmas.{cond_eq-is, cond_eq-itself}
use Rattle.books.specs.declared.stop.Kind.{Kind}
use Rattle.books.specs.declared.stop.Kind.TheVariants.{Form, TooDeep}
use Rattle.books.specs.Books.{Line, Book, IsBook, AreTrees, AreMethodLines, HasPaths, tests_high, comes_after, is_canonical, is_canonical_below, most_nesting}
use Rattle.books.specs.Texts.{newline, method_line_text, method_lines_text, table_text, book_text, IsBookText}
use Rattle.books.specs.Combine.{Res, ◌>>=◌, seen, unread, begins, expect, at_most, several, exactly}
use Rattle.books.specs.Reading.{number_at, path_at, leaf_at, test_with, tree_at, canonical_at, table_line, line_at, lines_at, nothing_behind, count_at, book_at}
use Rattle.books.specs.Passing.{texts_differ, pass_test, pass_tree, pass_canonical, pass_several, pass_table_line, pass_table, pass_line, pass_lines, pass_book}
use Rattle.books.proofs.Sound.{SoundAt, sound_seq, Bytes, sound_expect, Row, row_end, row_more, sound_several, RowOf, sound_exactly, IsNumber, sound_number}
use Rattle.books.proofs.SoundTrees.{ReadsTree, sound_tree, ReadsTableLine, sound_table_line, ReadsLine, sound_line}
use Rattle.books.proofs.Several.{unseen}
use Rattle.books.proofs.Complete.{complete_number, complete_tree, complete_canonical, complete_line}
use Rattle.books.proofs.PassLemmas.{pass_seq, pass_same, pass_if, pass_several-is, front_of, front_taken, same_test}
use Rattle.books.proofs.PassBooks.{pass_line-is}

-- trees

pub ok_value : {A : Type 0} (a b : A) (r s : List ℕ) → (let p : Res A = Ok (a, r) in p ≡ Ok (b, s)) → a ≡ b
ok_value {A} a b r s e = ap (λ z. z.0) (same (a, r) (b, s) e)
  where
    same : (y z : A × List ℕ) → (let p : Res A = Ok y in p ≡ Ok z) → y ≡ z
    same y z h = cc

-- what is read is not high
high_of : (room : ℕ) (ts : List ℕ) (t : Cond) (r : List ℕ) → (s : Res Cond) → SoundAt (ReadsTree room) ts s → s ≡ Ok (t, r) → tests_high t ≤ room
high_of room ts t r (Ok y) s e = subst (λ z. tests_high z ≤ room) (ok_value y.0 t y.1 r e) s.2.2
high_of room ts t r (Err e) s d = absurd (cc)

-- trees with one text are one tree
same_trees : (room : ℕ) (a b : Cond) → HasPaths a → HasPaths b → tests_high a ≤ room → tests_high b ≤ room → text_of a ≡ text_of b → a ≡ b
same_trees room a b paths_a paths_b high_a high_b e =
    ok_value a b [] [] (sym (complete_tree a [] paths_a room high_a) ∙ ap (λ z. tree_at room (z ++ [])) e ∙ complete_tree b [] paths_b room high_b)

differ_is : (room : ℕ) (a b : Cond) (first behind_first second behind_second : List ℕ) → tree_at room first ≡ Ok (a, behind_first) → tree_at room second ≡ Ok (b, behind_second) →
    texts_differ first behind_first second behind_second ≡ not (cond_eq a b)
differ_is room a b first behind_first second behind_second reads_a reads_b =
    let of_a = front_of room first a behind_first (tree_at room first) (sound_tree room first) reads_a in
    let of_b = front_of room second b behind_second (tree_at room second) (sound_tree room second) reads_b in
    let taken_a : take (length first - length behind_first) first ≡ text_of a = ap (λ z. take (length z - length behind_first) z) of_a.0 ∙ front_taken (text_of a) behind_first in
    let taken_b : take (length second - length behind_second) second ≡ text_of b = ap (λ z. take (length z - length behind_second) z) of_b.0 ∙ front_taken (text_of b) behind_second in
    let high_a = high_of room first a behind_first (tree_at room first) (sound_tree room first) reads_a in
    let high_b = high_of room second b behind_second (tree_at room second) (sound_tree room second) reads_b in
    let test : bytes_eq (text_of a) (text_of b) ≡ cond_eq a b =
    same_test (bytes_eq (text_of a) (text_of b)) (cond_eq a b)
    (λ e. subst (λ z. cond_eq a z ≡ true) (same_trees room a b of_a.1 of_b.1 high_a high_b ((bytes_eq-Decides (text_of a) (text_of b)).0 e)) (cond_eq-itself a))
    (λ e. (bytes_eq-Decides (text_of a) (text_of b)).1 (ap text_of (cond_eq-is a b e))) in
    (λ i. not (bytes_eq (taken_a i) (taken_b i))) ∙ ap not test

pass_leaf : (above : Option PathData) (ts : List ℕ) → (leaf_at ts >>= λ b ts. Ok (true, ts)) ≡ seen (is_canonical_below above) (leaf_at ts >>= λ b ts. Ok (LeafC b, ts))
pass_leaf above ts = pass_same (is_canonical_below above) (leaf_at ts) (λ b ts. Ok (LeafC b, ts)) (λ b ts. Ok (true, ts)) (λ b r e. refl)

pass_test-is : (room : ℕ) (pass : Option PathData → List ℕ → Res Bool) → ((above : Option PathData) (ts : List ℕ) → pass above ts ≡ seen (is_canonical_below above) (tree_at room ts)) →
    (above : Option PathData) (ts : List ℕ) → pass_test pass above ts ≡ seen (is_canonical_below above) (test_with (tree_at room) ts)
pass_test-is room pass same above ts =
    pass_same (is_canonical_below above) (expect (codes "(") ts) _ _ λ u r e.
    pass_same (is_canonical_below above) (path_at r) _ _ λ p r e.
    pass_same (is_canonical_below above) (expect (codes " ") r) _ _ λ u first e.
    pass_seq (is_canonical_below (Some p)) (is_canonical_below above) (tree_at room first) (pass (Some p) first) _ _ (same (Some p) first) λ a behind_first is_a.
    pass_same (is_canonical_below above) (expect (codes " ") behind_first) _ _ λ u second e.
    pass_seq (is_canonical_below (Some p)) (is_canonical_below above) (tree_at room second) (pass (Some p) second) _ _ (same (Some p) second) λ b behind_second is_b.
    pass_same (is_canonical_below above) (expect (codes ")") behind_second) _ _ λ u r e.
    ap (λ z. Ok (comes_after above p && (z && (is_canonical_below (Some p) a && is_canonical_below (Some p) b)), r))
    (differ_is room a b first behind_first second behind_second is_a is_b)

pass_tree-is : (room : ℕ) (above : Option PathData) (ts : List ℕ) → pass_tree room above ts ≡ seen (is_canonical_below above) (tree_at room ts)
unfolding pass_tree tree_at
pass_tree-is zero above ts =
    pass_if (is_canonical_below above) (begins 40 ts) (Err (TooDeep, ts)) (leaf_at ts >>= λ b ts. Ok (true, ts)) (Err (TooDeep, ts)) (leaf_at ts >>= λ b ts. Ok (LeafC b, ts)) refl (pass_leaf above ts)
pass_tree-is (suc room) above ts =
    pass_if (is_canonical_below above) (begins 40 ts) (pass_test (pass_tree room) above ts) (leaf_at ts >>= λ b ts. Ok (true, ts)) (test_with (tree_at room) ts) (leaf_at ts >>= λ b ts. Ok (LeafC b, ts))
    (pass_test-is room (pass_tree room) (λ above ts. pass_tree-is room above ts) above ts) (pass_leaf above ts)

pass_canonical-is : (ts : List ℕ) → pass_canonical ts ≡ unread (canonical_at ts)
unfolding pass_canonical canonical_at
pass_canonical-is ts =
    pass_seq is_canonical (λ t. tt {0}) (tree_at most_nesting ts) (pass_tree most_nesting None ts) _ _ (pass_tree-is most_nesting None ts)
    λ t r e. pass_if (λ t. tt {0}) (is_canonical t) (Ok (tt, r)) (Err (Form, ts)) (Ok (t, r)) (Err (Form, ts)) refl refl

-- tables

pass_table_line-is : (ts : List ℕ) → pass_table_line ts ≡ unread (table_line ts)
pass_table_line-is ts =
    pass_seq (λ t. tt {0}) (λ t. tt {0}) (canonical_at ts) (pass_canonical ts) _ _ (pass_canonical-is ts)
    λ t r e. ended (expect (newline ∷ []) r) t
  where
    ended : (p : Res (Unit {0})) (t : Cond) → p ≡ unread (p >>= λ u ts. Ok (t, ts))
    ended (Ok y) t = refl
    ended (Err e) t = refl

pub pass_table-is : (n : ℕ) (ts : List ℕ) → pass_table n ts ≡ unread (exactly n table_line ts)
pass_table-is zero ts = refl
pass_table-is (suc n) ts =
    pass_seq (λ t. tt {0}) (λ t. tt {0}) (table_line ts) (pass_table_line ts) _ _ (pass_table_line-is ts)
    λ t r e. pass_table-is n r ∙ kept t (exactly n table_line r)
  where
    kept : (x : Cond) (p : Res (List Cond)) → unread p ≡ unread (p >>= λ xs ts. Ok (x ∷ xs, ts))
    kept x (Ok y) = refl
    kept x (Err e) = refl

-- lines

pub pass_lines-is : (count : ℕ) (ts : List ℕ) → pass_lines count ts ≡ unread (lines_at count ts)
unfolding pass_lines lines_at
pass_lines-is count ts =
    pass_seq (λ t. tt {0}) (λ t. tt {0}) (several 109 (line_at count) ts) (pass_several 109 (pass_line count) ts) _ _
    (pass_several-is 109 (line_at count) (pass_line count) (λ z. pass_line-is count z) ts) λ lines r e.
    pass_same (λ t. tt {0}) (expect (codes "end" ++ (newline ∷ [])) r) _ _ λ u r e.
    ended (nothing_behind r) lines
  where
    ended : (p : Res (Unit {0})) (t : List Line) → p ≡ unread (p >>= λ u ts. Ok (t, ts))
    ended (Ok y) t = refl
    ended (Err e) t = refl

-- a fault of a book is found by passing over it
fault_after : {A B C : Type 0} (p : Res A) (f : A → List ℕ → Res B) (g : A → List ℕ → Res C) (d : Kind × List ℕ) →
    ((a : A) (r : List ℕ) → f a r ≡ Err d → g a r ≡ Err d) → (p >>= f) ≡ Err d → (p >>= g) ≡ Err d
fault_after (Ok y) f g d rest e = rest y.0 y.1 e
fault_after {A} {B} {C} (Err b) f g d rest e = ap (λ z. Err z) (same b d e)
  where
    same : (b d : Kind × List ℕ) → (let p : Res B = Err b in p ≡ Err d) → b ≡ d
    same b d h = cc

fault_seen : {A B C : Type 0} (p : Res A) (q : Res (Unit {0})) (f : Unit {0} → List ℕ → Res B) (g : A → List ℕ → Res C) (d : Kind × List ℕ) → q ≡ unread p →
    ((a : A) (r : List ℕ) → f tt r ≡ Err d → g a r ≡ Err d) → (q >>= f) ≡ Err d → (p >>= g) ≡ Err d
fault_seen {A} {B} {C} (Ok y) q f g d is rest e = rest y.0 y.1 (ap (λ z. z >>= f) (sym is) ∙ e)
fault_seen {A} {B} {C} (Err b) q f g d is rest e = ap (λ z. Err z) (same b d (ap (λ z. z >>= f) (sym is) ∙ e))
  where
    same : (b d : Kind × List ℕ) → (let p : Res B = Err b in p ≡ Err d) → b ≡ d
    same b d h = cc

pub book_fault : (ts : List ℕ) (d : Kind × List ℕ) → pass_book ts ≡ Err d → book_at ts ≡ Err d
unfolding pass_book book_at
book_fault ts d e =
    fault_after (count_at ts) _ _ d (λ n table.
    fault_seen (exactly n table_line table) (pass_table n table) _ _ d (pass_table-is n table) λ trees lines.
    fault_seen (lines_at n lines) (pass_lines n lines) _ _ d (pass_lines-is n lines) λ ls r e. absurd (cc)) e

-- what passing over a book finds
pub record Found (ts : List ℕ) (n : ℕ) (table lines r : List ℕ) : Type 0 where
  pub book : Book
  pub read : book_at ts ≡ Ok (book, r)
  pub count : count_at ts ≡ Ok (n, table)
  pub trees : exactly n table_line table ≡ Ok (book.table, lines)
  pub rest : lines_at n lines ≡ Ok (book.lines, r)

pub after_ok : {A B : Type 0} (p : Res A) (f : A → List ℕ → Res B) (z : B × List ℕ) → (p >>= f) ≡ Ok z → (a : A) × (r : List ℕ) × (p ≡ Ok (a, r)) × (f a r ≡ Ok z)
after_ok (Ok y) f z e = (y.0, y.1, refl, e)
after_ok (Err d) f z e = absurd (cc)

found_same : (n m : ℕ) (t l a b r s : List ℕ) → (let p : Res (ℕ × List ℕ × List ℕ) = Ok ((n, t, l), r) in p ≡ Ok ((m, a, b), s)) → (n ≡ m) × (t ≡ a) × (l ≡ b) × (r ≡ s)
found_same n m t l a b r s e =
    let same = equal ((n, t, l), r) ((m, a, b), s) e in
    (ap (λ z. z.0.0) same, ap (λ z. z.0.1) same, ap (λ z. z.0.2) same, ap (λ z. z.1) same)
  where
    equal : (y z : (ℕ × List ℕ × List ℕ) × List ℕ) → (let p : Res (ℕ × List ℕ × List ℕ) = Ok y in p ≡ Ok z) → y ≡ z
    equal y z h = cc

pub book_by : (ts : List ℕ) (n : ℕ) (table lines r : List ℕ) (trees : List Cond) (ls : List Line) → count_at ts ≡ Ok (n, table) → exactly n table_line table ≡ Ok (trees, lines) →
    lines_at n lines ≡ Ok (ls, r) → book_at ts ≡ Ok (record { table = trees; lines = ls }, r)
unfolding book_at
book_by ts n table lines r trees ls c t l = rw (c, t, l) refl

pub book_found : (ts : List ℕ) (n : ℕ) (table lines r : List ℕ) → pass_book ts ≡ Ok ((n, table, lines), r) → Found ts n table lines r
unfolding pass_book
book_found ts n table lines r e =
    let c = after_ok (count_at ts) (λ n table. pass_table n table >>= λ u lines. pass_lines n lines >>= λ u rest. Ok ((n, table, lines), rest)) ((n, table, lines), r) e in
    let t = after_ok (pass_table c.0 c.1) (λ u lines. pass_lines c.0 lines >>= λ u rest. Ok ((c.0, c.1, lines), rest)) ((n, table, lines), r) c.3 in
    let l = after_ok (pass_lines c.0 t.1) (λ u rest. Ok ((c.0, c.1, t.1), rest)) ((n, table, lines), r) t.3 in
    let same = found_same c.0 n c.1 t.1 table lines l.1 r l.3 in
    let trees = unseen (λ t. tt {0}) (exactly c.0 table_line c.1) t.0 t.1 (sym (pass_table-is c.0 c.1) ∙ t.2) in
    let rest = unseen (λ t. tt {0}) (lines_at c.0 t.1) l.0 l.1 (sym (pass_lines-is c.0 t.1) ∙ l.2) in
    let count : count_at ts ≡ Ok (n, table) = c.2 ∙ (λ i. Ok (same.0 i, same.1 i)) in
    let trees' : exactly n table_line table ≡ Ok (trees.0, lines) = (λ i. exactly (sym same.0 i) table_line (sym same.1 i)) ∙ trees.1 ∙ ap (λ z. Ok (trees.0, z)) same.2 in
    let rest' : lines_at n lines ≡ Ok (rest.0, r) = (λ i. lines_at (sym same.0 i) (sym same.2 i)) ∙ rest.1 ∙ ap (λ z. Ok (rest.0, z)) same.3 in
    record { book = record { table = trees.0; lines = rest.0 }; read = book_by ts n table lines r trees.0 rest.0 count trees' rest'; count = count; trees = trees'; rest = rest' }

-- what is read of a book

pub row_trees : (front : List ℕ) (ts : List Cond) → Row ReadsTableLine front ts → (front ≡ table_text ts) × AreTrees ts
row_trees _ _ row_end = (refl, tt)
row_trees _ _ (row_more front fronts t ts l rest) =
    let more = row_trees fronts ts rest in
    ((λ i. l.0 i ++ more.0 i), (l.1, more.1))

pub row_lines : (count : ℕ) (front : List ℕ) (ls : List Line) → Row (ReadsLine count) front ls → (front ≡ method_lines_text ls) × AreMethodLines count ls
row_lines count _ _ row_end = (refl, tt)
row_lines count _ _ (row_more front fronts line ls l rest) =
    let more = row_lines count fronts ls rest in
    ((λ i. l.0 i ++ more.0 i), (l.1, more.1))

sound_nothing : (ts : List ℕ) → SoundAt (Bytes []) ts (nothing_behind ts)
sound_nothing [] = ([], refl, refl)
sound_nothing (x ∷ ts) = ([], refl)

-- method lines and the end
abbrev pub ReadsLines : ℕ → List ℕ → List Line → Type 0
ReadsLines count front ls = (front ≡ method_lines_text ls ++ (codes "end" ++ (newline ∷ []))) × AreMethodLines count ls

pub sound_lines : (count : ℕ) → count ≤ 2 ^ 64 → (ts : List ℕ) → SoundAt (ReadsLines count) ts (lines_at count ts)
unfolding lines_at
sound_lines count small ts =
    sound_seq (Row (ReadsLine count)) _ ts (several 109 (line_at count) ts) _ (sound_several (ReadsLine count) 109 (line_at count) (λ z. sound_line count small z) ts) λ ls r.
    sound_seq (Bytes (codes "end" ++ (newline ∷ []))) _ r (expect (codes "end" ++ (newline ∷ [])) r) _ (sound_expect (codes "end" ++ (newline ∷ [])) r) λ u r.
    sound_seq (Bytes []) _ r (nothing_behind r) _ (sound_nothing r) λ u r. (
      [],
      refl,
      λ x3 e3 x2 e2 x1 row.
          (let are = row_lines count x1 ls row in ((λ i. are.0 i ++ (e2 i ++ (append-nil x3 ∙ e3) i)), are.1)),
    )

sound_count : (ts : List ℕ) → SoundAt (λ front n. (front ≡ codes "book " ++ (decimal n ++ (newline ∷ []))) × (n < 2 ^ 32)) ts (count_at ts)
unfolding count_at
sound_count ts =
    sound_seq (Bytes (codes "book ")) _ ts (expect (codes "book ") ts) _ (sound_expect (codes "book ") ts) λ u r.
    sound_seq (IsNumber (2 ^ 32)) _ r (number_at (2 ^ 32) r) _ (sound_number (2 ^ 32) (omega arith) r) λ n r.
    sound_seq (Bytes (newline ∷ [])) _ r (expect (newline ∷ []) r) _ (sound_expect (newline ∷ []) r) λ u r.
    ([], refl, λ x3 e3 x2 e2 x1 e1. ((λ i. e1 i ++ (e2.0 i ++ (append-nil x3 ∙ e3) i)), e2.1))

abbrev pub ReadsBook : List ℕ → Book → Type 0
ReadsBook front book = (front ≡ book_text book) × IsBook book

count_small : (n : ℕ) (ts r : List ℕ) (s : Res ℕ) → SoundAt (λ front n. (front ≡ codes "book " ++ (decimal n ++ (newline ∷ []))) × (n < 2 ^ 32)) ts s → s ≡ Ok (n, r) →
    ((front : List ℕ) × (ts ≡ front ++ r) × (front ≡ codes "book " ++ (decimal n ++ (newline ∷ [])))) × (n < 2 ^ 32)
count_small n ts r (Ok y) s e =
    let same = equal y (n, r) e in
    ((s.0, s.1 ∙ ap (λ z. s.0 ++ z.1) same, s.2.0 ∙ ap (λ z. codes "book " ++ (decimal z.0 ++ (newline ∷ []))) same), subst (λ z. z.0 < 2 ^ 32) same s.2.1)
  where
    equal : (y z : ℕ × List ℕ) → (let p : Res ℕ = Ok y in p ≡ Ok z) → y ≡ z
    equal y z h = cc
count_small n ts r (Err d) s e = absurd (cc)

-- the end of what SoundAt says of an answer
pub sound_ok : {A : Type 0} (L : List ℕ → A → Type 0) (ts : List ℕ) (a : A) (r : List ℕ) (s : Res A) → SoundAt L ts s → s ≡ Ok (a, r) → (front : List ℕ) × (ts ≡ front ++ r) × L front a
sound_ok {A} L ts a r (Ok y) s e =
    let same = equal y (a, r) e in
    (s.0, s.1 ∙ ap (λ z. s.0 ++ z.1) same, subst (λ z. L s.0 z.0) same s.2)
  where
    equal : (y z : A × List ℕ) → (let p : Res A = Ok y in p ≡ Ok z) → y ≡ z
    equal y z h = cc
sound_ok L ts a r (Err d) s e = absurd (cc)

pub found_text : (ts : List ℕ) (n : ℕ) (table lines r : List ℕ) → (f : Found ts n table lines r) → (ts ≡ book_text f.book ++ r) × IsBook f.book × (n ≡ length f.book.table) × (n < 2 ^ 32)
found_text ts n table lines r f =
    let c = sound_ok _ ts n table (count_at ts) (sound_count ts) f.count in
    let t = sound_ok (RowOf ReadsTableLine n) table f.book.table lines (exactly n table_line table) (sound_exactly ReadsTableLine table_line sound_table_line n table) f.trees in
    let trees = row_trees t.0 f.book.table t.2.0 in
    let l = sound_ok (ReadsLines n) lines f.book.lines r (lines_at n lines) (sound_lines n (omega (arith, c.2.1)) lines) f.rest in
    let size : n ≡ length f.book.table = sym t.2.1 in
    let head : c.0 ≡ codes "book " ++ (decimal (length f.book.table) ++ (newline ∷ [])) = c.2.0 ∙ ap (λ z. codes "book " ++ (decimal z ++ (newline ∷ []))) size in
    let whole : ts ≡ c.0 ++ (t.0 ++ (l.0 ++ r)) = c.1 ∙ ap (λ z. c.0 ++ z) (t.1 ∙ ap (λ z. t.0 ++ z) l.1) in
    let H = codes "book " ++ (decimal (length f.book.table) ++ (newline ∷ [])) in
    let T = table_text f.book.table in
    let L = method_lines_text f.book.lines ++ (codes "end" ++ (newline ∷ [])) in (
      whole ∙ (λ i. head i ++ (trees.0 i ++ (l.2.0 i ++ r))) ∙ ap (λ z. H ++ z) (sym (append_assoc T L r)) ∙ sym (append_assoc H (T ++ L) r),
      record { few = omega (arith, size, c.2.1); trees = trees.1; lines = subst (λ z. AreMethodLines z f.book.lines) size l.2.1 },
      size,
      c.2.1,
    )

-- what is written is read

pub complete_table : (ts : List Cond) (more : List ℕ) → AreTrees ts → exactly (length ts) table_line (table_text ts ++ more) ≡ Ok (ts, more)
complete_table [] more are = refl
complete_table (t ∷ ts) more are =
    let group : ((text_of t ++ (newline ∷ [])) ++ table_text ts) ++ more ≡ text_of t ++ (newline ∷ (table_text ts ++ more)) =
    append_assoc (text_of t ++ (newline ∷ [])) (table_text ts) more ∙ append_assoc (text_of t) (newline ∷ []) (table_text ts ++ more) in
    let first : table_line (((text_of t ++ (newline ∷ [])) ++ table_text ts) ++ more) ≡ Ok (t, table_text ts ++ more) =
    ap table_line group ∙ line (text_of t ++ (newline ∷ (table_text ts ++ more))) (table_text ts ++ more) (complete_canonical t (newline ∷ (table_text ts ++ more)) are.0) in
    rw (first, complete_table ts more are.1) refl
  where
    line : (z rest : List ℕ) → canonical_at z ≡ Ok (t, newline ∷ rest) → table_line z ≡ Ok (t, rest)
    line z rest e = rw e refl

complete_rows : (count : ℕ) → count ≤ 2 ^ 64 → (ls : List Line) (more : List ℕ) → AreMethodLines count ls → begins 109 more ≡ false → (n : ℕ) → length (method_lines_text ls ++ more) ≤ n →
    at_most n 109 (line_at count) (method_lines_text ls ++ more) ≡ Ok (ls, more)
complete_rows count small [] more are next zero few = refl
complete_rows count small [] more are next (suc n) few = rw next refl
complete_rows count small (l ∷ ls) more are next zero few = absurd (omega (arith, few))
complete_rows count small (l ∷ ls) more are next (suc n) few =
    let group : (method_line_text l ++ method_lines_text ls) ++ more ≡ method_line_text l ++ (method_lines_text ls ++ more) = append_assoc (method_line_text l) (method_lines_text ls) more in
    let first : line_at count ((method_line_text l ++ method_lines_text ls) ++ more) ≡ Ok (l, method_lines_text ls ++ more) =
    ap (line_at count) group ∙ complete_line count small l (method_lines_text ls ++ more) are.0 in
    let size : length ((method_line_text l ++ method_lines_text ls) ++ more) ≡ length (method_line_text l) + length (method_lines_text ls ++ more) = ap length group ∙ length-append (method_line_text l) (method_lines_text ls ++ more) in
    let some : 0 < length (method_line_text l) = omega arith in
    rw (first, complete_rows count small ls more are.1 next n (omega (arith, few, size, some))) refl

pub complete_several : (count : ℕ) → count ≤ 2 ^ 64 → (ls : List Line) (more : List ℕ) → AreMethodLines count ls → begins 109 more ≡ false → several 109 (line_at count) (method_lines_text ls ++ more) ≡ Ok (ls, more)
unfolding several
complete_several count small ls more are next = complete_rows count small ls more are next (length (method_lines_text ls ++ more)) (omega arith)

pub complete_lines : (count : ℕ) → count ≤ 2 ^ 64 → (ls : List Line) → AreMethodLines count ls → lines_at count (method_lines_text ls ++ (codes "end" ++ (newline ∷ []))) ≡ Ok (ls, [])
unfolding lines_at
complete_lines count small ls are = rw (complete_several count small ls (codes "end" ++ (newline ∷ [])) are refl) refl

complete_count : (n : ℕ) (more : List ℕ) → n < 2 ^ 32 → count_at ((codes "book " ++ (decimal n ++ (newline ∷ []))) ++ more) ≡ Ok (n, more)
unfolding count_at
complete_count n more small =
    ap (λ z. count_at (codes "book " ++ z)) (append_assoc (decimal n) (newline ∷ []) more)
    ∙ rw (complete_number (2 ^ 32) n (newline ∷ more) small (omega arith) refl) refl

pub complete_book : (bytes : List ℕ) (book : Book) → IsBookText bytes book → book_at bytes ≡ Ok (book, [])
complete_book bytes book is =
    let n = length book.table in
    let L = method_lines_text book.lines ++ (codes "end" ++ (newline ∷ [])) in
    ap book_at is.text_is
    ∙ book_by (book_text book) n (table_text book.table ++ L) L [] book.table book.lines (complete_count n (table_text book.table ++ L) is.book_is.few) (complete_table book.table L is.book_is.trees)
    (complete_lines n (omega (arith, is.book_is.few)) book.lines is.book_is.lines)
