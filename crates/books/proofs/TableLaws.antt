-- Premises as nodes, and tables built from their text.
use Rattle.std.proofs.Common.{◌≡◌, ℕ, zero, suc, ◌-◌, ◌<◌, ◌^◌, Bool, true, false, List, [], ◌∷◌, ◌++◌, map, length, codes, Some, None, Ok, Err, if◌then◌else◌, refl, sym, ◌∙◌, ap, subst, arith, append_assoc, append-nil}
use Rattle.std.proofs.lemmas.List.{map-append}
use Rattle.std.specs.declared.cmp.Ordering.{Ordering}
use Rattle.std.specs.declared.cmp.Ordering.TheVariants.{Less, Equal, Greater}
use Rattle.conditions.specs.Conditions.{Cond, cond_of}
use Rattle.conditions.specs.declared.tree.Tree.{Tree}
use Rattle.books.specs.declared.stop.Kind.TheVariants.{Form}
use Rattle.books.specs.declared.cursor.NodeView.{NodeView}
use Rattle.books.specs.declared.cursor.Premises.{Premises}
use Rattle.books.specs.declared.cursor.MethodView.{MethodView}
use Rattle.books.specs.declared.cursor.BookCursor.{BookCursor}
use Rattle.books.specs.Derivations.{Node, node, Nodes, no_nodes, and_node, premises_of, word_at, conclusion_number}
use Rattle.books.specs.Books.{Line, Book, AreMethodLines, is_less, is_canonical, most_nesting}
use Rattle.books.specs.Texts.{newline, table_text}
use Rattle.books.specs.Combine.{Res, ◌>>=◌, expect, exactly}
use Rattle.books.specs.Reading.{node_at, tree_at, canonical_at, table_line}
use Rattle.books.specs.Views.{IsViewOf, ArePremises, IsNext, IsNextLine, IsCursorAt, IsAtSome, nodes_of, nodes_in, lines_of, lines_in, plain_line, after_those, IsReadAs}
use Rattle.books.proofs.Complete.{complete_node, complete_several, from_list}
use Rattle.books.proofs.BookLaws.{after_ok, complete_table, complete_lines}
use Rattle.books.proofs.CursorLaws.{widened_one}

-- an order of which the test says that it is less
pub less_is : (o : Ordering) → is_less o ≡ true → o ≡ Less
less_is Less e = refl
less_is Equal e = absurd (let f : false ≡ true = e in cc)
less_is Greater e = absurd (let f : false ≡ true = e in cc)

-- premises

pub nodes_are : (p : Premises) (ds : Nodes) → ArePremises p ds → nodes_in p.rest.now ≡ ds
nodes_are p ds are =
    ap nodes_in are.text
    ∙ ap nodes_of (complete_several (2 ^ 32) most_nesting (node_at (2 ^ 32) most_nesting) (λ d more nums high. complete_node (2 ^ 32) (omega arith) most_nesting d more nums high) ds (codes ")") are.numbered are.high refl)
    ∙ from_list ds

-- the first of some premises, with its own
pub record IsFirst (ds : Nodes) (view : NodeView) (inner new : Premises) : Type 0 where
  pub is : ds ≡ and_node (node view.word view.number (nodes_in inner.rest.now)) (nodes_in new.rest.now)
  pub inner_are : ArePremises inner (nodes_in inner.rest.now)
  pub new_are : ArePremises new (nodes_in new.rest.now)

pub node_is : (d : Node) (view : NodeView) (ds : Nodes) → view.word ≡ word_at d → view.number ≡ conclusion_number d → ds ≡ premises_of d → d ≡ node view.word view.number ds
node_is (node w n ps) view ds word number premises = λ i. node (sym word i) (sym number i) (sym premises i)

pub first_is : (ds : Nodes) (view : NodeView) (inner new : Premises) → IsNext ds (Some view) new → ((d : Node) → IsViewOf view d → ArePremises inner (premises_of d)) → IsFirst ds view inner new
first_is no_nodes view inner new next premises = absurd next
first_is (and_node d ds) view inner new next premises =
    let are = premises d next.0 in
    let inner_is = nodes_are inner (premises_of d) are in
    let new_is = nodes_are new ds next.1 in
    record {
      is = (λ i. and_node (node_is d view (nodes_in inner.rest.now) next.0.word next.0.number inner_is i) (sym new_is i));
      inner_are = subst (ArePremises inner) (sym inner_is) are;
      new_are = subst (ArePremises new) (sym new_is) next.1;
    }

-- the method lines of a cursor are those of its text
pub lines_wider : (count : ℕ) → count < 2 ^ 32 → (ls : List Line) → AreMethodLines count ls → AreMethodLines (2 ^ 32) ls
lines_wider count small [] are = tt
lines_wider count small (line ∷ ls) are = (
  record {
    id = are.0.id;
    number = omega (arith, are.0.number, small);
    numbered = widened_one count (2 ^ 32) (omega (arith, small)) line.body are.0.numbered;
    high = are.0.high;
  },
  lines_wider count small ls are.1,
)

pub lines_are : (cursor : BookCursor) (book : Book) → IsCursorAt cursor book → lines_in cursor.lines.now ≡ book.lines
lines_are cursor book at =
    ap lines_in at.lines ∙ ap lines_of (complete_lines (2 ^ 32) (omega arith) book.lines (lines_wider (length book.table) at.book_is.few book.lines at.book_is.lines))

pub at_some : (cursor : BookCursor) (book : Book) → IsCursorAt cursor book → IsAtSome cursor
at_some cursor book at =
    record { table = book.table; at = subst (λ ls. IsCursorAt cursor (record { table = book.table; lines = ls })) (sym (lines_are cursor book at)) (record { trees = at.trees; table = at.table; lines = at.lines; book_is = at.book_is }) }

-- the first of some method lines, with the others
pub record IsFirstLine (lines : List Line) (view : MethodView) (premises : Premises) (new : BookCursor) : Type 0 where
  pub is : lines ≡ record { id = view.id; number = view.number; body = node view.node.word view.node.number (nodes_in premises.rest.now) } ∷ lines_in new.lines.now
  pub premises_are : ArePremises premises (nodes_in premises.rest.now)
  pub new_is : IsAtSome new

pub first_line_is : (book : Book) (lines : List Line) (view : MethodView) (premises : Premises) (new : BookCursor) → IsNextLine book lines (Some view) new →
    ((d : Node) → IsViewOf view.node d → ArePremises premises (premises_of d)) → IsFirstLine lines view premises new
first_line_is book [] view premises new next are = absurd next
first_line_is book (line ∷ lines) view premises new next are =
    let inner = are line.body next.0.node in
    let inner_is = nodes_are premises (premises_of line.body) inner in
    let body = node_is line.body view.node (nodes_in premises.rest.now) next.0.node.word next.0.node.number inner_is in
    record {
      is = (λ i. record { id = sym next.0.id i; number = sym next.0.number i; body = body i } ∷ sym (lines_are new (record { table = book.table; lines = lines }) next.1) i);
      premises_are = subst (ArePremises premises) (sym inner_is) inner;
      new_is = at_some new (record { table = book.table; lines = lines }) next.1;
    }

pub no_line : (book : Book) (lines : List Line) (new : BookCursor) → IsNextLine book lines None new → lines ≡ []
no_line book [] new next = refl
no_line book (line ∷ lines) new next = absurd next

-- tables

-- one item more, before those that are still to come
pub moved : {A : Type 0} (so_far : List A) (x : A) (p : Res (List A)) → after_those so_far (p >>= λ xs ts. Ok (x ∷ xs, ts)) ≡ after_those (so_far ++ (x ∷ [])) p
moved so_far x (Ok y) = ap (λ z. Ok (z, y.1)) (sym (append_assoc so_far (x ∷ []) y.0))
moved so_far x (Err e) = refl

-- one tree more
pub trees_more : (so_far : List Cond) (left : ℕ) (rest : List ℕ) (t : Cond) (behind : List ℕ) → 0 < left → plain_line rest ≡ Ok (t, behind) →
    after_those so_far (exactly left plain_line rest) ≡ after_those (so_far ++ (t ∷ [])) (exactly (left - 1) plain_line behind)
trees_more so_far zero rest t behind some e = absurd (omega (arith, some))
trees_more so_far (suc left) rest t behind some e =
    let same : suc left - 1 ≡ left = omega arith in
    rw e (moved so_far t (exactly left plain_line behind)) ∙ ap (λ k. after_those (so_far ++ (t ∷ [])) (exactly k plain_line behind)) (sym same)

pub trees_started : (p : Res (List Cond)) → p ≡ after_those [] p
trees_started (Ok y) = refl
trees_started (Err e) = refl

pub trees_done : (p : Res (List Cond)) (so_far : List Cond) (left : ℕ) (rest : List ℕ) → p ≡ after_those so_far (exactly left plain_line rest) → (0 < left → ⊥) → IsReadAs so_far p
trees_done p so_far zero rest e none = subst (IsReadAs so_far) (sym e) (append-nil so_far)
trees_done p so_far (suc left) rest e none = absurd (none (omega arith))

-- what is read with the test is read without it
canonical_plain : (p : Res Cond) (ts : List ℕ) (t : Cond) (r : List ℕ) → (p >>= λ t rest. if is_canonical t then Ok (t, rest) else Err (Form, ts)) ≡ Ok (t, r) → p ≡ Ok (t, r)
canonical_plain (Ok y) ts t r e = chosen (is_canonical y.0) y e
  where
    chosen : (b : Bool) (y : Cond × List ℕ) → (let p : Res Cond = if b then Ok y else Err (Form, ts) in p ≡ Ok (t, r)) → (let p : Res Cond = Ok y in p ≡ Ok (t, r))
    chosen true y e = e
    chosen false y e = absurd (cc)
canonical_plain (Err d) ts t r e = e

line_plain : (ts : List ℕ) (t : Cond) (r : List ℕ) → table_line ts ≡ Ok (t, r) → plain_line ts ≡ Ok (t, r)
unfolding canonical_at
line_plain ts t r e =
    let a = after_ok (canonical_at ts) (λ t ts. expect (newline ∷ []) ts >>= λ u ts. Ok (t, ts)) (t, r) e in
    let p = canonical_plain (tree_at most_nesting ts) ts a.0 a.1 a.2 in
    rw p a.3

pub exactly_plain : (n : ℕ) (ts : List ℕ) (xs : List Cond) (r : List ℕ) → exactly n table_line ts ≡ Ok (xs, r) → exactly n plain_line ts ≡ Ok (xs, r)
exactly_plain zero ts xs r e = e
exactly_plain (suc n) ts xs r e =
    let a = after_ok (table_line ts) (λ x ts. exactly n table_line ts >>= λ xs ts. Ok (x ∷ xs, ts)) (xs, r) e in
    let b = after_ok (exactly n table_line a.1) (λ xs ts. Ok (a.0 ∷ xs, ts)) (xs, r) a.3 in
    rw (line_plain ts a.0 a.1 a.2, exactly_plain n a.1 b.0 b.1 b.2) b.3

pub read_same : {A : Type 0} (xs ys : List A) (r : List ℕ) (p : Res (List A)) → IsReadAs xs p → p ≡ Ok (ys, r) → xs ≡ ys
read_same {A} xs ys r (Ok y) is e = sym is ∙ first e
  where
    equal : (y z : List A × List ℕ) → (let p : Res (List A) = Ok y in p ≡ Ok z) → y ≡ z
    equal y z h = cc

    first : (let p : Res (List A) = Ok y in p ≡ Ok (ys, r)) → y.0 ≡ ys
    first h = ap (λ z. z.0) (equal y (ys, r) h)
read_same xs ys r (Err d) is e = absurd is

pub table_is : (cursor : BookCursor) (book : Book) (xs : List Cond) (n : ℕ) → IsCursorAt cursor book → n ≡ length book.table → IsReadAs xs (exactly n plain_line cursor.table.now) → xs ≡ book.table
table_is cursor book xs n at size is =
    read_same xs book.table cursor.all_lines.now (exactly n plain_line cursor.table.now) is
    ((λ i. exactly (size i) plain_line (at.table i)) ∙ exactly_plain (length book.table) (table_text book.table ++ cursor.all_lines.now) book.table cursor.all_lines.now (complete_table book.table cursor.all_lines.now at.book_is.trees))

-- one tree more in memory
pub tree_pushed : (old new : List Tree) (t : Tree) (left : ℕ) (rest behind : List ℕ) → 0 < left → plain_line rest ≡ Ok (cond_of t, behind) → new ≡ old ++ (t ∷ []) →
    after_those (map cond_of old) (exactly left plain_line rest) ≡ after_those (map cond_of new) (exactly (left - 1) plain_line behind)
tree_pushed old new t left rest behind some e pushed =
    trees_more (map cond_of old) left rest (cond_of t) behind some e
    ∙ ap (λ z. after_those z (exactly (left - 1) plain_line behind)) (sym (ap (map cond_of) pushed ∙ map-append cond_of old (t ∷ [])))
