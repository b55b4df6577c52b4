-- Lists of nodes: what they list, and how they grow.
use Rattle.std.proofs.Common.{◌≡◌, ℕ, zero, suc, ◌+◌, ◌-◌, ◌<◌, ◌≤◌, ◌^◌, true, false, List, [], ◌∷◌, ◌++◌, map, length, take, drop, codes, Ok, Err, refl, sym, ◌∙◌, ap, subst, arith, append_assoc, append-nil, length-append}
use Rattle.std.specs.Prelude.{slice_set, Option, None, Some, IfNone}
use Rattle.std.proofs.Math.Seq.{drop-append_seam, set-append_seam, take-append_seam}
use Rattle.conditions.specs.Conditions.{cond_of}
use Rattle.conditions.specs.declared.tree.Tree.{Tree}
use Rattle.book_lists.specs.declared.listed.ListedBook.{ListedBook}
use Rattle.book_lists.specs.declared.listed.ListedNode.{ListedNode}
use Rattle.books.specs.declared.word.Word.{Word}
use Rattle.books.specs.Derivations.{Node, node, Nodes, no_nodes, and_node, nodes_from}
use Rattle.books.specs.Books.{most_nesting, Line, Book, AreTrees}
use Rattle.books.specs.Combine.{Res, begins, exactly, expect, several}
use Rattle.books.specs.Passing.{pass_table}
use Rattle.books.specs.Texts.{book_text, newline, IsBookText}
use Rattle.books.specs.Reading.{count_at, line_at, lines_at, node_at, nothing_behind, number_at, premise_with, table_line, word_at_front}
use Rattle.books.specs.Views.{after_those, plain_line, IsReadAs}
use Rattle.books.proofs.BookLaws.{book_by, complete_book, found_text, pass_table-is, Found}
use Rattle.books.proofs.CursorLaws.{lines_end, one_book}
use Rattle.books.proofs.PassBooks.{line_shorter}
use Rattle.books.proofs.PassLemmas.{premise_takes}
use Rattle.books.proofs.Several.{Takes, several_done, several_more, unseen}
use Rattle.books.proofs.TableLaws.{exactly_plain, moved, read_same}
use Rattle.book_lists.specs.Listed.{line_head, listed, listed_all, listed_lines, unlisted, unlisted_among, unlisted_lines, AreListed, AreListedSoFar, IsList, IsListedAs, IsListedBook}

-- the front of a list, and what is behind it

-- a list has the nodes that are listed in it

pub back_among : (most : ℕ) (ds : Nodes) → length (listed_all ds) ≤ most → unlisted_among most (listed_all ds) ≡ ds
back_among zero no_nodes few = refl
back_among zero (and_node (node w n ps) ds) few = absurd (omega (arith, few))
back_among (suc most) no_nodes few = refl
back_among (suc most) (and_node (node w n ps) ds) few =
    let sizes = length-append (listed_all ps) (listed_all ds) in
    let inner = ap (unlisted_among most) (take-append_seam (listed_all ps) (listed_all ds)) ∙ back_among most ps (omega (arith, few, sizes)) in
    let others = ap (unlisted_among most) (drop-append_seam (listed_all ps) (listed_all ds)) ∙ back_among most ds (omega (arith, few, sizes)) in
    λ i. and_node (node w n (inner i)) (others i)

pub back : (ds : Nodes) → unlisted (listed_all ds) ≡ ds
back ds = back_among (length (listed_all ds)) ds (omega arith)

pub is_list : (xs : List ListedNode) (ds : Nodes) → xs ≡ listed_all ds → IsList xs
is_list xs ds e = e ∙ ap listed_all (sym (ap unlisted e ∙ back ds))

-- the first of some nodes in a list, with those below it, and the others
pub record IsFirstListed (x : ListedNode) (behind : List ListedNode) : Type 0 where
  pub room : x.below ≤ length behind
  pub is : unlisted (x ∷ behind) ≡ and_node (node x.word x.number (unlisted (take x.below behind))) (unlisted (drop x.below behind))
  pub inner_are : IsList (take x.below behind)
  pub rest_are : IsList (drop x.below behind)

first_by : (x : ListedNode) (behind : List ListedNode) (ds : Nodes) → (x ∷ behind) ≡ listed_all ds → IsFirstListed x behind
first_by x behind no_nodes e = absurd (cc)
first_by x behind (and_node (node w n ps) ds) e =
    let head : x ≡ record { word = w; number = n; below = length (listed_all ps) } = cc in
    let tail : behind ≡ listed_all ps ++ listed_all ds = cc in
    let below : x.below ≡ length (listed_all ps) = ap (λ z. z.below) head in
    let inner : take x.below behind ≡ listed_all ps = (λ i. take (below i) (tail i)) ∙ take-append_seam (listed_all ps) (listed_all ds) in
    let rest : drop x.below behind ≡ listed_all ds = (λ i. drop (below i) (tail i)) ∙ drop-append_seam (listed_all ps) (listed_all ds) in
    record {
      room = omega (arith, below, ap length tail, length-append (listed_all ps) (listed_all ds));
      is = ap unlisted e ∙ back (and_node (node w n ps) ds)
          ∙ (λ i. and_node (node ((sym head i).word) ((sym head i).number) ((sym (back ps) ∙ ap unlisted (sym inner)) i)) ((sym (back ds) ∙ ap unlisted (sym rest)) i));
      inner_are = is_list (take x.below behind) ps inner;
      rest_are = is_list (drop x.below behind) ds rest;
    }

pub first_listed : (x : ListedNode) (behind : List ListedNode) → IsList (x ∷ behind) → IsFirstListed x behind
first_listed x behind is = first_by x behind (unlisted (x ∷ behind)) is

-- what holds in any case holds where there is none
pub if_none : {A : Type 0} (r : Option A) (P : Type 0) → P → IfNone r P
if_none None P p = p
if_none (Some x) P p = tt

-- the first of some nodes, with those below it and those behind
pub record IsFirstOf (xs : List ListedNode) (x : ListedNode) (inner rest : List ListedNode) : Type 0 where
  pub is : unlisted xs ≡ and_node (node x.word x.number (unlisted inner)) (unlisted rest)
  pub inner_are : IsList inner
  pub rest_are : IsList rest

pub first_room : (xs behind : List ListedNode) (x : ListedNode) → xs ≡ x ∷ behind → IsList xs → x.below ≤ length behind
first_room xs behind x e is = (first_listed x behind (subst IsList e is)).room

pub first_of : (xs behind inner rest : List ListedNode) (x : ListedNode) → xs ≡ x ∷ behind → IsList xs → inner ≡ take x.below behind → rest ≡ drop x.below behind →
    IsFirstOf xs x inner rest
first_of xs behind inner rest x e is inner_is rest_is =
    let first = first_listed x behind (subst IsList e is) in
    record {
      is = ap unlisted e ∙ first.is ∙ (λ i. and_node (node x.word x.number (unlisted (sym inner_is i))) (unlisted (sym rest_is i)));
      inner_are = subst IsList (sym inner_is) first.inner_are;
      rest_are = subst IsList (sym rest_is) first.rest_are;
    }

pub no_first : (xs : List ListedNode) → length xs ≡ 0 → unlisted xs ≡ no_nodes
no_first [] e = refl
no_first (x ∷ xs) e = absurd (omega (arith, e))

-- the first of some method lines in lists, with the others
pub record IsFirstLineListed (h : ℕ × ℕ) (hs : List (ℕ × ℕ)) (x : ListedNode) (behind : List ListedNode) : Type 0 where
  pub room : x.below ≤ length behind
  pub inner_are : IsList (take x.below behind)
  pub rest_are : AreListed hs (drop x.below behind) (unlisted_lines hs (drop x.below behind))

pub lines_back : (lines : List Line) → unlisted_lines (map line_head lines) (listed_lines lines) ≡ lines
lines_back [] = refl
lines_back (line ∷ lines) = by_body line.id line.number line.body lines (lines_back lines)
  where
    by_body : (id number : ℕ) (d : Node) (lines : List Line) → unlisted_lines (map line_head lines) (listed_lines lines) ≡ lines →
        unlisted_lines ((id, number) ∷ map line_head lines) (listed d ++ listed_lines lines) ≡ record { id = id; number = number; body = d } ∷ lines
    by_body id number (node w n ds) lines before =
        let inner = ap unlisted (take-append_seam (listed_all ds) (listed_lines lines)) ∙ back ds in
        let rest = ap (unlisted_lines (map line_head lines)) (drop-append_seam (listed_all ds) (listed_lines lines)) ∙ before in
        λ i. record { id = id; number = number; body = node w n (inner i) } ∷ rest i

pub are_listed : (heads : List (ℕ × ℕ)) (nodes : List ListedNode) (lines : List Line) → AreListed heads nodes lines → AreListed heads nodes (unlisted_lines heads nodes)
are_listed heads nodes lines are =
    subst (AreListed heads nodes) (sym ((λ i. unlisted_lines (are.heads_are i) (are.nodes_are i)) ∙ lines_back lines)) are

first_line_by : (h : ℕ × ℕ) (hs : List (ℕ × ℕ)) (x : ListedNode) (behind : List ListedNode) (lines : List Line) → AreListed (h ∷ hs) (x ∷ behind) lines → IsFirstLineListed h hs x behind
first_line_by h hs x behind [] are = absurd (let e : (h ∷ hs) ≡ [] = are.heads_are in cc)
first_line_by h hs x behind (line ∷ lines) are =
    let e : (h ∷ hs) ≡ line_head line ∷ map line_head lines = are.heads_are in
    by_body line.body (cc) are.nodes_are
  where
    by_body : (d : Node) → hs ≡ map line_head lines → (x ∷ behind) ≡ listed d ++ listed_lines lines → IsFirstLineListed h hs x behind
    by_body (node w n ds) heads e =
        let head : x ≡ record { word = w; number = n; below = length (listed_all ds) } = cc in
        let tail : behind ≡ listed_all ds ++ listed_lines lines = cc in
        let below : x.below ≡ length (listed_all ds) = ap (λ z. z.below) head in
        let inner : take x.below behind ≡ listed_all ds = (λ i. take (below i) (tail i)) ∙ take-append_seam (listed_all ds) (listed_lines lines) in
        let rest : drop x.below behind ≡ listed_lines lines = (λ i. drop (below i) (tail i)) ∙ drop-append_seam (listed_all ds) (listed_lines lines) in
        record {
          room = omega (arith, below, ap length tail, length-append (listed_all ds) (listed_lines lines));
          inner_are = is_list (take x.below behind) ds inner;
          rest_are = are_listed hs (drop x.below behind) lines (record { heads_are = heads; nodes_are = rest });
        }

pub first_line_listed : (h : ℕ × ℕ) (hs : List (ℕ × ℕ)) (x : ListedNode) (behind : List ListedNode) → AreListed (h ∷ hs) (x ∷ behind) (unlisted_lines (h ∷ hs) (x ∷ behind)) →
    IsFirstLineListed h hs x behind
first_line_listed h hs x behind are = first_line_by h hs x behind (unlisted_lines (h ∷ hs) (x ∷ behind)) are

pub record IsFirstLineOf (all : List (ℕ × ℕ)) (xs : List ListedNode) (h : ℕ × ℕ) (hs : List (ℕ × ℕ)) (x : ListedNode) (inner rest : List ListedNode) : Type 0 where
  pub is : unlisted_lines all xs ≡ record { id = h.0; number = h.1; body = node x.word x.number (unlisted inner) } ∷ unlisted_lines hs rest
  pub inner_are : IsList inner
  pub rest_are : AreListed hs rest (unlisted_lines hs rest)

parts_listed : (all hs : List (ℕ × ℕ)) (xs behind : List ListedNode) (h : ℕ × ℕ) (x : ListedNode) → all ≡ h ∷ hs → xs ≡ x ∷ behind → AreListed all xs (unlisted_lines all xs) →
    IsFirstLineListed h hs x behind
parts_listed all hs xs behind h x heads nodes are = first_line_listed h hs x behind (subst (λ (z : List (ℕ × ℕ) × List ListedNode). AreListed z.0 z.1 (unlisted_lines z.0 z.1)) (λ i. (heads i, nodes i)) are)

pub first_line_room : (all hs : List (ℕ × ℕ)) (xs behind : List ListedNode) (h : ℕ × ℕ) (x : ListedNode) → all ≡ h ∷ hs → xs ≡ x ∷ behind → AreListed all xs (unlisted_lines all xs) →
    x.below ≤ length behind
first_line_room all hs xs behind h x heads nodes are = (parts_listed all hs xs behind h x heads nodes are).room

pub first_line_of : (all hs : List (ℕ × ℕ)) (xs behind inner rest : List ListedNode) (h : ℕ × ℕ) (x : ListedNode) → all ≡ h ∷ hs → xs ≡ x ∷ behind →
    AreListed all xs (unlisted_lines all xs) → inner ≡ take x.below behind → rest ≡ drop x.below behind → IsFirstLineOf all xs h hs x inner rest
first_line_of all hs xs behind inner rest h x heads nodes are inner_is rest_is =
    let first = parts_listed all hs xs behind h x heads nodes are in
    record {
      is = (λ i. unlisted_lines (heads i) (nodes i))
          ∙ (λ i. record { id = h.0; number = h.1; body = node x.word x.number (unlisted (sym inner_is i)) } ∷ unlisted_lines hs (sym rest_is i));
      inner_are = subst IsList (sym inner_is) first.inner_are;
      rest_are = subst (λ z. AreListed hs z (unlisted_lines hs z)) (sym rest_is) first.rest_are;
    }

pub no_first_line : (all : List (ℕ × ℕ)) (xs : List ListedNode) → length all ≡ 0 → unlisted_lines all xs ≡ []
no_first_line [] xs e = refl
no_first_line (h ∷ hs) xs e = absurd (omega (arith, e))

pub no_first_body : (all hs : List (ℕ × ℕ)) (xs : List ListedNode) (h : ℕ × ℕ) → all ≡ h ∷ hs → length xs ≡ 0 → unlisted_lines all xs ≡ []
no_first_body all hs [] h heads e = ap (λ z. unlisted_lines z []) heads
no_first_body all hs (x ∷ xs) h heads e = absurd (omega (arith, e))

-- items that are read one after another

pub none_listed : {A B : Type 0} (list : List A → List B) (old : List B) (p : Res (List A)) → list [] ≡ [] → AreListedSoFar list old old p p
none_listed list old (Ok y) e = record { so_far = []; read_is = refl; behind = sym (ap (λ z. old ++ z) e ∙ append-nil old) }
none_listed list old (Err fault) e = record { so_far = []; read_is = refl; behind = sym (ap (λ z. old ++ z) e ∙ append-nil old) }

one_listed : {A B : Type 0} (list : List A → List B) (one : A → List B) → ((xs : List A) (x : A) → list (xs ++ (x ∷ [])) ≡ list xs ++ one x) →
    (byte : ℕ) (item : List ℕ → Res A) → Takes item → (old now new : List B) (whole : Res (List A)) (rest behind : List ℕ) →
    AreListedSoFar list old now whole (several byte item rest) → begins byte rest ≡ true → IsListedAs one now new (item rest) behind →
    AreListedSoFar list old new whole (several byte item behind)
one_listed list one splits byte item takes old now new whole rest behind before go read = record {
  so_far = before.so_far ++ (read.what ∷ []);
  read_is = before.read_is ∙ ap (after_those before.so_far) (several_more byte item takes rest read.what behind go read.read_is) ∙ moved before.so_far read.what (several byte item behind);
  behind =
      read.behind ∙ ap (λ z. z ++ one read.what) before.behind ∙ append_assoc old (list before.so_far) (one read.what)
      ∙ ap (λ z. old ++ z) (sym (splits before.so_far read.what));
}

all_listed : {A B : Type 0} (list : List A → List B) (byte : ℕ) (item : List ℕ → Res A) (old now : List B) (whole : Res (List A)) (rest : List ℕ) →
    AreListedSoFar list old now whole (several byte item rest) → begins byte rest ≡ false → IsListedAs list old now whole rest
all_listed list byte item old now whole rest before stop = record {
  what = before.so_far;
  read_is = before.read_is ∙ ap (after_those before.so_far) (several_done byte item rest stop) ∙ ap (λ z. Ok (z, rest)) (append-nil before.so_far);
  behind = before.behind;
}

-- premises

premises_split : (ds : List Node) (d : Node) → listed_all (nodes_from (ds ++ (d ∷ []))) ≡ listed_all (nodes_from ds) ++ listed d
premises_split [] d = append-nil (listed d)
premises_split (x ∷ ds) d = ap (λ z. listed x ++ z) (premises_split ds d) ∙ sym (append_assoc (listed x) (listed_all (nodes_from ds)) (listed d))

pub premise_listed : (count room : ℕ) (old now new : List ListedNode) (whole : Res (List Node)) (rest behind : List ℕ) → count ≤ 2 ^ 32 →
    AreListedSoFar (λ ds. listed_all (nodes_from ds)) old now whole (several 32 (premise_with (node_at count room)) rest) → begins 32 rest ≡ true →
    IsListedAs listed now new (premise_with (node_at count room) rest) behind →
    AreListedSoFar (λ ds. listed_all (nodes_from ds)) old new whole (several 32 (premise_with (node_at count room)) behind)
premise_listed count room old now new whole rest behind small before go read =
    one_listed (λ ds. listed_all (nodes_from ds)) listed premises_split 32 (premise_with (node_at count room)) (λ ts x r is. premise_takes count (omega (arith, small)) room ts x r is) old now new whole rest behind before go read

pub all_premises_listed : (count room : ℕ) (old now : List ListedNode) (whole : Res (List Node)) (rest : List ℕ) →
    AreListedSoFar (λ ds. listed_all (nodes_from ds)) old now whole (several 32 (premise_with (node_at count room)) rest) → begins 32 rest ≡ false →
    IsListedAs (λ ds. listed_all (nodes_from ds)) old now whole rest
all_premises_listed count room old now whole rest before stop = all_listed (λ ds. listed_all (nodes_from ds)) 32 (premise_with (node_at count room)) old now whole rest before stop

-- method lines

heads_split : (lines : List Line) (line : Line) → map line_head (lines ++ (line ∷ [])) ≡ map line_head lines ++ (line_head line ∷ [])
heads_split [] line = refl
heads_split (x ∷ lines) line = ap (λ z. line_head x ∷ z) (heads_split lines line)

lines_split : (lines : List Line) (line : Line) → listed_lines (lines ++ (line ∷ [])) ≡ listed_lines lines ++ listed line.body
lines_split [] line = append-nil (listed line.body)
lines_split (x ∷ lines) line = ap (λ z. listed x.body ++ z) (lines_split lines line) ∙ sym (append_assoc (listed x.body) (listed_lines lines) (listed line.body))

pub head_listed : (count : ℕ) (old now new : List (ℕ × ℕ)) (whole : Res (List Line)) (rest behind : List ℕ) → count ≤ 2 ^ 32 →
    AreListedSoFar (map line_head) old now whole (several 109 (line_at count) rest) → begins 109 rest ≡ true →
    IsListedAs (λ line. line_head line ∷ []) now new (line_at count rest) behind →
    AreListedSoFar (map line_head) old new whole (several 109 (line_at count) behind)
head_listed count old now new whole rest behind small before go read =
    one_listed (map line_head) (λ line. line_head line ∷ []) heads_split 109 (line_at count) (λ ts x r is. line_shorter count (omega (arith, small)) ts x r is) old now new whole rest behind before go read

pub line_listed : (count : ℕ) (old now new : List ListedNode) (whole : Res (List Line)) (rest behind : List ℕ) → count ≤ 2 ^ 32 →
    AreListedSoFar listed_lines old now whole (several 109 (line_at count) rest) → begins 109 rest ≡ true →
    IsListedAs (λ line. listed line.body) now new (line_at count rest) behind →
    AreListedSoFar listed_lines old new whole (several 109 (line_at count) behind)
line_listed count old now new whole rest behind small before go read =
    one_listed listed_lines (λ line. listed line.body) lines_split 109 (line_at count) (λ ts x r is. line_shorter count (omega (arith, small)) ts x r is) old now new whole rest behind before go read

pub all_heads_listed : (count : ℕ) (old now : List (ℕ × ℕ)) (whole : Res (List Line)) (rest : List ℕ) →
    AreListedSoFar (map line_head) old now whole (several 109 (line_at count) rest) → begins 109 rest ≡ false → IsListedAs (map line_head) old now whole rest
all_heads_listed count old now whole rest before stop = all_listed (map line_head) 109 (line_at count) old now whole rest before stop

pub all_lines_listed : (count : ℕ) (old now : List ListedNode) (whole : Res (List Line)) (rest : List ℕ) →
    AreListedSoFar listed_lines old now whole (several 109 (line_at count) rest) → begins 109 rest ≡ false → IsListedAs listed_lines old now whole rest
all_lines_listed count old now whole rest before stop = all_listed listed_lines 109 (line_at count) old now whole rest before stop

-- a node after a blank
pub premise_one : (count room : ℕ) (text behind rest : List ℕ) (old new : List ListedNode) → expect (codes " ") text ≡ Ok (tt, behind) →
    IsListedAs listed old new (node_at count room behind) rest → IsListedAs listed old new (premise_with (node_at count room) text) rest
premise_one count room text behind rest old new blank inner = record { what = inner.what; read_is = rw (blank, inner.read_is) refl; behind = inner.behind }

-- a method line whose node was read
line_read : (count : ℕ) (text r1 r2 r3 r4 r5 r6 r7 : List ℕ) (id n : ℕ) (body : Node) → expect (codes "method ") text ≡ Ok (tt, r1) → number_at (2 ^ 32) r1 ≡ Ok (id, r2) →
    expect (codes " ") r2 ≡ Ok (tt, r3) → number_at count r3 ≡ Ok (n, r4) → expect (newline ∷ []) r4 ≡ Ok (tt, r5) → node_at count most_nesting r5 ≡ Ok (body, r6) →
    expect (newline ∷ []) r6 ≡ Ok (tt, r7) → line_at count text ≡ Ok (record { id = id; number = n; body = body }, r7)
unfolding line_at
line_read count text r1 r2 r3 r4 r5 r6 r7 id n body begun identified between numbered ended read closed = rw (begun, identified, between, numbered, ended, read, closed) refl

pub line_head_listed : (count : ℕ) (text r1 r2 r3 r4 r5 r6 r7 : List ℕ) (id n : ℕ) (old new : List (ℕ × ℕ)) (before after : List ListedNode) → expect (codes "method ") text ≡ Ok (tt, r1) →
    number_at (2 ^ 32) r1 ≡ Ok (id, r2) → expect (codes " ") r2 ≡ Ok (tt, r3) → number_at count r3 ≡ Ok (n, r4) → expect (newline ∷ []) r4 ≡ Ok (tt, r5) →
    IsListedAs listed before after (node_at count most_nesting r5) r6 → expect (newline ∷ []) r6 ≡ Ok (tt, r7) → new ≡ old ++ ((id, n) ∷ []) →
    IsListedAs (λ line. line_head line ∷ []) old new (line_at count text) r7
line_head_listed count text r1 r2 r3 r4 r5 r6 r7 id n old new before after begun identified between numbered ended body closed push = record {
  what = record { id = id; number = n; body = body.what };
  read_is = line_read count text r1 r2 r3 r4 r5 r6 r7 id n body.what begun identified between numbered ended body.read_is closed;
  behind = push;
}

pub line_body_listed : (count : ℕ) (text r1 r2 r3 r4 r5 r6 r7 : List ℕ) (id n : ℕ) (before after : List ListedNode) → expect (codes "method ") text ≡ Ok (tt, r1) →
    number_at (2 ^ 32) r1 ≡ Ok (id, r2) → expect (codes " ") r2 ≡ Ok (tt, r3) → number_at count r3 ≡ Ok (n, r4) → expect (newline ∷ []) r4 ≡ Ok (tt, r5) →
    IsListedAs listed before after (node_at count most_nesting r5) r6 → expect (newline ∷ []) r6 ≡ Ok (tt, r7) →
    IsListedAs (λ line. listed line.body) before after (line_at count text) r7
line_body_listed count text r1 r2 r3 r4 r5 r6 r7 id n before after begun identified between numbered ended body closed = record {
  what = record { id = id; number = n; body = body.what };
  read_is = line_read count text r1 r2 r3 r4 r5 r6 r7 id n body.what begun identified between numbered ended body.read_is closed;
  behind = body.behind;
}

-- a node whose premises stand behind it, once it is told how many they are
pub node_told : (old pushed inner new : List ListedNode) (x : ListedNode) (w : Word) (n place : ℕ) (ds : List Node) →
    pushed ≡ old ++ (x ∷ []) → inner ≡ pushed ++ listed_all (nodes_from ds) → place ≡ length old →
    new ≡ slice_set inner place (record { word = w; number = n; below = length inner - (place + 1) }) → new ≡ old ++ listed (node w n (nodes_from ds))
node_told old pushed inner new x w n place ds push more at told =
    let ls = listed_all (nodes_from ds) in
    let whole : inner ≡ old ++ (x ∷ ls) = more ∙ ap (λ z. z ++ ls) push ∙ append_assoc old (x ∷ []) ls in
    let count : length inner - (place + 1) ≡ length ls = omega (arith, ap length whole, length-append old (x ∷ ls), at) in
    told ∙ (λ i. slice_set (whole i) (at i) (record { word = w; number = n; below = count i })) ∙ set-append_seam old x ls (record { word = w; number = n; below = length ls })

-- the place of a node that was pushed
pub node_inside : (old pushed inner ls : List ListedNode) (x : ListedNode) (place : ℕ) → place ≡ length old → pushed ≡ old ++ (x ∷ []) → inner ≡ pushed ++ ls → place < length inner
node_inside old pushed inner ls x place at push more =
    omega (arith, at, ap length push, length-append old (x ∷ []), ap length more, length-append pushed ls)

-- a node whose premises stand behind it is listed
pub node_listed : (count room : ℕ) (text r1 r2 r3 r4 rest : List ℕ) (w : Word) (n place : ℕ) (old pushed inner new : List ListedNode) (x : ListedNode) → (room ≡ 0 → ⊥) →
    expect (40 ∷ []) text ≡ Ok (tt, r1) → word_at_front r1 ≡ Ok (w, r2) → number_at count r2 ≡ Ok (n, r3) → place ≡ length old → pushed ≡ old ++ (x ∷ []) →
    IsListedAs (λ ds. listed_all (nodes_from ds)) pushed inner (several 32 (premise_with (node_at count (room - 1))) r3) r4 → expect (41 ∷ []) r4 ≡ Ok (tt, rest) →
    new ≡ slice_set inner place (record { word = w; number = n; below = length inner - (place + 1) }) → IsListedAs listed old new (node_at count room text) rest
unfolding node_at
node_listed count zero text r1 r2 r3 r4 rest w n place old pushed inner new x some opened word number at push premises closed told = absurd (some refl)
node_listed count (suc room) text r1 r2 r3 r4 rest w n place old pushed inner new x some opened word number at push premises closed told =
    let same : suc room - 1 ≡ room = omega arith in
    let read : several 32 (premise_with (node_at count room)) r3 ≡ Ok (premises.what, r4) = (λ i. several 32 (premise_with (node_at count (sym same i))) r3) ∙ premises.read_is in
    record {
      what = node w n (nodes_from premises.what);
      read_is = rw (opened, word, number, read, closed) refl;
      behind = node_told old pushed inner new x w n place premises.what push premises.behind at told;
    }

-- the lent parts of a book in lists

pub lines_are : (heads : List (ℕ × ℕ)) (nodes : List ListedNode) (lines : List Line) → AreListed heads nodes lines → unlisted_lines heads nodes ≡ lines
lines_are heads nodes lines are = (λ i. unlisted_lines (are.heads_are i) (are.nodes_are i)) ∙ lines_back lines

pub lent_book : (lists : ListedBook) (book : Book) (table : List Tree) (heads : List (ℕ × ℕ)) (nodes : List ListedNode) → IsListedBook lists book →
    table ≡ lists.table.items → heads ≡ lists.lines.items → nodes ≡ lists.nodes.items → record { table = map cond_of table; lines = unlisted_lines heads nodes } ≡ book
lent_book lists book table heads nodes is trees lines listed_nodes =
    let same_table = ap (map cond_of) trees ∙ is.table in
    let same_lines = (λ i. unlisted_lines (lines i) (listed_nodes i)) ∙ lines_are lists.lines.items lists.nodes.items book.lines is.lines in
    λ i. record { table = same_table i; lines = same_lines i }

pub lent_kept : (lists : ListedBook) (book : Book) (heads : List (ℕ × ℕ)) (nodes : List ListedNode) → IsListedBook lists book →
    heads ≡ lists.lines.items → nodes ≡ lists.nodes.items → AreListed heads nodes (unlisted_lines heads nodes)
lent_kept lists book heads nodes is lines listed_nodes =
    are_listed heads nodes book.lines (record { heads_are = lines ∙ is.lines.heads_are; nodes_are = listed_nodes ∙ is.lines.nodes_are })

pub lent_trees : (lists : ListedBook) (book : Book) (table : List Tree) → IsListedBook lists book → table ≡ lists.table.items → AreTrees (map cond_of table)
lent_trees lists book table is trees = subst AreTrees (sym (ap (map cond_of) trees ∙ is.table)) is.book_is.trees

-- a book that was read into lists

book_read : (bytes : List ℕ) (n : ℕ) (table lines rest : List ℕ) (trees : List Tree) (ls : List Line) → count_at bytes ≡ Ok (n, table) → pass_table n table ≡ Ok (tt, lines) →
    IsReadAs (map cond_of trees) (exactly n plain_line table) → lines_at n lines ≡ Ok (ls, rest) → IsBookText bytes (record { table = map cond_of trees; lines = ls })
book_read bytes n table lines rest trees ls counted passed built read =
    let whole = unseen (λ t. tt {0}) (exactly n table_line table) tt lines (sym (pass_table-is n table) ∙ passed) in
    let same : map cond_of trees ≡ whole.0 = read_same (map cond_of trees) whole.0 lines (exactly n plain_line table) built (exactly_plain n table whole.0 lines whole.1) in
    let tabled : exactly n table_line table ≡ Ok (map cond_of trees, lines) = whole.1 ∙ ap (λ z. Ok (z, lines)) (sym same) in
    let book : Book = record { table = map cond_of trees; lines = ls } in
    let found : Found bytes n table lines rest = record { book = book; read = book_by bytes n table lines rest (map cond_of trees) ls counted tabled read; count = counted; trees = tabled; rest = read } in
    let text = found_text bytes n table lines rest found in
    let ended : rest ≡ [] = lines_end n lines ls rest read in
    record { book_is = text.1; text_is = text.0 ∙ ap (λ z. book_text book ++ z) ended ∙ append-nil (book_text book) }

lines_read : (n : ℕ) (lines behind rest ended : List ℕ) (ls : List Line) → several 109 (line_at n) lines ≡ Ok (ls, behind) →
    expect (codes "end" ++ (newline ∷ [])) behind ≡ Ok (tt, rest) → nothing_behind rest ≡ Ok (tt, ended) → lines_at n lines ≡ Ok (ls, ended)
unfolding lines_at
lines_read n lines behind rest ended ls read closed none = rw (read, closed, none) refl

what_same : {A : Type 0} (p : Res A) (x y : A) (r : List ℕ) → p ≡ Ok (x, r) → p ≡ Ok (y, r) → x ≡ y
what_same {A} p x y r one other = pairs (x, r) (y, r) (sym one ∙ other)
  where
    pairs : (v w : A × List ℕ) → (let q : Res A = Ok v in q ≡ Ok w) → v.0 ≡ w.0
    pairs v w e = ap (λ z. z.0) (let same : v ≡ w = cc in same)

pub book_listed : (bytes : List ℕ) (n : ℕ) (table lines behind rest ended : List ℕ) (lists : ListedBook) → count_at bytes ≡ Ok (n, table) → pass_table n table ≡ Ok (tt, lines) →
    IsReadAs (map cond_of lists.table.items) (exactly n plain_line table) →
    IsListedAs (map line_head) [] lists.lines.items (several 109 (line_at n) lines) behind → IsListedAs listed_lines [] lists.nodes.items (several 109 (line_at n) lines) behind →
    expect (codes "end" ++ (newline ∷ [])) behind ≡ Ok (tt, rest) → nothing_behind rest ≡ Ok (tt, ended) → (book : Book) × IsBookText bytes book × IsListedBook lists book
book_listed bytes n table lines behind rest ended lists counted passed built heads nodes closed none =
    let text = book_read bytes n table lines ended lists.table.items heads.what counted passed built (lines_read n lines behind rest ended heads.what heads.read_is closed none) in
    let same = what_same (several 109 (line_at n) lines) nodes.what heads.what behind nodes.read_is heads.read_is in (
      record { table = map cond_of lists.table.items; lines = heads.what },
      text,
      record {
        table = refl;
        lines = record { heads_are = heads.behind; nodes_are = nodes.behind ∙ ap listed_lines same };
        book_is = text.book_is;
      },
    )

-- it is the only one
pub only_listed : (bytes : List ℕ) (lists : ListedBook) (a b : Book) → IsBookText bytes a → IsListedBook lists a → IsBookText bytes b → IsListedBook lists b
only_listed bytes lists a b first listed second = subst (IsListedBook lists) (one_book bytes a b (complete_book bytes a first) second) listed
