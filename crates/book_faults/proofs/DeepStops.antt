-- Where reading stops since something is too deep, a bracket stands there that opens one test or node too many.
use Rattle.std.proofs.Common.{◌≡◌, ℕ, zero, suc, ◌==◌, ◌||◌, ◌≤◌, ◌^◌, Bool, true, false, not, List, [], ◌∷◌, ◌++◌, length, drop, nat_le, nat_lt, codes, if◌then◌else◌, Ok, Err, refl, sym, ◌∙◌, ap, subst, arith, append_assoc, append-nil}
use Rattle.std.specs.Str.Parse.{digits_value}
use Rattle.algebra.specs.Basics.{name_of}
use Rattle.conditions.specs.Conditions.{Cond, LeafC, TestC}
use Rattle.books.specs.declared.stop.Kind.TheVariants.{Form, TooDeep}
use Rattle.books.specs.Derivations.{Node, node, nodes_from, words}
use Rattle.books.specs.Books.{IsTree, is_canonical, IsMethodLine, most_nesting}
use Rattle.books.specs.Combine.{Res, ◌>>=◌, begins, expect, further, one_of, at_most, several, exactly}
use Rattle.books.specs.Reading.{number_digits, is_at_end, number_at, fields_at, path_at, basics, leaf_at, test_with, tree_at, canonical_at, table_line, word_at_front, premise_with, node_at, line_at, nothing_behind, count_at, lines_at, book_at}
use Rattle.books.specs.Texts.{newline}
use Rattle.books.proofs.Sound.{SoundAt, Bytes, Spells, IsNumber, sound_expect, sound_number}
use Rattle.books.proofs.SoundTrees.{ReadsPath, ReadsTree, ReadsTableTree, ReadsTableLine, ReadsNode, ReadsPremise, ReadsLine, sound_path, sound_leaf}
use Rattle.books.proofs.Stops.{Never}
use Rattle.book_faults.specs.Breaks.{BreaksTest, in_held, in_free, BreaksTree, BreaksTableTree, inside, BreaksNode, BreaksLine, in_body, BreaksBook}
use Rattle.book_faults.proofs.RowStops.{word_front, sound_word}
use Rattle.book_faults.proofs.TreeStops.{Nested, test_whole, TableText, TableBreaks, more_trees, first_tree_breaks, later_tree_breaks}
use Rattle.book_faults.proofs.NodeStops.{PremisesText, PremisesBreak, more_premises, later_premise, node_whole, premises_break, line_text}
use Rattle.book_faults.proofs.BookStops.{LinesText, LinesBreak, more_lines, later_line, EndedText, ended, CountText, Anything, tree_breaks, line_breaks}

-- ---- what is read, or where reading stops since something is too deep

-- what was read has a front of the text that L relates to it; where something was too deep, B relates what stands before the place and behind it
abbrev pub DeepAt : {A : Type 0} → (List ℕ → A → Type 0) → (List ℕ → List ℕ → Type 0) → List ℕ → Res A → Type 0
DeepAt L B ts (Ok y) = (front : List ℕ) × (ts ≡ front ++ y.1) × L front y.0
DeepAt L B ts (Err e) = e.0 ≡ TooDeep → (front : List ℕ) × (ts ≡ front ++ e.1) × B front e.1

pub record Deep {A : Type 0} (L : List ℕ → A → Type 0) (B : List ℕ → List ℕ → Type 0) (ts : List ℕ) (x : Res A) : Type 0 where
  pub at : DeepAt L B ts x

pub form_not : Form ≡ TooDeep → ⊥
form_not e = cc

-- nothing is too deep
abbrev IsForm : {A : Type 0} → Res A → Type 0
IsForm (Ok y) = Unit {0}
IsForm (Err e) = e.0 ≡ TooDeep → ⊥

deep_behind : {A : Type 0} (L : List ℕ → A → Type 0) (B : List ℕ → List ℕ → Type 0) (ts known r : List ℕ) → ts ≡ known ++ r → (x : Res A) → DeepAt (λ ys c. L (known ++ ys) c) (λ ys zs. B (known ++ ys) zs) r x → DeepAt L B ts x
deep_behind L B ts known r is (Ok y) s = (known ++ s.0, is ∙ ap (λ z. known ++ z) s.1 ∙ sym (append_assoc known s.0 y.1), s.2)
deep_behind L B ts known r is (Err d) s = λ deep. let t = s deep in (known ++ t.0, is ∙ ap (λ z. known ++ z) t.1 ∙ sym (append_assoc known t.0 d.1), t.2)

seq_by : {A C : Type 0} (K : List ℕ → A → Type 0) (D : List ℕ → List ℕ → Type 0) (L : List ℕ → C → Type 0) (B : List ℕ → List ℕ → Type 0) (ts : List ℕ) (x : Res A) (f : A → List ℕ → Res C) →
    ((front rest : List ℕ) → D front rest → B front rest) → DeepAt K D ts x →
    ((a : A) (known : List ℕ) → K known a → (r : List ℕ) → Deep (λ ys c. L (known ++ ys) c) (λ ys zs. B (known ++ ys) zs) r (f a r)) → DeepAt L B ts (x >>= f)
seq_by K D L B ts (Ok y) f up s next = deep_behind L B ts s.0 y.1 s.1 (f y.0 y.1) (next y.0 s.0 s.2 y.1).at
seq_by K D L B ts (Err d) f up s next = λ deep. let t = s deep in (t.0, t.1, up t.0 d.1 t.2)

-- one part, and then another, of which is asked what is missing
deep_seq : {A C : Type 0} (K : List ℕ → A → Type 0) (D : List ℕ → List ℕ → Type 0) (L : List ℕ → C → Type 0) (B : List ℕ → List ℕ → Type 0) (ts : List ℕ) (x : Res A) (f : A → List ℕ → Res C) →
    ((front rest : List ℕ) → D front rest → B front rest) → Deep K D ts x →
    ((a : A) (known : List ℕ) → K known a → (r : List ℕ) → Deep (λ ys c. L (known ++ ys) c) (λ ys zs. B (known ++ ys) zs) r (f a r)) → Deep L B ts (x >>= f)
deep_seq K D L B ts x f up s next = record { at = seq_by K D L B ts x f up s.at next }

deep_done : {A : Type 0} (L : List ℕ → A → Type 0) (B : List ℕ → List ℕ → Type 0) (a : A) (ts : List ℕ) → L [] a → Deep L B ts (Ok (a, ts))
deep_done L B a ts l = record { at = ([], refl, l) }

deep_if : {A : Type 0} (L : List ℕ → A → Type 0) (B : List ℕ → List ℕ → Type 0) (ts : List ℕ) (test : Bool) (x y : Res A) → (test ≡ true → Deep L B ts x) → (test ≡ false → Deep L B ts y) → Deep L B ts (if test then x else y)
deep_if L B ts true x y first other = first refl
deep_if L B ts false x y first other = other refl

plain_by : {A : Type 0} (L : List ℕ → A → Type 0) (ts : List ℕ) (x : Res A) → SoundAt L ts x → IsForm x → DeepAt L Never ts x
plain_by L ts (Ok y) s f = s
plain_by L ts (Err d) s f = λ deep. absurd (f deep)

deep_plain : {A : Type 0} (L : List ℕ → A → Type 0) (ts : List ℕ) (x : Res A) → SoundAt L ts x → IsForm x → Deep L Never ts x
deep_plain L ts x s f = record { at = plain_by L ts x s f }

-- ---- parts in which nothing is too deep

form_if : {A : Type 0} (test : Bool) (x y : Res A) → IsForm x → IsForm y → IsForm (if test then x else y)
form_if true x y f g = f
form_if false x y f g = g

form_then : {A C : Type 0} (x : Res A) (f : A → List ℕ → Res C) → IsForm x → ((a : A) (r : List ℕ) → IsForm (f a r)) → IsForm (x >>= f)
form_then (Ok y) f s next = next y.0 y.1
form_then (Err d) f s next = s

form_expect : (ws ts : List ℕ) → IsForm (expect ws ts)
form_expect [] ts = tt
form_expect (w ∷ ws) [] = form_not
form_expect (w ∷ ws) (b ∷ ts) = form_if (b == w) (expect ws ts) (Err (Form, b ∷ ts)) (form_expect ws ts) form_not

form_number : (end : ℕ) (ts : List ℕ) → IsForm (number_at end ts)
unfolding number_at
form_number end ts =
    form_if (is_at_end (number_digits ts) || not (nat_lt (digits_value 10 (number_digits ts)) end)) (Err (Form, ts)) (Ok (digits_value 10 (number_digits ts), drop (length (number_digits ts)) ts)) form_not tt

form_further : {A : Type 0} (x y : Res A) → IsForm x → IsForm y → IsForm (further x y)
form_further (Ok a) y f g = tt
form_further (Err e) (Ok b) f g = tt
form_further (Err e) (Err d) f g = form_if (nat_le (length e.1) (length d.1)) (Err e) (Err d) f g

form_one_of : {A : Type 0} (spell : A → List ℕ) (xs : List A) (ts : List ℕ) → IsForm (one_of spell xs ts)
form_one_of spell [] ts = form_not
form_one_of spell (x ∷ xs) ts =
    form_further (expect (spell x) ts >>= λ u ts. Ok (x, ts)) (one_of spell xs ts) (form_then (expect (spell x) ts) (λ u ts. Ok (x, ts)) (form_expect (spell x) ts) (λ u r. tt)) (form_one_of spell xs ts)

form_fields : (most : ℕ) (ts : List ℕ) → IsForm (fields_at most ts)
form_fields zero ts = tt
form_fields (suc most) ts =
    form_if (begins 46 ts) (number_at (2 ^ 32) (drop 1 ts) >>= λ f ts. fields_at most ts >>= λ fs ts. Ok (f ∷ fs, ts)) (Ok ([], ts))
    (form_then (number_at (2 ^ 32) (drop 1 ts)) (λ f ts. fields_at most ts >>= λ fs ts. Ok (f ∷ fs, ts)) (form_number (2 ^ 32) (drop 1 ts))
    (λ f r. form_then (fields_at most r) (λ fs ts. Ok (f ∷ fs, ts)) (form_fields most r) (λ fs r. tt))) tt

form_path : (ts : List ℕ) → IsForm (path_at ts)
unfolding path_at
form_path ts =
    form_then (number_at (2 ^ 16) ts) (λ root ts. fields_at 2 ts >>= λ fields ts. Ok (record { root = root; fields = fields }, ts)) (form_number (2 ^ 16) ts)
    (λ root r. form_then (fields_at 2 r) (λ fields ts. Ok (record { root = root; fields = fields }, ts)) (form_fields 2 r) (λ fields r. tt))

form_leaf : (ts : List ℕ) → IsForm (leaf_at ts)
unfolding leaf_at
form_leaf ts = form_one_of name_of basics ts

form_word : (ts : List ℕ) → IsForm (word_at_front ts)
unfolding word_at_front
form_word ts = form_one_of word_front words ts

form_nothing : (ts : List ℕ) → IsForm (nothing_behind ts)
form_nothing [] = tt
form_nothing (b ∷ ts) = form_not

deep_bytes : (ws ts : List ℕ) → Deep (Bytes ws) Never ts (expect ws ts)
deep_bytes ws ts = deep_plain (Bytes ws) ts (expect ws ts) (sound_expect ws ts) (form_expect ws ts)

deep_number : (end : ℕ) → end ≤ 2 ^ 64 → (ts : List ℕ) → Deep (IsNumber end) Never ts (number_at end ts)
deep_number end small ts = deep_plain (IsNumber end) ts (number_at end ts) (sound_number end small ts) (form_number end ts)

-- ---- trees

deep_leaf_tree : (room : ℕ) (B : List ℕ → List ℕ → Type 0) (ts : List ℕ) → Deep (ReadsTree room) B ts (leaf_at ts >>= λ b r. Ok (LeafC b, r))
deep_leaf_tree room B ts =
    deep_seq (Spells name_of) Never (ReadsTree room) B ts (leaf_at ts) (λ b r. Ok (LeafC b, r)) (λ front rest never. absurd never) (deep_plain (Spells name_of) ts (leaf_at ts) (sound_leaf ts) (form_leaf ts))
    (λ b xs e r. deep_done (λ ys t. ReadsTree room (xs ++ ys) t) (λ ys zs. B (xs ++ ys) zs) (LeafC b) r (append-nil xs ∙ e, tt, omega arith))

deep_test : (room : ℕ) (inner : List ℕ → Res Cond) (I : List ℕ → List ℕ → Type 0) → ((ts : List ℕ) → Deep (ReadsTree room) I ts (inner ts)) → (ts : List ℕ) →
    Deep (ReadsTree (suc room)) (BreaksTest TooDeep room I) ts (test_with inner ts)
deep_test room inner I law ts =
    deep_seq (Bytes (codes "(")) Never (ReadsTree (suc room)) (BreaksTest TooDeep room I) ts (expect (codes "(") ts) _ (λ front rest never. absurd never) (deep_bytes (codes "(") ts) λ u x1 e1 r.
    deep_seq ReadsPath Never _ _ r (path_at r) _ (λ front rest never. absurd never) (deep_plain ReadsPath r (path_at r) (sound_path r) (form_path r)) λ p x2 e2 r.
    deep_seq (Bytes (codes " ")) Never _ _ r (expect (codes " ") r) _ (λ front rest never. absurd never) (deep_bytes (codes " ") r) λ u x3 e3 r.
    deep_seq (ReadsTree room) I _ _ r (inner r) _ (λ front rest d. in_held p front e2.1 (λ i. e1 i ++ (e2.0 i ++ (e3 i ++ front))) d) (law r) λ a x4 e4 r.
    deep_seq (Bytes (codes " ")) Never _ _ r (expect (codes " ") r) _ (λ front rest never. absurd never) (deep_bytes (codes " ") r) λ u x5 e5 r.
    deep_seq (ReadsTree room) I _ _ r (inner r) _ (λ front rest d. in_free p a front e2.1 e4.1 e4.2 (λ i. e1 i ++ (e2.0 i ++ (e3 i ++ (e4.0 i ++ (e5 i ++ front))))) d) (law r) λ b x6 e6 r.
    deep_seq (Bytes (codes ")")) Never _ _ r (expect (codes ")") r) _ (λ front rest never. absurd never) (deep_bytes (codes ")") r) λ u x7 e7 r.
    deep_done _ _ (TestC p a b) r (test_whole room x1 x2 x3 x4 x5 x6 x7 p a b e1 e2 e3 e4 e5 e6 e7)

deep_tree : (room : ℕ) (ts : List ℕ) → Deep (ReadsTree room) (BreaksTree TooDeep room) ts (tree_at room ts)
unfolding tree_at
deep_tree zero ts =
    deep_if (ReadsTree 0) (BreaksTree TooDeep 0) ts (begins 40 ts) (Err (TooDeep, ts)) (leaf_at ts >>= λ b ts. Ok (LeafC b, ts)) (λ h. record { at = λ deep. ([], refl, (refl, refl, h)) }) (λ h. deep_leaf_tree 0 (BreaksTree TooDeep 0) ts)
deep_tree (suc room) ts =
    deep_if (ReadsTree (suc room)) (BreaksTree TooDeep (suc room)) ts (begins 40 ts) (test_with (tree_at room) ts) (leaf_at ts >>= λ b ts. Ok (LeafC b, ts))
    (λ h. deep_test room (tree_at room) (BreaksTree TooDeep room) (λ z. deep_tree room z) ts) (λ h. deep_leaf_tree (suc room) (BreaksTree TooDeep (suc room)) ts)

-- ---- tables

deep_canonical : (ts : List ℕ) → Deep ReadsTableTree (BreaksTableTree TooDeep) ts (canonical_at ts)
unfolding canonical_at
deep_canonical ts =
    deep_seq Nested (BreaksTree TooDeep most_nesting) ReadsTableTree (BreaksTableTree TooDeep) ts (tree_at most_nesting ts) (λ t rest. if is_canonical t then Ok (t, rest) else Err (Form, ts))
    (λ front rest b. inside b) (deep_tree most_nesting ts)
    (λ t xs n r. deep_if (λ ys c. ReadsTableTree (xs ++ ys) c) (λ ys zs. BreaksTableTree TooDeep (xs ++ ys) zs) r (is_canonical t) (Ok (t, r)) (Err (Form, ts))
    (λ h. record { at = ([], refl, (append-nil xs ∙ n.0, record { paths = n.1; high = n.2; canonical = h })) }) (λ h. record { at = λ deep. absurd (form_not deep) }))

deep_table_line : (ts : List ℕ) → Deep ReadsTableLine (BreaksTableTree TooDeep) ts (table_line ts)
deep_table_line ts =
    deep_seq ReadsTableTree (BreaksTableTree TooDeep) ReadsTableLine (BreaksTableTree TooDeep) ts (canonical_at ts) _ (λ front rest b. b) (deep_canonical ts) λ t x1 n r.
    deep_seq (Bytes (newline ∷ [])) Never _ _ r (expect (newline ∷ []) r) _ (λ front rest never. absurd never) (deep_bytes (newline ∷ []) r) λ u x2 e r.
    deep_done _ _ t r ((λ i. n.0 i ++ (append-nil x2 ∙ e) i), n.1)

-- behind less than so many trees something is too deep in the next
abbrev TableDeep : ℕ → List ℕ → List ℕ → Type 0
TableDeep n front rest = (b : TableBreaks n front rest) × (b.kind ≡ TooDeep)

deep_table : (n : ℕ) (ts : List ℕ) → Deep (TableText IsTree n) (TableDeep n) ts (exactly n table_line ts)
deep_table zero ts = deep_done (TableText IsTree 0) (TableDeep 0) [] ts (record { text = refl; each = tt; size = refl })
deep_table (suc n) ts =
    deep_seq ReadsTableLine (BreaksTableTree TooDeep) (TableText IsTree (suc n)) (TableDeep (suc n)) ts (table_line ts) (λ l r. exactly n table_line r >>= λ ls r. Ok (l ∷ ls, r))
    (λ front rest b. (first_tree_breaks n front rest (TooDeep, b), refl)) (deep_table_line ts)
    (λ l xs is r. deep_seq (TableText IsTree n) (TableDeep n) (λ ys ls. TableText IsTree (suc n) (xs ++ ys) ls) (λ ys zs. TableDeep (suc n) (xs ++ ys) zs) r (exactly n table_line r) (λ ls r. Ok (l ∷ ls, r))
    (λ front rest b. (later_tree_breaks n xs l front rest b.0 is, b.1)) (deep_table n r)
    (λ ls ys m r. deep_done (λ zs all. TableText IsTree (suc n) (xs ++ (ys ++ zs)) all) (λ us zs. TableDeep (suc n) (xs ++ (ys ++ us)) zs) (l ∷ ls) r (more_trees IsTree n xs ys l ls is.0 is.1 m)))

-- ---- items while a byte stands first

-- what is asked of items in which something may be too deep, and of their rows
record AreDeepRows {A : Type 0} (K : List ℕ → A → Type 0) (D : List ℕ → List ℕ → Type 0) (L : List ℕ → List A → Type 0) (B : List ℕ → List ℕ → Type 0) : Type 0 where
  none : L [] []
  more : (xs ys : List ℕ) (a : A) (bs : List A) → K xs a → L ys bs → L (xs ++ (ys ++ [])) (a ∷ bs)
  first : (front rest : List ℕ) → D front rest → B front rest
  later : (xs front rest : List ℕ) (a : A) → K xs a → B front rest → B (xs ++ front) rest

deep_at_most : {A : Type 0} (K : List ℕ → A → Type 0) (D : List ℕ → List ℕ → Type 0) (L : List ℕ → List A → Type 0) (B : List ℕ → List ℕ → Type 0) (byte : ℕ) (p : List ℕ → Res A) → AreDeepRows K D L B →
    ((ts : List ℕ) → Deep K D ts (p ts)) → (n : ℕ) (ts : List ℕ) → Deep L B ts (at_most n byte p ts)
deep_at_most K D L B byte p rows law zero ts = record { at = ([], refl, rows.none) }
deep_at_most K D L B byte p rows law (suc n) ts =
    deep_if L B ts (begins byte ts) (p ts >>= λ a ts. at_most n byte p ts >>= λ bs ts. Ok (a ∷ bs, ts)) (Ok ([], ts))
    (λ go. deep_seq K D L B ts (p ts) (λ a ts. at_most n byte p ts >>= λ bs ts. Ok (a ∷ bs, ts)) (λ front rest d. rows.first front rest d) (law ts)
    (λ a xs k r. deep_seq L B (λ ys bs. L (xs ++ ys) bs) (λ ys zs. B (xs ++ ys) zs) r (at_most n byte p r) (λ bs ts. Ok (a ∷ bs, ts)) (λ front rest b. rows.later xs front rest a k b) (deep_at_most K D L B byte p rows law n r)
    (λ bs ys l r. deep_done (λ zs all. L (xs ++ (ys ++ zs)) all) (λ us zs. B (xs ++ (ys ++ us)) zs) (a ∷ bs) r (rows.more xs ys a bs k l))))
    (λ done. record { at = ([], refl, rows.none) })

deep_several : {A : Type 0} (K : List ℕ → A → Type 0) (D : List ℕ → List ℕ → Type 0) (L : List ℕ → List A → Type 0) (B : List ℕ → List ℕ → Type 0) (byte : ℕ) (p : List ℕ → Res A) → AreDeepRows K D L B →
    ((ts : List ℕ) → Deep K D ts (p ts)) → (ts : List ℕ) → Deep L B ts (several byte p ts)
unfolding several
deep_several K D L B byte p rows law ts = deep_at_most K D L B byte p rows law (length ts) ts

-- ---- nodes

-- behind a blank something is too deep in a node
record PremiseDeep (count room : ℕ) (front rest : List ℕ) : Type 0 where
  ahead : List ℕ
  text : front ≡ codes " " ++ ahead
  breaks : BreaksNode TooDeep count room ahead rest

-- behind nodes something is too deep in the next
abbrev PremisesDeep : ℕ → ℕ → List ℕ → List ℕ → Type 0
PremisesDeep count room front rest = (b : PremisesBreak count room front rest) × (b.kind ≡ TooDeep)

deep_premise : (count room : ℕ) (p : List ℕ → Res Node) → ((ts : List ℕ) → Deep (ReadsNode count room) (BreaksNode TooDeep count room) ts (p ts)) → (ts : List ℕ) →
    Deep (ReadsPremise count room) (PremiseDeep count room) ts (premise_with p ts)
deep_premise count room p law ts =
    deep_seq (Bytes (codes " ")) Never (ReadsPremise count room) (PremiseDeep count room) ts (expect (codes " ") ts) (λ u r. p r) (λ front rest never. absurd never) (deep_bytes (codes " ") ts)
    (λ u xs e r. record { at = inner xs e r (p r) (law r).at })
  where
    inner : (xs : List ℕ) → Bytes (codes " ") xs tt → (r : List ℕ) (x : Res Node) → DeepAt (ReadsNode count room) (BreaksNode TooDeep count room) r x →
        DeepAt (λ ys d. ReadsPremise count room (xs ++ ys) d) (λ ys zs. PremiseDeep count room (xs ++ ys) zs) r x
    inner xs e r (Ok y) s = (s.0, s.1, ((λ i. e i ++ s.2.0 i), s.2.1, s.2.2))
    inner xs e r (Err d) s = λ deep. let t = s deep in (t.0, t.1, record { ahead = t.0; text = λ i. e i ++ t.0; breaks = t.2 })

premise_deep_rows : (count room : ℕ) → AreDeepRows (ReadsPremise count room) (PremiseDeep count room) (PremisesText count room) (PremisesDeep count room)
premise_deep_rows count room = record {
  none = record { text = refl; numbered = tt; high = omega arith };
  more = λ xs ys d ds l m. more_premises count room xs ys d ds l m;
  first = λ front rest b. (record { kind = TooDeep; before = []; numbered = tt; high = omega arith; ahead = b.ahead; text = b.text; breaks = b.breaks }, refl);
  later = λ xs front rest d l b. (later_premise count room xs front rest d l b.0, b.1);
}

premises_deep : (count room : ℕ) (x1 x2 x3 front rest : List ℕ) (w : _) (n : ℕ) → Bytes (codes "(") x1 tt → Spells word_front x2 w → PremisesDeep count room front rest → IsNumber count x3 n →
    BreaksNode TooDeep count (suc room) (x1 ++ (x2 ++ (x3 ++ front))) rest
premises_deep count room x1 x2 x3 front rest w n e1 e2 b e3 =
    let k = premises_break count room x1 x2 x3 front rest w n e1 e2 b.0 e3 in
    subst (λ kind. BreaksNode kind count (suc room) (x1 ++ (x2 ++ (x3 ++ front))) rest) b.1 k.1

pub deep_node : (count : ℕ) → count ≤ 2 ^ 64 → (room : ℕ) (ts : List ℕ) → Deep (ReadsNode count room) (BreaksNode TooDeep count room) ts (node_at count room ts)
unfolding node_at
deep_node count small zero ts =
    deep_if (ReadsNode count 0) (BreaksNode TooDeep count 0) ts (begins 40 ts) (Err (TooDeep, ts)) (Err (Form, ts)) (λ h. record { at = λ deep. ([], refl, (refl, refl, h)) }) (λ h. record { at = λ deep. absurd (form_not deep) })
deep_node count small (suc room) ts =
    deep_seq (Bytes (codes "(")) Never (ReadsNode count (suc room)) (BreaksNode TooDeep count (suc room)) ts (expect (codes "(") ts) _ (λ front rest never. absurd never) (deep_bytes (codes "(") ts) λ u x1 e1 r.
    deep_seq (Spells word_front) Never _ _ r (word_at_front r) _ (λ front rest never. absurd never) (deep_plain (Spells word_front) r (word_at_front r) (sound_word r) (form_word r)) λ w x2 e2 r.
    deep_seq (IsNumber count) Never _ _ r (number_at count r) _ (λ front rest never. absurd never) (deep_number count small r) λ n x3 e3 r.
    deep_seq (PremisesText count room) (PremisesDeep count room) _ _ r (several 32 (premise_with (node_at count room)) r) _
    (λ front rest b. premises_deep count room x1 x2 x3 front rest w n e1 e2 b e3)
    (deep_several (ReadsPremise count room) (PremiseDeep count room) (PremisesText count room) (PremisesDeep count room) 32 (premise_with (node_at count room)) (premise_deep_rows count room)
    (λ z. deep_premise count room (node_at count room) (λ y. deep_node count small room y) z) r) λ ds x4 e4 r.
    deep_seq (Bytes (codes ")")) Never _ _ r (expect (codes ")") r) _ (λ front rest never. absurd never) (deep_bytes (codes ")") r) λ u x5 e5 r.
    deep_done _ _ (node w n (nodes_from ds)) r (node_whole count room x1 x2 x3 x4 x5 w n ds e1 e2 e3 e4 e5)

-- ---- method lines and whole texts

deep_line : (count : ℕ) → count ≤ 2 ^ 64 → (ts : List ℕ) → Deep (ReadsLine count) (BreaksLine TooDeep count) ts (line_at count ts)
unfolding line_at
deep_line count small ts =
    deep_seq (Bytes (codes "method ")) Never (ReadsLine count) (BreaksLine TooDeep count) ts (expect (codes "method ") ts) _ (λ front rest never. absurd never) (deep_bytes (codes "method ") ts) λ u x1 e1 r.
    deep_seq (IsNumber (2 ^ 32)) Never _ _ r (number_at (2 ^ 32) r) _ (λ front rest never. absurd never) (deep_number (2 ^ 32) (omega arith) r) λ m x2 e2 r.
    deep_seq (Bytes (codes " ")) Never _ _ r (expect (codes " ") r) _ (λ front rest never. absurd never) (deep_bytes (codes " ") r) λ u x3 e3 r.
    deep_seq (IsNumber count) Never _ _ r (number_at count r) _ (λ front rest never. absurd never) (deep_number count small r) λ n x4 e4 r.
    deep_seq (Bytes (newline ∷ [])) Never _ _ r (expect (newline ∷ []) r) _ (λ front rest never. absurd never) (deep_bytes (newline ∷ []) r) λ u x5 e5 r.
    deep_seq (ReadsNode count most_nesting) (BreaksNode TooDeep count most_nesting) _ _ r (node_at count most_nesting r) _
    (λ front rest b. in_body m n front e2.1 e4.1 (λ i. e1 i ++ (e2.0 i ++ (e3 i ++ (e4.0 i ++ (e5 i ++ front))))) b) (deep_node count small most_nesting r) λ d x6 e6 r.
    deep_seq (Bytes (newline ∷ [])) Never _ _ r (expect (newline ∷ []) r) _ (λ front rest never. absurd never) (deep_bytes (newline ∷ []) r) λ u x7 e7 r.
    deep_done _ _ (record { id = m; number = n; body = d }) r
    (line_text x1 x2 x3 x4 x5 x6 x7 (record { id = m; number = n; body = d }) e1 e2.0 e3 e4.0 e5 e6.0 e7, record { id = e2.1; number = e4.1; numbered = e6.1; high = e6.2 })

-- behind lines something is too deep in the next
abbrev LinesDeep : ℕ → List ℕ → List ℕ → Type 0
LinesDeep count front rest = (b : LinesBreak count front rest) × (b.kind ≡ TooDeep)

line_deep_rows : (count : ℕ) → AreDeepRows (ReadsLine count) (BreaksLine TooDeep count) (LinesText (IsMethodLine count)) (LinesDeep count)
line_deep_rows count = record {
  none = record { text = refl; each = tt };
  more = λ xs ys l ls is m. more_lines (IsMethodLine count) xs ys l ls is.0 is.1 m;
  first = λ front rest b. (record { kind = TooDeep; before = []; each = tt; ahead = front; text = refl; breaks = b }, refl);
  later = λ xs front rest l is b. (later_line count xs front rest l is b.0, b.1);
}

deep_lines : (count : ℕ) → count ≤ 2 ^ 64 → (ts : List ℕ) → Deep (EndedText (IsMethodLine count)) (LinesDeep count) ts (lines_at count ts)
unfolding lines_at
deep_lines count small ts =
    deep_seq (LinesText (IsMethodLine count)) (LinesDeep count) (EndedText (IsMethodLine count)) (LinesDeep count) ts (several 109 (line_at count) ts) _ (λ front rest b. b)
    (deep_several (ReadsLine count) (BreaksLine TooDeep count) (LinesText (IsMethodLine count)) (LinesDeep count) 109 (line_at count) (line_deep_rows count) (λ z. deep_line count small z) ts) λ ls x1 e1 r.
    deep_seq (Bytes (codes "end" ++ (newline ∷ []))) Never _ _ r (expect (codes "end" ++ (newline ∷ [])) r) _ (λ front rest never. absurd never) (deep_bytes (codes "end" ++ (newline ∷ [])) r) λ u x2 e2 r.
    deep_seq (Bytes []) Never _ _ r (nothing_behind r) _ (λ front rest never. absurd never) (deep_nothing r) λ u x3 e3 r.
    deep_done _ _ ls r (ended (IsMethodLine count) x1 x2 x3 ls e1 e2 e3)
  where
    deep_nothing : (ts : List ℕ) → Deep (Bytes []) Never ts (nothing_behind ts)
    deep_nothing [] = record { at = ([], refl, refl) }
    deep_nothing (b ∷ ts) = record { at = λ deep. absurd (form_not deep) }

deep_count : (ts : List ℕ) → Deep CountText Never ts (count_at ts)
unfolding count_at
deep_count ts =
    deep_seq (Bytes (codes "book ")) Never CountText Never ts (expect (codes "book ") ts) _ (λ front rest never. absurd never) (deep_bytes (codes "book ") ts) λ u x1 e1 r.
    deep_seq (IsNumber (2 ^ 32)) Never _ _ r (number_at (2 ^ 32) r) _ (λ front rest never. absurd never) (deep_number (2 ^ 32) (omega arith) r) λ n x2 e2 r.
    deep_seq (Bytes (newline ∷ [])) Never _ _ r (expect (newline ∷ []) r) _ (λ front rest never. absurd never) (deep_bytes (newline ∷ []) r) λ u x3 e3 r.
    deep_done _ _ n r ((λ i. e1 i ++ (e2.0 i ++ (append-nil x3 ∙ e3) i)), e2.1)

deep_in_table : (n : ℕ) (x1 front rest : List ℕ) → CountText x1 n → TableDeep n front rest → BreaksBook TooDeep (x1 ++ front) rest
deep_in_table n x1 front rest c b = let k = tree_breaks n x1 front rest c b.0 in subst (λ kind. BreaksBook kind (x1 ++ front) rest) b.1 k.1

deep_in_lines : (n : ℕ) (x1 x2 front rest : List ℕ) (trees : List Cond) → CountText x1 n → LinesDeep n front rest → TableText IsTree n x2 trees → BreaksBook TooDeep (x1 ++ (x2 ++ front)) rest
deep_in_lines n x1 x2 front rest trees c b t = let k = line_breaks n x1 x2 front rest trees c b.0 t in subst (λ kind. BreaksBook kind (x1 ++ (x2 ++ front)) rest) b.1 k.1

pub deep_book : (ts : List ℕ) → Deep Anything (BreaksBook TooDeep) ts (book_at ts)
unfolding book_at
deep_book ts =
    deep_seq CountText Never Anything (BreaksBook TooDeep) ts (count_at ts) _ (λ front rest never. absurd never) (deep_count ts) λ n x1 c r.
    deep_seq (TableText IsTree n) (TableDeep n) _ _ r (exactly n table_line r) _ (λ front rest b. deep_in_table n x1 front rest c b) (deep_table n r) λ trees x2 t r.
    deep_seq (EndedText (IsMethodLine n)) (LinesDeep n) _ _ r (lines_at n r) _ (λ front rest b. deep_in_lines n x1 x2 front rest trees c b t) (deep_lines n (omega (arith, c.1)) r) λ ls x3 l r.
    deep_done _ _ (record { table = trees; lines = ls }) r tt
