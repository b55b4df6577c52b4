-- Before the first fault of a text stands the front of some book's text.
use Rattle.std.proofs.Common.{◌≡◌, ℕ, zero, suc, ◌==◌, ◌-◌, ◌||◌, ◌<◌, ◌≤◌, ◌^◌, Bool, true, false, not, List, [], ◌∷◌, ◌++◌, length, drop, take, nat_le, nat_lt, codes, decimal, Some, None, if◌then◌else◌, Ok, Err, refl, sym, ◌∙◌, ap, subst, arith, append_assoc, append-nil}
use Rattle.std.proofs.lemmas.Bool.Decides.{nat_tests}
use Rattle.std.proofs.lemmas.Option.{same_Some}
use Rattle.std.specs.Str.Parse.{digits_value}
use Rattle.paths.specs.Paths.{PathData}
use Rattle.algebra.specs.declared.basic.Basic.TheVariants.{Const}
use Rattle.algebra.specs.Basics.{name_of}
use Rattle.conditions.specs.Conditions.{Cond, LeafC}
use Rattle.conditions.specs.Texts.{dotted, path_text, text_of}
use Rattle.books.specs.declared.stop.Kind.{Kind}
use Rattle.books.specs.declared.stop.Kind.TheVariants.{Form, TooDeep}
use Rattle.books.specs.declared.stop.BookFault.{BookFault}
use Rattle.books.specs.declared.stop.BookFault.TheVariants as faults
use Rattle.books.specs.declared.word.Word.TheVariants.{Lit}
use Rattle.books.specs.Derivations.{Node, node, no_nodes, nodes_from, word_text, words}
use Rattle.books.specs.Books.{Line, Book, is_canonical, most_nesting}
use Rattle.books.specs.Texts.{newline, node_text, nodes_text, method_line_text, method_lines_text, table_text, book_text}
use Rattle.books.specs.Combine.{Res, ◌>>=◌, begins, expect, further, one_of, at_most, several, exactly}
use Rattle.books.specs.Faults.{fault_at, fault_of, first_book_fault}
use Rattle.books.specs.Reading.{number_at, number_digits, is_at_end, fields_at, path_at, leaf_at, basics, test_with, tree_at, canonical_at, table_line, word_at_front, premise_with, node_at, line_at, lines_at, nothing_behind, count_at, book_at}
use Rattle.books.proofs.Sound.{SoundAt, Bytes, Spells, Row, row_end, row_more, RowOf, IsNumber, sound_number}
use Rattle.books.proofs.SoundTrees.{test_text, point}
use Rattle.books.proofs.PassLemmas.{front_taken}
use Rattle.books.specs.Fronts.{HasFewFields, HaveFewFields, IsFrontOfBook}

-- what was read has a front of the text that L relates to it; before a fault stands the front of a text that L relates to something
abbrev pub FrontAt : {A : Type 0} → (List ℕ → A → Type 0) → List ℕ → Res A → Type 0
FrontAt {A} L ts (Ok y) = (front : List ℕ) × (ts ≡ front ++ y.1) × L front y.0
FrontAt {A} L ts (Err e) = (front : List ℕ) × (ts ≡ front ++ e.1) × (more : List ℕ) × (a : A) × L (front ++ more) a

-- so there is some text that L relates to something
some : {A : Type 0} (L : List ℕ → A → Type 0) (ts : List ℕ) (r : Res A) → FrontAt L ts r → (front : List ℕ) × (a : A) × L front a
some L ts (Ok y) s = (s.0, y.0, s.2)
some L ts (Err e) s = (s.0 ++ s.2, s.3, s.4)

behind : {A : Type 0} (L M : List ℕ → A → Type 0) (w ts r : List ℕ) → ts ≡ w ++ r → ((ys : List ℕ) (b : A) → M ys b → L (w ++ ys) b) → (s : Res A) → FrontAt M r s → FrontAt L ts s
behind L M w ts r is goes (Ok y) s = (w ++ s.0, is ∙ ap (λ z. w ++ z) s.1 ∙ sym (append_assoc w s.0 y.1), goes s.0 y.0 s.2)
behind L M w ts r is goes (Err e) s =
    (w ++ s.0, is ∙ ap (λ z. w ++ z) s.1 ∙ sym (append_assoc w s.0 e.1), s.2, s.3, subst (λ z. L z s.3) (sym (append_assoc w s.0 s.2)) (goes (s.0 ++ s.2) s.3 s.4))

-- one part, and then another, of which is asked what is missing
front_known : {A B : Type 0} (Le : List ℕ → A → Type 0) (L : List ℕ → B → Type 0) (ts : List ℕ) (p : Res A) (f : A → List ℕ → Res B) → FrontAt Le ts p →
    ((a : A) (known : List ℕ) → Le known a → (r : List ℕ) → FrontAt (λ ys b. (xs : List ℕ) → Le xs a → L (xs ++ ys) b) r (f a r)) → FrontAt L ts (p >>= f)
front_known Le L ts (Ok y) f s rest =
    behind L (λ ys b. (xs : List ℕ) → Le xs y.0 → L (xs ++ ys) b) s.0 ts y.1 s.1 (λ ys b m. m s.0 s.2) (f y.0 y.1) (rest y.0 s.0 s.2 y.1)
front_known Le L ts (Err e) f s rest =
    let next = some (λ ys b. (xs : List ℕ) → Le xs s.3 → L (xs ++ ys) b) [] (f s.3 []) (rest s.3 (s.0 ++ s.2) s.4 []) in
    (s.0, s.1, s.2 ++ next.0, next.1, subst (λ z. L z next.1) (append_assoc s.0 s.2 next.0) (next.2 (s.0 ++ s.2) s.4))

front_seq : {A B : Type 0} (Le : List ℕ → A → Type 0) (L : List ℕ → B → Type 0) (ts : List ℕ) (p : Res A) (f : A → List ℕ → Res B) → FrontAt Le ts p →
    ((a : A) (r : List ℕ) → FrontAt (λ ys b. (xs : List ℕ) → Le xs a → L (xs ++ ys) b) r (f a r)) → FrontAt L ts (p >>= f)
front_seq Le L ts p f s rest = front_known Le L ts p f s (λ a known l r. rest a r)

front_done : {A : Type 0} (L : List ℕ → A → Type 0) (a : A) (ts : List ℕ) → L [] a → FrontAt L ts (Ok (a, ts))
front_done L a ts l = ([], refl, l)

front_if : {A : Type 0} (L : List ℕ → A → Type 0) (ts : List ℕ) (b : Bool) (p q : Res A) → (b ≡ true → FrontAt L ts p) → (b ≡ false → FrontAt L ts q) → FrontAt L ts (if b then p else q)
front_if L ts true p q h k = h refl
front_if L ts false p q h k = k refl

front_weaker : {A : Type 0} (L M : List ℕ → A → Type 0) (ts : List ℕ) → ((front : List ℕ) (a : A) → L front a → M front a) → (r : Res A) → FrontAt L ts r → FrontAt M ts r
front_weaker L M ts h (Ok y) s = (s.0, s.1, h s.0 y.0 s.2)
front_weaker L M ts h (Err e) s = (s.0, s.1, s.2, s.3, h (s.0 ++ s.2) s.3 s.4)

expect_step : (w b : ℕ) (ws ts : List ℕ) (same : Bool) → (b == w) ≡ same → FrontAt (Bytes ws) ts (expect ws ts) →
    FrontAt (Bytes (w ∷ ws)) (b ∷ ts) (if same then expect ws ts else Err (Form, b ∷ ts))
expect_step w b ws ts true e s =
    let is : b ≡ w = grind (arith, nat_tests) in
    behind (Bytes (w ∷ ws)) (Bytes ws) (w ∷ []) (b ∷ ts) ts (ap (λ z. z ∷ ts) is) (λ ys u m. ap (λ z. w ∷ z) m) (expect ws ts) s
expect_step w b ws ts false e s = ([], refl, w ∷ ws, tt, refl)

front_expect : (ws ts : List ℕ) → FrontAt (Bytes ws) ts (expect ws ts)
front_expect [] ts = ([], refl, refl)
front_expect (w ∷ ws) [] = ([], refl, w ∷ ws, tt, refl)
front_expect (w ∷ ws) (b ∷ ts) = expect_step w b ws ts (b == w) refl (front_expect ws ts)

front_further : {A : Type 0} (L : List ℕ → A → Type 0) (ts : List ℕ) (p q : Res A) → FrontAt L ts p → FrontAt L ts q → FrontAt L ts (further p q)
front_further L ts (Ok x) q s t = s
front_further L ts (Err e) (Ok y) s t = t
front_further L ts (Err e) (Err d) s t = front_if L ts (nat_le (length e.1) (length d.1)) (Err e) (Err d) (λ h. s) (λ h. t)

front_one_of : {A : Type 0} (spell : A → List ℕ) (other : A) (xs : List A) (ts : List ℕ) → FrontAt (Spells spell) ts (one_of spell xs ts)
front_one_of spell other [] ts = ([], refl, spell other, other, refl)
front_one_of spell other (x ∷ xs) ts =
    front_further (Spells spell) ts (expect (spell x) ts >>= λ u ts. Ok (x, ts)) (one_of spell xs ts)
    (front_seq (Bytes (spell x)) (Spells spell) ts (expect (spell x) ts) (λ u ts. Ok (x, ts)) (front_expect (spell x) ts)
    (λ u r. front_done (λ ys b. (zs : List ℕ) → Bytes (spell x) zs u → Spells spell (zs ++ ys) b) x r (λ zs e. append-nil zs ∙ e)))
    (front_one_of spell other xs ts)

front_at_most : {A : Type 0} (L : List ℕ → A → Type 0) (byte : ℕ) (item : List ℕ → Res A) → ((ts : List ℕ) → FrontAt L ts (item ts)) →
    (n : ℕ) (ts : List ℕ) → FrontAt (Row L) ts (at_most n byte item ts)
front_at_most L byte item law zero ts = ([], refl, row_end)
front_at_most L byte item law (suc n) ts =
    front_if (Row L) ts (begins byte ts) (item ts >>= λ x ts. at_most n byte item ts >>= λ xs ts. Ok (x ∷ xs, ts)) (Ok ([], ts))
    (λ h. front_seq L (Row L) ts (item ts) (λ x ts. at_most n byte item ts >>= λ xs ts. Ok (x ∷ xs, ts)) (law ts)
    (λ x r. front_seq (Row L) (λ ys b. (zs : List ℕ) → L zs x → Row L (zs ++ ys) b) r (at_most n byte item r) (λ xs ts. Ok (x ∷ xs, ts)) (front_at_most L byte item law n r)
    (λ xs r. front_done (λ ys b. (us : List ℕ) → Row L us xs → (zs : List ℕ) → L zs x → Row L (zs ++ (us ++ ys)) b) (x ∷ xs) r
    (λ us m zs l. subst (λ z. Row L (zs ++ z) (x ∷ xs)) (sym (append-nil us)) (row_more zs us x xs l m)))))
    (λ h. ([], refl, row_end))

front_several : {A : Type 0} (L : List ℕ → A → Type 0) (byte : ℕ) (item : List ℕ → Res A) → ((ts : List ℕ) → FrontAt L ts (item ts)) →
    (ts : List ℕ) → FrontAt (Row L) ts (several byte item ts)
unfolding several
front_several L byte item law ts = front_at_most L byte item law (length ts) ts

front_exactly : {A : Type 0} (L : List ℕ → A → Type 0) (item : List ℕ → Res A) → ((ts : List ℕ) → FrontAt L ts (item ts)) →
    (n : ℕ) (ts : List ℕ) → FrontAt (RowOf L n) ts (exactly n item ts)
front_exactly L item law zero ts = ([], refl, (row_end, refl))
front_exactly L item law (suc n) ts =
    front_seq L (RowOf L (suc n)) ts (item ts) (λ x ts. exactly n item ts >>= λ xs ts. Ok (x ∷ xs, ts)) (law ts)
    (λ x r. front_seq (RowOf L n) (λ ys b. (zs : List ℕ) → L zs x → RowOf L (suc n) (zs ++ ys) b) r (exactly n item r) (λ xs ts. Ok (x ∷ xs, ts)) (front_exactly L item law n r)
    (λ xs r. front_done (λ ys b. (us : List ℕ) → RowOf L n us xs → (zs : List ℕ) → L zs x → RowOf L (suc n) (zs ++ (us ++ ys)) b) (x ∷ xs) r
    (λ us m zs l. (subst (λ z. Row L (zs ++ z) (x ∷ xs)) (sym (append-nil us)) (row_more zs us x xs l m.0), omega (arith, m.1)))))

-- numbers
abbrev Numeral : List ℕ → ℕ → Type 0
Numeral front n = front ≡ decimal n

number_if : (end : ℕ) (ts : List ℕ) (bad : Bool) (n : ℕ) (r : List ℕ) → (let p : Res ℕ = if bad then Err (Form, ts) else Ok (n, r) in SoundAt (IsNumber end) ts p → FrontAt Numeral ts p)
number_if end ts true n r s = ([], refl, decimal 0, 0, refl)
number_if end ts false n r s = (s.0, s.1, s.2.0)

front_number : (end : ℕ) → end ≤ 2 ^ 64 → (ts : List ℕ) → FrontAt Numeral ts (number_at end ts)
unfolding number_at
front_number end small ts =
    number_if end ts (is_at_end (number_digits ts) || not (nat_lt (digits_value 10 (number_digits ts)) end)) (digits_value 10 (number_digits ts)) (drop (length (number_digits ts)) ts) (sound_number end small ts)

small_if : (end : ℕ) (ts : List ℕ) (bad : Bool) (n : ℕ) (r : List ℕ) → 0 < end → (let p : Res ℕ = if bad then Err (Form, ts) else Ok (n, r) in SoundAt (IsNumber end) ts p → FrontAt (IsNumber end) ts p)
small_if end ts true n r positive s = ([], refl, decimal 0, 0, (refl, positive))
small_if end ts false n r positive s = s

front_small : (end : ℕ) → 0 < end → end ≤ 2 ^ 64 → (ts : List ℕ) → FrontAt (IsNumber end) ts (number_at end ts)
unfolding number_at
front_small end positive small ts =
    small_if end ts (is_at_end (number_digits ts) || not (nat_lt (digits_value 10 (number_digits ts)) end)) (digits_value 10 (number_digits ts)) (drop (length (number_digits ts)) ts) positive (sound_number end small ts)

-- paths
record FieldsText (most : ℕ) (front : List ℕ) (fields : List ℕ) : Type 0 where
  spelled : front ≡ dotted fields
  few : length fields ≤ most

more_fields : (most : ℕ) (xs ys : List ℕ) (f : ℕ) (fs : List ℕ) → Numeral xs f → FieldsText most ys fs → FieldsText (suc most) (46 ∷ (xs ++ ys)) (f ∷ fs)
more_fields most xs ys f fs n more = record { spelled = (λ i. 46 ∷ (n i ++ more.spelled i)) ∙ refl; few = omega (arith, more.few) }

front_fields : (most : ℕ) (ts : List ℕ) → FrontAt (FieldsText most) ts (fields_at most ts)
front_fields zero ts = ([], refl, record { spelled = refl; few = omega arith })
front_fields (suc most) ts =
    front_if (FieldsText (suc most)) ts (begins 46 ts) (number_at (2 ^ 32) (drop 1 ts) >>= λ f ts. fields_at most ts >>= λ fs ts. Ok (f ∷ fs, ts)) (Ok ([], ts))
    (λ h. behind (FieldsText (suc most)) (λ ys fs. FieldsText (suc most) (46 ∷ ys) fs) (46 ∷ []) ts (drop 1 ts) (point ts h) (λ ys b m. m) (number_at (2 ^ 32) (drop 1 ts) >>= λ f ts. fields_at most ts >>= λ fs ts. Ok (f ∷ fs, ts))
    (front_seq Numeral (λ ys fs. FieldsText (suc most) (46 ∷ ys) fs) (drop 1 ts) (number_at (2 ^ 32) (drop 1 ts)) (λ f ts. fields_at most ts >>= λ fs ts. Ok (f ∷ fs, ts)) (front_number (2 ^ 32) (omega arith) (drop 1 ts))
    (λ f r. front_seq (FieldsText most) (λ ys b. (xs : List ℕ) → Numeral xs f → FieldsText (suc most) (46 ∷ (xs ++ ys)) b) r (fields_at most r) (λ fs ts. Ok (f ∷ fs, ts)) (front_fields most r)
    (λ fs r. front_done (λ zs b. (ys : List ℕ) → FieldsText most ys fs → (xs : List ℕ) → Numeral xs f → FieldsText (suc most) (46 ∷ (xs ++ (ys ++ zs))) b) (f ∷ fs) r
    (λ ys m xs n. subst (λ z. FieldsText (suc most) (46 ∷ (xs ++ z)) (f ∷ fs)) (sym (append-nil ys)) (more_fields most xs ys f fs n m))))))
    (λ h. ([], refl, record { spelled = refl; few = omega arith }))

abbrev PathText : List ℕ → PathData → Type 0
PathText front p = (front ≡ path_text p) × (length p.fields ≤ 2)

front_path : (ts : List ℕ) → FrontAt PathText ts (path_at ts)
unfolding path_at
front_path ts =
    front_seq Numeral PathText ts (number_at (2 ^ 16) ts) (λ root ts. fields_at 2 ts >>= λ fields ts. Ok (record { root = root; fields = fields }, ts)) (front_number (2 ^ 16) (omega arith) ts)
    (λ root r. front_seq (FieldsText 2) (λ ys b. (xs : List ℕ) → Numeral xs root → PathText (xs ++ ys) b) r (fields_at 2 r) (λ fields ts. Ok (record { root = root; fields = fields }, ts)) (front_fields 2 r)
    (λ fields r. front_done (λ zs b. (ys : List ℕ) → FieldsText 2 ys fields → (xs : List ℕ) → Numeral xs root → PathText (xs ++ (ys ++ zs)) b) (record { root = root; fields = fields }) r
    (λ ys m xs n. ((λ i. n i ++ (append-nil ys ∙ m.spelled) i), m.few))))

-- trees
abbrev TreeText : List ℕ → Cond → Type 0
TreeText front t = (front ≡ text_of t) × HasFewFields t

front_leaf : (ts : List ℕ) → FrontAt (Spells name_of) ts (leaf_at ts)
unfolding leaf_at
front_leaf ts = front_one_of name_of Const basics ts

leaf_tree : (ts : List ℕ) → FrontAt TreeText ts (leaf_at ts >>= λ b ts. Ok (LeafC b, ts))
leaf_tree ts =
    front_seq (Spells name_of) TreeText ts (leaf_at ts) (λ b ts. Ok (LeafC b, ts)) (front_leaf ts)
    (λ b r. front_done (λ ys t. (xs : List ℕ) → Spells name_of xs b → TreeText (xs ++ ys) t) (LeafC b) r (λ xs e. (append-nil xs ∙ e, tt)))

front_test : (inner : List ℕ → Res Cond) → ((ts : List ℕ) → FrontAt TreeText ts (inner ts)) → (ts : List ℕ) → FrontAt TreeText ts (test_with inner ts)
front_test inner law ts =
    front_seq (Bytes (codes "(")) _ ts (expect (codes "(") ts) _ (front_expect (codes "(") ts) λ u r.
    front_seq PathText _ r (path_at r) _ (front_path r) λ p r.
    front_seq (Bytes (codes " ")) _ r (expect (codes " ") r) _ (front_expect (codes " ") r) λ u r.
    front_seq TreeText _ r (inner r) _ (law r) λ a r.
    front_seq (Bytes (codes " ")) _ r (expect (codes " ") r) _ (front_expect (codes " ") r) λ u r.
    front_seq TreeText _ r (inner r) _ (law r) λ b r.
    front_seq (Bytes (codes ")")) _ r (expect (codes ")") r) _ (front_expect (codes ")") r) λ u r. (
      [],
      refl,
      λ x7 e7 x6 e6 x5 e5 x4 e4 x3 e3 x2 e2 x1 e1. (
        (λ i. e1 i ++ (e2.0 i ++ (e3 i ++ (e4.0 i ++ (e5 i ++ (e6.0 i ++ (append-nil x7 ∙ e7) i)))))) ∙ sym (test_text p a b),
        (e2.1, e4.1, e6.1),
      ),
    )

front_tree : (room : ℕ) (ts : List ℕ) → FrontAt TreeText ts (tree_at room ts)
unfolding tree_at
front_tree zero ts =
    front_if TreeText ts (begins 40 ts) (Err (TooDeep, ts)) (leaf_at ts >>= λ b ts. Ok (LeafC b, ts)) (λ h. ([], refl, name_of Const, LeafC Const, (refl, tt))) (λ h. leaf_tree ts)
front_tree (suc room) ts =
    front_if TreeText ts (begins 40 ts) (test_with (tree_at room) ts) (leaf_at ts >>= λ b ts. Ok (LeafC b, ts))
    (λ h. front_test (tree_at room) (λ r. front_tree room r) ts) (λ h. leaf_tree ts)

canonical_step : (ts : List ℕ) (r : Res Cond) → FrontAt TreeText ts r → FrontAt TreeText ts (r >>= λ t rest. if is_canonical t then Ok (t, rest) else Err (Form, ts))
canonical_step ts (Ok y) s =
    front_if TreeText ts (is_canonical y.0) (Ok (y.0, y.1)) (Err (Form, ts)) (λ h. s) (λ h. ([], refl, name_of Const, LeafC Const, (refl, tt)))
canonical_step ts (Err e) s = s

front_canonical : (ts : List ℕ) → FrontAt TreeText ts (canonical_at ts)
unfolding canonical_at
front_canonical ts = canonical_step ts (tree_at most_nesting ts) (front_tree most_nesting ts)

abbrev TableText : List ℕ → Cond → Type 0
TableText front t = (front ≡ text_of t ++ (newline ∷ [])) × HasFewFields t

front_table_line : (ts : List ℕ) → FrontAt TableText ts (table_line ts)
front_table_line ts =
    front_seq TreeText _ ts (canonical_at ts) _ (front_canonical ts) λ t r.
    front_seq (Bytes (newline ∷ [])) _ r (expect (newline ∷ []) r) _ (front_expect (newline ∷ []) r) λ u r. (
      [],
      refl,
      λ x2 e2 x1 e1. ((λ i. e1.0 i ++ (append-nil x2 ∙ e2) i), e1.1),
    )

row_trees : (front : List ℕ) (ts : List Cond) → Row TableText front ts → (front ≡ table_text ts) × HaveFewFields ts
row_trees _ _ row_end = (refl, tt)
row_trees _ _ (row_more front fronts t ts l rest) =
    let more = row_trees fronts ts rest in
    ((λ i. l.0 i ++ more.0 i), (l.1, more.1))

-- derivations
abbrev NodeText : List ℕ → Node → Type 0
NodeText front d = front ≡ node_text d

abbrev PremiseText : List ℕ → Node → Type 0
PremiseText front d = front ≡ codes " " ++ node_text d

row_nodes : (front : List ℕ) (ds : List Node) → Row PremiseText front ds → front ≡ nodes_text (nodes_from ds)
row_nodes _ _ row_end = refl
row_nodes _ _ (row_more front fronts d ds l rest) = let more = row_nodes fronts ds rest in λ i. l i ++ more i

front_word : (ts : List ℕ) → FrontAt (Spells (λ w. word_text w ++ codes " ")) ts (word_at_front ts)
unfolding word_at_front
front_word ts = front_one_of (λ w. word_text w ++ codes " ") Lit words ts

front_premise : (inner : List ℕ → Res Node) → ((ts : List ℕ) → FrontAt NodeText ts (inner ts)) → (ts : List ℕ) → FrontAt PremiseText ts (premise_with inner ts)
front_premise inner law ts =
    front_seq (Bytes (codes " ")) _ ts (expect (codes " ") ts) _ (front_expect (codes " ") ts) λ u r.
    front_weaker NodeText _ r (λ front d l xs e. λ i. e i ++ l i) (inner r) (law r)

some_node : Node
some_node = node Lit 0 no_nodes

front_node : (count : ℕ) → count ≤ 2 ^ 64 → (room : ℕ) (ts : List ℕ) → FrontAt NodeText ts (node_at count room ts)
unfolding node_at
front_node count small zero ts =
    front_if NodeText ts (begins 40 ts) (Err (TooDeep, ts)) (Err (Form, ts)) (λ h. ([], refl, node_text some_node, some_node, refl)) (λ h. ([], refl, node_text some_node, some_node, refl))
front_node count small (suc room) ts =
    front_seq (Bytes (codes "(")) _ ts (expect (codes "(") ts) _ (front_expect (codes "(") ts) λ u r.
    front_seq (Spells (λ w. word_text w ++ codes " ")) _ r (word_at_front r) _ (front_word r) λ w r.
    front_seq Numeral _ r (number_at count r) _ (front_number count small r) λ n r.
    front_seq (Row PremiseText) _ r (several 32 (premise_with (node_at count room)) r) _
    (front_several PremiseText 32 (premise_with (node_at count room)) (front_premise (node_at count room) (λ z. front_node count small room z)) r) λ ds r.
    front_seq (Bytes (codes ")")) _ r (expect (codes ")") r) _ (front_expect (codes ")") r) λ u r. (
      [],
      refl,
      λ x5 e5 x4 e4 x3 e3 x2 e2 x1 e1. (let row = row_nodes x4 ds e4 in λ i. e1 i ++ (e2 i ++ (e3 i ++ (row i ++ (append-nil x5 ∙ e5) i)))),
    )

abbrev MethodText : List ℕ → Line → Type 0
MethodText front line = front ≡ method_line_text line

front_line : (count : ℕ) → count ≤ 2 ^ 64 → (ts : List ℕ) → FrontAt MethodText ts (line_at count ts)
unfolding line_at
front_line count small ts =
    front_seq (Bytes (codes "method ")) _ ts (expect (codes "method ") ts) _ (front_expect (codes "method ") ts) λ u r.
    front_seq Numeral _ r (number_at (2 ^ 32) r) _ (front_number (2 ^ 32) (omega arith) r) λ id r.
    front_seq (Bytes (codes " ")) _ r (expect (codes " ") r) _ (front_expect (codes " ") r) λ u r.
    front_seq Numeral _ r (number_at count r) _ (front_number count small r) λ n r.
    front_seq (Bytes (newline ∷ [])) _ r (expect (newline ∷ []) r) _ (front_expect (newline ∷ []) r) λ u r.
    front_seq NodeText _ r (node_at count most_nesting r) _ (front_node count small most_nesting r) λ d r.
    front_seq (Bytes (newline ∷ [])) _ r (expect (newline ∷ []) r) _ (front_expect (newline ∷ []) r) λ u r. (
      [],
      refl,
      λ x7 e7 x6 e6 x5 e5 x4 e4 x3 e3 x2 e2 x1 e1. λ i. e1 i ++ (e2 i ++ (e3 i ++ (e4 i ++ (e5 i ++ (e6 i ++ (append-nil x7 ∙ e7) i))))),
    )

row_lines : (front : List ℕ) (ls : List Line) → Row MethodText front ls → front ≡ method_lines_text ls
row_lines _ _ row_end = refl
row_lines _ _ (row_more front fronts line ls l rest) = let more = row_lines fronts ls rest in λ i. l i ++ more i

front_nothing : (ts : List ℕ) → FrontAt (Bytes []) ts (nothing_behind ts)
front_nothing [] = ([], refl, refl)
front_nothing (x ∷ ts) = ([], refl, [], tt, refl)

abbrev LinesText : List ℕ → List Line → Type 0
LinesText front ls = front ≡ method_lines_text ls ++ (codes "end" ++ (newline ∷ []))

front_lines : (count : ℕ) → count ≤ 2 ^ 64 → (ts : List ℕ) → FrontAt LinesText ts (lines_at count ts)
unfolding lines_at
front_lines count small ts =
    front_seq (Row MethodText) _ ts (several 109 (line_at count) ts) _ (front_several MethodText 109 (line_at count) (λ z. front_line count small z) ts) λ ls r.
    front_seq (Bytes (codes "end" ++ (newline ∷ []))) _ r (expect (codes "end" ++ (newline ∷ [])) r) _ (front_expect (codes "end" ++ (newline ∷ [])) r) λ u r.
    front_seq (Bytes []) _ r (nothing_behind r) _ (front_nothing r) λ u r. (
      [],
      refl,
      λ x3 e3 x2 e2 x1 row. (let are = row_lines x1 ls row in λ i. are i ++ (e2 i ++ (append-nil x3 ∙ e3) i)),
    )

abbrev CountText : List ℕ → ℕ → Type 0
CountText front n = (front ≡ codes "book " ++ (decimal n ++ (newline ∷ []))) × (n < 2 ^ 32)

front_count : (ts : List ℕ) → FrontAt CountText ts (count_at ts)
unfolding count_at
front_count ts =
    front_seq (Bytes (codes "book ")) _ ts (expect (codes "book ") ts) _ (front_expect (codes "book ") ts) λ u r.
    front_seq (IsNumber (2 ^ 32)) _ r (number_at (2 ^ 32) r) _ (front_small (2 ^ 32) (omega arith) (omega arith) r) λ n r.
    front_seq (Bytes (newline ∷ [])) _ r (expect (newline ∷ []) r) _ (front_expect (newline ∷ []) r) λ u r.
    ([], refl, λ x3 e3 x2 e2 x1 e1. ((λ i. e1 i ++ (e2.0 i ++ (append-nil x3 ∙ e3) i)), e2.1))

abbrev BookText : List ℕ → Book → Type 0
BookText front book = (front ≡ book_text book) × HaveFewFields book.table

front_book : (ts : List ℕ) → FrontAt BookText ts (book_at ts)
unfolding book_at
front_book ts =
    front_known CountText _ ts (count_at ts) _ (front_count ts) λ n known c r.
    front_seq (RowOf TableText n) _ r (exactly n table_line r) _ (front_exactly TableText table_line front_table_line n r) λ trees r.
    front_seq LinesText _ r (lines_at n r) _ (front_lines n (omega (arith, c.1)) r) λ lines r. (
      [],
      refl,
      λ x3 e3 x2 e2 x1 e1.
          (let row = row_trees x2 trees e2.0 in
          let head : x1 ≡ codes "book " ++ (decimal (length trees) ++ (newline ∷ [])) = e1.0 ∙ ap (λ z. codes "book " ++ (decimal z ++ (newline ∷ []))) (sym e2.1) in
          ((λ i. head i ++ (row.0 i ++ (append-nil x3 ∙ e3) i)), row.1)),
    )

-- the place of a fault
pub place_in : BookFault → ℕ
place_in (faults.Form place) = place
place_in (faults.TooDeep place) = place
place_in other = 0

pub place_in-is : (kind : Kind) (place : ℕ) → place_in (fault_at kind place) ≡ place
unfolding place_in
place_in-is Form place = refl
place_in-is TooDeep place = refl

before_by : (bytes : List ℕ) (r : Res Book) → FrontAt BookText bytes r → (kind : Kind) (place : ℕ) → fault_of (length bytes) r ≡ Some (fault_at kind place) → IsFrontOfBook (take place bytes)
before_by bytes (Ok y) s kind place e = absurd (let no : None ≡ Some (fault_at kind place) = e in cc)
before_by bytes (Err d) s kind place e =
    let at : length bytes - length d.1 ≡ place = sym (place_in-is d.0 (length bytes - length d.1)) ∙ ap place_in (same_Some (fault_at d.0 (length bytes - length d.1)) (fault_at kind place) e) ∙ place_in-is kind place in
    let taken : take place bytes ≡ s.0 = ap (λ n. take n bytes) (sym at) ∙ ap (λ z. take (length z - length d.1) z) s.1 ∙ front_taken s.0 d.1 in
    record { more = s.2; book = s.3; few = s.4.1; whole = ap (λ z. z ++ s.2) taken ∙ s.4.0 }

-- the bytes before the first fault
pub before : (bytes : List ℕ) (kind : Kind) (place : ℕ) → first_book_fault bytes ≡ Some (fault_at kind place) → IsFrontOfBook (take place bytes)
before bytes kind place e = before_by bytes (book_at bytes) (front_book bytes) kind place e
