-- Paths, trees, nodes and lines are read as they are written.
use Rattle.std.proofs.Common.{◌≡◌, ℕ, zero, suc, ◌≤◌, ◌^◌, true, false, List, [], ◌∷◌, ◌++◌, length, drop, nat_lt, codes, if◌then◌else◌, Ok, Err, refl, sym, ◌∙◌, ap, subst, arith, append_assoc, append-nil}
use Rattle.std.proofs.lemmas.Bool.{and_from, lt-ltb}
use Rattle.std.proofs.lemmas.Bool.Decides.{nat_tests}
use Rattle.std.specs.List.{list_all}
use Rattle.paths.specs.Paths.{PathData}
use Rattle.algebra.specs.Basics.{name_of}
use Rattle.conditions.specs.Conditions.{Cond, LeafC, TestC}
use Rattle.conditions.specs.Texts.{dotted, path_text, text_of}
use Rattle.books.specs.declared.stop.Kind.TheVariants.{Form, TooDeep}
use Rattle.books.specs.Derivations.{Node, Nodes, nodes_from, word_text, words}
use Rattle.books.specs.Books.{Line, IsMethodLine, IsPath, HasPaths, tests_high, IsTree, is_canonical, node_high, nodes_high, IsNumbered, AreNumbered, most_nesting}
use Rattle.books.specs.Texts.{newline, node_text, nodes_text, method_line_text}
use Rattle.books.specs.Combine.{Res, ◌>>=◌, begins, expect, several}
use Rattle.books.specs.Reading.{number_at, fields_at, path_at, leaf_at, basics, test_with, tree_at, canonical_at, table_line, word_at_front, premise_with, node_at, line_at}
use Rattle.books.proofs.Sound.{SoundAt, sound_seq, sound_done, sound_if, sound_weaker, Bytes, sound_expect, Spells, sound_one_of, Row, row_end, row_more, sound_several, IsNumber, sound_number}

-- fields with their points
record AreFields (most : ℕ) (front : List ℕ) (fields : List ℕ) : Type 0 where
  spelled : front ≡ dotted fields
  fit : list_all (λ f. nat_lt f (2 ^ 32)) fields ≡ true
  few : length fields ≤ most

pub point : (ts : List ℕ) → begins 46 ts ≡ true → ts ≡ 46 ∷ drop 1 ts
point [] e = absurd (let no : false ≡ true = e in cc)
point (b ∷ ts) e = ap (λ z. z ∷ ts) (same b e)
  where
    same : (b : ℕ) → begins 46 (b ∷ ts) ≡ true → b ≡ 46
    same b e = grind (arith, nat_tests)

more_fields : (most : ℕ) (xs ys : List ℕ) (f : ℕ) (fs : List ℕ) → IsNumber (2 ^ 32) xs f → AreFields most ys fs → AreFields (suc most) (46 ∷ (xs ++ ys)) (f ∷ fs)
more_fields most xs ys f fs n more = record {
  spelled = (λ i. 46 ∷ (n.0 i ++ more.spelled i)) ∙ refl;
  fit = and_from (nat_lt f (2 ^ 32)) (list_all (λ f. nat_lt f (2 ^ 32)) fs) (lt-ltb f (2 ^ 32) n.1) more.fit;
  few = omega (arith, more.few);
}

behind : {A : Type 0} (L M : List ℕ → A → Type 0) (w : List ℕ) (ts r : List ℕ) → ts ≡ w ++ r → ((ys : List ℕ) (b : A) → M ys b → L (w ++ ys) b) → (s : Res A) → SoundAt M r s → SoundAt L ts s
behind L M w ts r is goes (Ok y) s = (w ++ s.0, is ∙ ap (λ z. w ++ z) s.1 ∙ sym (append_assoc w s.0 y.1), goes s.0 y.0 s.2)
behind L M w ts r is goes (Err e) s = (w ++ s.0, is ∙ ap (λ z. w ++ z) s.1 ∙ sym (append_assoc w s.0 e.1))

sound_fields : (most : ℕ) (ts : List ℕ) → SoundAt (AreFields most) ts (fields_at most ts)
sound_fields zero ts = ([], refl, record { spelled = refl; fit = refl; few = omega arith })
sound_fields (suc most) ts =
    sound_if (AreFields (suc most)) ts (begins 46 ts) (number_at (2 ^ 32) (drop 1 ts) >>= λ f ts. fields_at most ts >>= λ fs ts. Ok (f ∷ fs, ts)) (Ok ([], ts))
    (λ h. behind (AreFields (suc most)) (λ ys fs. AreFields (suc most) (46 ∷ ys) fs) (46 ∷ []) ts (drop 1 ts) (point ts h) (λ ys b m. m) (number_at (2 ^ 32) (drop 1 ts) >>= λ f ts. fields_at most ts >>= λ fs ts. Ok (f ∷ fs, ts))
    (sound_seq (IsNumber (2 ^ 32)) (λ ys fs. AreFields (suc most) (46 ∷ ys) fs) (drop 1 ts) (number_at (2 ^ 32) (drop 1 ts)) (λ f ts. fields_at most ts >>= λ fs ts. Ok (f ∷ fs, ts)) (sound_number (2 ^ 32) (omega arith) (drop 1 ts))
    (λ f r. sound_seq (AreFields most) (λ ys b. (xs : List ℕ) → IsNumber (2 ^ 32) xs f → AreFields (suc most) (46 ∷ (xs ++ ys)) b) r (fields_at most r) (λ fs ts. Ok (f ∷ fs, ts)) (sound_fields most r)
    (λ fs r. sound_done (λ zs b. (ys : List ℕ) → AreFields most ys fs → (xs : List ℕ) → IsNumber (2 ^ 32) xs f → AreFields (suc most) (46 ∷ (xs ++ (ys ++ zs))) b) (f ∷ fs) r
    (λ ys m xs n. subst (λ z. AreFields (suc most) (46 ∷ (xs ++ z)) (f ∷ fs)) (sym (append-nil ys)) (more_fields most xs ys f fs n m))))))
    (λ h. ([], refl, record { spelled = refl; fit = refl; few = omega arith }))

-- a path that can be written
abbrev pub ReadsPath : List ℕ → PathData → Type 0
ReadsPath front p = (front ≡ path_text p) × IsPath p

pub sound_path : (ts : List ℕ) → SoundAt ReadsPath ts (path_at ts)
unfolding path_at
sound_path ts =
    sound_seq (IsNumber (2 ^ 16)) ReadsPath ts (number_at (2 ^ 16) ts) (λ root ts. fields_at 2 ts >>= λ fields ts. Ok (record { root = root; fields = fields }, ts)) (sound_number (2 ^ 16) (omega arith) ts)
    (λ root r. sound_seq (AreFields 2) (λ ys b. (xs : List ℕ) → IsNumber (2 ^ 16) xs root → ReadsPath (xs ++ ys) b) r (fields_at 2 r) (λ fields ts. Ok (record { root = root; fields = fields }, ts)) (sound_fields 2 r)
    (λ fields r. sound_done (λ zs b. (ys : List ℕ) → AreFields 2 ys fields → (xs : List ℕ) → IsNumber (2 ^ 16) xs root → ReadsPath (xs ++ (ys ++ zs)) b) (record { root = root; fields = fields }) r
    (λ ys m xs n. ((λ i. n.0 i ++ (append-nil ys ∙ m.spelled) i), record { root = n.1; fields = m.fit; few = m.few }))))

-- a tree with at most so many tests within each other
abbrev pub ReadsTree : ℕ → List ℕ → Cond → Type 0
ReadsTree room front t = (front ≡ text_of t) × HasPaths t × (tests_high t ≤ room)

pub sound_leaf : (ts : List ℕ) → SoundAt (Spells name_of) ts (leaf_at ts)
unfolding leaf_at
sound_leaf ts = sound_one_of name_of basics ts

leaf_tree : (room : ℕ) (ts : List ℕ) → SoundAt (ReadsTree room) ts (leaf_at ts >>= λ b ts. Ok (LeafC b, ts))
leaf_tree room ts =
    sound_seq (Spells name_of) (ReadsTree room) ts (leaf_at ts) (λ b ts. Ok (LeafC b, ts)) (sound_leaf ts)
    (λ b r. sound_done (λ ys t. (xs : List ℕ) → Spells name_of xs b → ReadsTree room (xs ++ ys) t) (LeafC b) r (λ xs e. (append-nil xs ∙ e, tt, omega arith)))

-- the text of a test, grouped as it is read
pub test_text : (p : PathData) (a b : Cond) → text_of (TestC p a b) ≡ codes "(" ++ (path_text p ++ (codes " " ++ (text_of a ++ (codes " " ++ (text_of b ++ codes ")")))))
test_text p a b =
    let P = path_text p in let A = text_of a in let B = text_of b in
    append_assoc (((((40 ∷ []) ++ P) ++ (32 ∷ [])) ++ A) ++ (32 ∷ [])) B (41 ∷ [])
    ∙ append_assoc ((((40 ∷ []) ++ P) ++ (32 ∷ [])) ++ A) (32 ∷ []) (B ++ (41 ∷ []))
    ∙ append_assoc (((40 ∷ []) ++ P) ++ (32 ∷ [])) A ((32 ∷ []) ++ (B ++ (41 ∷ [])))
    ∙ append_assoc ((40 ∷ []) ++ P) (32 ∷ []) (A ++ ((32 ∷ []) ++ (B ++ (41 ∷ []))))
    ∙ append_assoc (40 ∷ []) P ((32 ∷ []) ++ (A ++ ((32 ∷ []) ++ (B ++ (41 ∷ [])))))

sound_test : (room : ℕ) (inner : List ℕ → Res Cond) → ((ts : List ℕ) → SoundAt (ReadsTree room) ts (inner ts)) → (ts : List ℕ) → SoundAt (ReadsTree (suc room)) ts (test_with inner ts)
sound_test room inner law ts =
    sound_seq (Bytes (codes "(")) _ ts (expect (codes "(") ts) _ (sound_expect (codes "(") ts) λ u r.
    sound_seq ReadsPath _ r (path_at r) _ (sound_path r) λ p r.
    sound_seq (Bytes (codes " ")) _ r (expect (codes " ") r) _ (sound_expect (codes " ") r) λ u r.
    sound_seq (ReadsTree room) _ r (inner r) _ (law r) λ a r.
    sound_seq (Bytes (codes " ")) _ r (expect (codes " ") r) _ (sound_expect (codes " ") r) λ u r.
    sound_seq (ReadsTree room) _ r (inner r) _ (law r) λ b r.
    sound_seq (Bytes (codes ")")) _ r (expect (codes ")") r) _ (sound_expect (codes ")") r) λ u r. (
      [],
      refl,
      λ x7 e7 x6 e6 x5 e5 x4 e4 x3 e3 x2 e2 x1 e1. (
        (λ i. e1 i ++ (e2.0 i ++ (e3 i ++ (e4.0 i ++ (e5 i ++ (e6.0 i ++ (append-nil x7 ∙ e7) i)))))) ∙ sym (test_text p a b),
        (e2.1, e4.1, e6.1),
        omega (arith, e4.2, e6.2),
      ),
    )

pub sound_tree : (room : ℕ) (ts : List ℕ) → SoundAt (ReadsTree room) ts (tree_at room ts)
unfolding tree_at
sound_tree zero ts =
    sound_if (ReadsTree 0) ts (begins 40 ts) (Err (TooDeep, ts)) (leaf_at ts >>= λ b ts. Ok (LeafC b, ts)) (λ h. ([], refl)) (λ h. leaf_tree 0 ts)
sound_tree (suc room) ts =
    sound_if (ReadsTree (suc room)) ts (begins 40 ts) (test_with (tree_at room) ts) (leaf_at ts >>= λ b ts. Ok (LeafC b, ts))
    (λ h. sound_test room (tree_at room) (λ r. sound_tree room r) ts) (λ h. leaf_tree (suc room) ts)

-- a tree of the table
abbrev pub ReadsTableTree : List ℕ → Cond → Type 0
ReadsTableTree front t = (front ≡ text_of t) × IsTree t

canonical_step : (ts : List ℕ) (r : Res Cond) → SoundAt (ReadsTree most_nesting) ts r →
    SoundAt ReadsTableTree ts (r >>= λ t rest. if is_canonical t then Ok (t, rest) else Err (Form, ts))
canonical_step ts (Ok y) s =
    sound_if ReadsTableTree ts (is_canonical y.0) (Ok (y.0, y.1)) (Err (Form, ts))
    (λ h. (s.0, s.1, (s.2.0, record { paths = s.2.1; high = s.2.2; canonical = h }))) (λ h. ([], refl))
canonical_step ts (Err e) s = s

pub sound_canonical : (ts : List ℕ) → SoundAt ReadsTableTree ts (canonical_at ts)
unfolding canonical_at
sound_canonical ts = canonical_step ts (tree_at most_nesting ts) (sound_tree most_nesting ts)

-- a line of the table
abbrev pub ReadsTableLine : List ℕ → Cond → Type 0
ReadsTableLine front t = (front ≡ text_of t ++ (newline ∷ [])) × IsTree t

pub sound_table_line : (ts : List ℕ) → SoundAt ReadsTableLine ts (table_line ts)
sound_table_line ts =
    sound_seq ReadsTableTree _ ts (canonical_at ts) _ (sound_canonical ts) λ t r.
    sound_seq (Bytes (newline ∷ [])) _ r (expect (newline ∷ []) r) _ (sound_expect (newline ∷ []) r) λ u r. (
      [],
      refl,
      λ x2 e2 x1 e1. ((λ i. e1.0 i ++ (append-nil x2 ∙ e2) i), e1.1),
    )

-- a node with a number in the table and at most so many nodes within each other
abbrev pub ReadsNode : ℕ → ℕ → List ℕ → Node → Type 0
ReadsNode count room front d = (front ≡ node_text d) × IsNumbered count d × (node_high d ≤ room)

-- a node after a blank
abbrev pub ReadsPremise : ℕ → ℕ → List ℕ → Node → Type 0
ReadsPremise count room front d = (front ≡ codes " " ++ node_text d) × IsNumbered count d × (node_high d ≤ room)

record ReadsNodes (count room : ℕ) (front : List ℕ) (ds : Nodes) : Type 0 where
  spelled : front ≡ nodes_text ds
  numbered : AreNumbered count ds
  high : nodes_high ds ≤ room

row_nodes : (count room : ℕ) (front : List ℕ) (ds : List Node) → Row (ReadsPremise count room) front ds → ReadsNodes count room front (nodes_from ds)
row_nodes count room _ _ row_end = record { spelled = refl; numbered = tt; high = omega arith }
row_nodes count room _ _ (row_more front fronts d ds l rest) =
    let more = row_nodes count room fronts ds rest in
    record { spelled = λ i. l.0 i ++ more.spelled i; numbered = (l.1, more.numbered); high = omega (arith, l.2, more.high) }

sound_word : (ts : List ℕ) → SoundAt (Spells (λ w. word_text w ++ codes " ")) ts (word_at_front ts)
unfolding word_at_front
sound_word ts = sound_one_of (λ w. word_text w ++ codes " ") words ts

sound_premise : (count room : ℕ) (inner : List ℕ → Res Node) → ((ts : List ℕ) → SoundAt (ReadsNode count room) ts (inner ts)) →
    (ts : List ℕ) → SoundAt (ReadsPremise count room) ts (premise_with inner ts)
sound_premise count room inner law ts =
    sound_seq (Bytes (codes " ")) _ ts (expect (codes " ") ts) _ (sound_expect (codes " ") ts) λ u r.
    sound_weaker (ReadsNode count room) _ r (λ front d l xs e. ((λ i. e i ++ l.0 i), l.1, l.2)) (inner r) (law r)

pub sound_node : (count : ℕ) → count ≤ 2 ^ 64 → (room : ℕ) (ts : List ℕ) → SoundAt (ReadsNode count room) ts (node_at count room ts)
unfolding node_at
sound_node count small zero ts = sound_if (ReadsNode count 0) ts (begins 40 ts) (Err (TooDeep, ts)) (Err (Form, ts)) (λ h. ([], refl)) (λ h. ([], refl))
sound_node count small (suc room) ts =
    sound_seq (Bytes (codes "(")) _ ts (expect (codes "(") ts) _ (sound_expect (codes "(") ts) λ u r.
    sound_seq (Spells (λ w. word_text w ++ codes " ")) _ r (word_at_front r) _ (sound_word r) λ w r.
    sound_seq (IsNumber count) _ r (number_at count r) _ (sound_number count small r) λ n r.
    sound_seq (Row (ReadsPremise count room)) _ r (several 32 (premise_with (node_at count room)) r) _
    (sound_several (ReadsPremise count room) 32 (premise_with (node_at count room)) (sound_premise count room (node_at count room) (λ z. sound_node count small room z)) r) λ ds r.
    sound_seq (Bytes (codes ")")) _ r (expect (codes ")") r) _ (sound_expect (codes ")") r) λ u r. (
      [],
      refl,
      λ x5 e5 x4 e4 x3 e3 x2 e2 x1 e1.
          (let row = row_nodes count room x4 ds e4 in
          ((λ i. e1 i ++ (e2 i ++ (e3.0 i ++ (row.spelled i ++ (append-nil x5 ∙ e5) i)))), (e3.1, row.numbered), omega (arith, row.high))),
    )

abbrev pub ReadsLine : ℕ → List ℕ → Line → Type 0
ReadsLine count front line = (front ≡ method_line_text line) × IsMethodLine count line

pub sound_line : (count : ℕ) → count ≤ 2 ^ 64 → (ts : List ℕ) → SoundAt (ReadsLine count) ts (line_at count ts)
unfolding line_at
sound_line count small ts =
    sound_seq (Bytes (codes "method ")) _ ts (expect (codes "method ") ts) _ (sound_expect (codes "method ") ts) λ u r.
    sound_seq (IsNumber (2 ^ 32)) _ r (number_at (2 ^ 32) r) _ (sound_number (2 ^ 32) (omega arith) r) λ id r.
    sound_seq (Bytes (codes " ")) _ r (expect (codes " ") r) _ (sound_expect (codes " ") r) λ u r.
    sound_seq (IsNumber count) _ r (number_at count r) _ (sound_number count small r) λ n r.
    sound_seq (Bytes (newline ∷ [])) _ r (expect (newline ∷ []) r) _ (sound_expect (newline ∷ []) r) λ u r.
    sound_seq (ReadsNode count most_nesting) _ r (node_at count most_nesting r) _ (sound_node count small most_nesting r) λ d r.
    sound_seq (Bytes (newline ∷ [])) _ r (expect (newline ∷ []) r) _ (sound_expect (newline ∷ []) r) λ u r. (
      [],
      refl,
      λ x7 e7 x6 e6 x5 e5 x4 e4 x3 e3 x2 e2 x1 e1. (
        (λ i. e1 i ++ (e2.0 i ++ (e3 i ++ (e4.0 i ++ (e5 i ++ (e6.0 i ++ (append-nil x7 ∙ e7) i)))))),
        record { id = e2.1; number = e4.1; numbered = e6.1; high = e6.2 },
      ),
    )
