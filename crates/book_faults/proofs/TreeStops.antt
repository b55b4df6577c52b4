-- Trees and tables, judged: the other reader takes trees that aren't canonical.
use Rattle.std.proofs.Common.{◌≡◌, ◌⊎◌, inl, inr, ℕ, zero, suc, ◌<◌, Bool, true, false, List, [], ◌∷◌, ◌++◌, length, codes, if◌then◌else◌, Ok, Err, None, refl, sym, ◌∙◌, ap, arith, append_assoc, append-nil}
use Rattle.std.specs.List.{AllByRecursion}
use Rattle.algebra.specs.declared.basic.Basic.TheVariants.{Const}
use Rattle.algebra.specs.Basics.{name_of}
use Rattle.conditions.specs.Conditions.{Cond, LeafC, TestC}
use Rattle.conditions.specs.Texts.{text_of}
use Rattle.books.specs.declared.stop.Kind.{Kind}
use Rattle.books.specs.declared.stop.Kind.TheVariants.{Form, TooDeep}
use Rattle.books.specs.Books.{IsTree, is_canonical, most_nesting}
use Rattle.books.specs.BrokenPaths.{BreaksPath}
use Rattle.books.specs.Combine.{Res, ◌>>=◌, expect, exactly}
use Rattle.books.specs.Reading.{path_at, leaf_at, test_with, tree_at, canonical_at, table_line}
use Rattle.books.specs.Texts.{newline, table_text}
use Rattle.books.proofs.Sound.{Bytes, Spells}
use Rattle.books.proofs.SoundTrees.{ReadsPath, ReadsTree, ReadsTableTree, ReadsTableLine, test_text}
use Rattle.books.proofs.Stops.{StopsOn, ReadOf, IsJudged, Judged, Never, judged_loose, judged_seq, judged_done, judged_if, judged_expect}
use Rattle.books.proofs.StopParts.{judged_path, judged_leaf}
use Rattle.book_faults.specs.Loose.{IsLooseTree}
use Rattle.book_faults.specs.Breaks.{BreaksTest, in_path, in_held, in_free, BreaksTree, BreaksTableTree, inside, uncanonical}

-- a rule is broken, whatever the kind of the fault
abbrev pub Breaks : (Kind → List ℕ → List ℕ → Type 0) → List ℕ → List ℕ → Type 0
Breaks K front rest = (kind : Kind) × K kind front rest

-- ---- trees

judged_leaf_tree : (room : ℕ) (B : List ℕ → List ℕ → Type 0) (ts : List ℕ) → Judged (ReadsTree room) (ReadsTree room) B (λ z. leaf_at z >>= λ b r. Ok (LeafC b, r)) ts (leaf_at ts >>= λ b r. Ok (LeafC b, r))
judged_leaf_tree room B ts =
    judged_seq (Spells name_of) Never (ReadsTree room) (ReadsTree room) B leaf_at (λ b r. Ok (LeafC b, r)) ts (leaf_at ts) (λ b r. Ok (LeafC b, r)) (λ front rest no. absurd no) (judged_leaf ts)
    (λ b xs e r short. judged_done (λ ys t. ReadsTree room (xs ++ ys) t) (λ ys t. ReadsTree room (xs ++ ys) t) (λ ys zs. B (xs ++ ys) zs) (LeafC b) r
    (append-nil xs ∙ e, tt, omega arith) (append-nil xs ∙ e, tt, omega arith))

pub test_whole : (room : ℕ) (x1 x2 x3 x4 x5 x6 x7 : List ℕ) (p : _) (a b : Cond) → Bytes (codes "(") x1 tt → ReadsPath x2 p → Bytes (codes " ") x3 tt → ReadsTree room x4 a → Bytes (codes " ") x5 tt → ReadsTree room x6 b → Bytes (codes ")") x7 tt →
    ReadsTree (suc room) (x1 ++ (x2 ++ (x3 ++ (x4 ++ (x5 ++ (x6 ++ (x7 ++ []))))))) (TestC p a b)
test_whole room x1 x2 x3 x4 x5 x6 x7 p a b e1 e2 e3 e4 e5 e6 e7 = (
  (λ i. e1 i ++ (e2.0 i ++ (e3 i ++ (e4.0 i ++ (e5 i ++ (e6.0 i ++ (append-nil x7 ∙ e7) i)))))) ∙ sym (test_text p a b),
  (e2.1, e4.1, e6.1),
  omega (arith, e4.2, e6.2),
)

judged_test : (room : ℕ) (inner : List ℕ → Res Cond) (I : Kind → List ℕ → List ℕ → Type 0) → ((ts : List ℕ) → Judged (ReadsTree room) (ReadsTree room) (Breaks I) inner ts (inner ts)) →
    (ts : List ℕ) → Judged (ReadsTree (suc room)) (ReadsTree (suc room)) (Breaks (λ kind. BreaksTest kind room (I kind))) (test_with inner) ts (test_with inner ts)
judged_test room inner I law ts =
    judged_seq (Bytes (codes "(")) Never (ReadsTree (suc room)) (ReadsTree (suc room)) (Breaks (λ kind. BreaksTest kind room (I kind))) (expect (codes "(")) _ ts (expect (codes "(") ts) _ (λ front rest no. absurd no) (judged_expect (codes "(") ts) λ u x1 e1 r s.
    judged_seq ReadsPath (BreaksPath None) _ _ _ path_at _ r (path_at r) _ (λ front rest d. (Form, in_path front refl (λ i. e1 i ++ front) d)) (judged_path None r) λ p x2 e2 r s.
    judged_seq (Bytes (codes " ")) Never _ _ _ (expect (codes " ")) _ r (expect (codes " ") r) _ (λ front rest no. absurd no) (judged_expect (codes " ") r) λ u x3 e3 r s.
    judged_seq (ReadsTree room) (Breaks I) _ _ _ inner _ r (inner r) _ (λ front rest d. (d.0, in_held p front e2.1 (λ i. e1 i ++ (e2.0 i ++ (e3 i ++ front))) d.1)) (law r) λ a x4 e4 r s.
    judged_seq (Bytes (codes " ")) Never _ _ _ (expect (codes " ")) _ r (expect (codes " ") r) _ (λ front rest no. absurd no) (judged_expect (codes " ") r) λ u x5 e5 r s.
    judged_seq (ReadsTree room) (Breaks I) _ _ _ inner _ r (inner r) _
    (λ front rest d. (d.0, in_free p a front e2.1 e4.1 e4.2 (λ i. e1 i ++ (e2.0 i ++ (e3 i ++ (e4.0 i ++ (e5 i ++ front))))) d.1)) (law r) λ b x6 e6 r s.
    judged_seq (Bytes (codes ")")) Never _ _ _ (expect (codes ")")) _ r (expect (codes ")") r) _ (λ front rest no. absurd no) (judged_expect (codes ")") r) λ u x7 e7 r s.
    judged_done _ _ _ (TestC p a b) r (test_whole room x1 x2 x3 x4 x5 x6 x7 p a b e1 e2 e3 e4 e5 e6 e7) (test_whole room x1 x2 x3 x4 x5 x6 x7 p a b e1 e2 e3 e4 e5 e6 e7)

pub judged_tree : (room : ℕ) (ts : List ℕ) → Judged (ReadsTree room) (ReadsTree room) (Breaks (λ kind. BreaksTree kind room)) (tree_at room) ts (tree_at room ts)
unfolding tree_at
judged_tree zero ts =
    judged_if (ReadsTree 0) (ReadsTree 0) (Breaks (λ kind. BreaksTree kind 0)) 40 (λ z. Err (TooDeep, z)) (λ z. leaf_at z >>= λ b r. Ok (LeafC b, r)) ts (Err (TooDeep, ts)) (leaf_at ts >>= λ b r. Ok (LeafC b, r))
    (λ h. record { at = record { front = []; whole = refl; begun = record { more = name_of Const; value = LeafC Const; is = (refl, tt, omega arith) }; why = inr (TooDeep, (refl, refl, h)) } })
    (λ h. judged_leaf_tree 0 (Breaks (λ kind. BreaksTree kind 0)) ts)
judged_tree (suc room) ts =
    judged_if (ReadsTree (suc room)) (ReadsTree (suc room)) (Breaks (λ kind. BreaksTree kind (suc room))) 40 (test_with (tree_at room)) (λ z. leaf_at z >>= λ b r. Ok (LeafC b, r)) ts
    (test_with (tree_at room) ts) (leaf_at ts >>= λ b r. Ok (LeafC b, r))
    (λ h. judged_test room (tree_at room) (λ kind. BreaksTree kind room) (λ z. judged_tree room z) ts)
    (λ h. judged_leaf_tree (suc room) (Breaks (λ kind. BreaksTree kind (suc room))) ts)

-- ---- trees of the table

abbrev pub Nested : List ℕ → Cond → Type 0
Nested = ReadsTree most_nesting

canonical_if : (ts : List ℕ) (t : Cond) (rest : List ℕ) (test : Bool) → is_canonical t ≡ test → ReadOf Nested Nested (tree_at most_nesting) ts t rest →
    IsJudged ReadsTableTree Nested (Breaks BreaksTableTree) (tree_at most_nesting) ts (if test then Ok (t, rest) else Err (Form, ts))
canonical_if ts t rest true e s = record { front = s.front; whole = s.whole; is = (s.is.0, record { paths = s.is.1; high = s.is.2; canonical = e }); fits = s.fits; on = s.on }
canonical_if ts t rest false e s = record {
  front = [];
  whole = refl;
  begun = record { more = s.front; value = t; is = s.fits };
  why = inr (Form, uncanonical t rest refl refl (s.whole ∙ ap (λ z. z ++ rest) s.is.0) s.is.1 s.is.2 e);
}

canonical_by : (ts : List ℕ) (x : Res Cond) → IsJudged Nested Nested (Breaks (λ kind. BreaksTree kind most_nesting)) (tree_at most_nesting) ts x →
    IsJudged ReadsTableTree Nested (Breaks BreaksTableTree) (tree_at most_nesting) ts (x >>= λ t rest. if is_canonical t then Ok (t, rest) else Err (Form, ts))
canonical_by ts (Ok y) s = canonical_if ts y.0 y.1 (is_canonical y.0) refl s
canonical_by ts (Err d) s = record { front = s.front; whole = s.whole; begun = s.begun; why = why s.front d.1 s.why }
  where
    why : (front rest : List ℕ) → StopsOn (tree_at most_nesting) front rest ⊎ Breaks (λ kind. BreaksTree kind most_nesting) front rest → StopsOn (tree_at most_nesting) front rest ⊎ Breaks BreaksTableTree front rest
    why front rest (inl stops) = inl stops
    why front rest (inr b) = inr (b.0, inside b.1)

judged_canonical : (ts : List ℕ) → Judged ReadsTableTree Nested (Breaks BreaksTableTree) (tree_at most_nesting) ts (canonical_at ts)
unfolding canonical_at
judged_canonical ts = record { at = canonical_by ts (tree_at most_nesting ts) (judged_tree most_nesting ts).at }

-- a line of the table with a tree that needn't be canonical
abbrev pub loose_table_line : List ℕ → Res Cond
loose_table_line ts = tree_at most_nesting ts >>= λ t ts. expect (newline ∷ []) ts >>= λ u ts. Ok (t, ts)

abbrev pub LooseTableLine : List ℕ → Cond → Type 0
LooseTableLine front t = (front ≡ text_of t ++ (newline ∷ [])) × IsLooseTree t

judged_table_line : (ts : List ℕ) → Judged ReadsTableLine LooseTableLine (Breaks BreaksTableTree) loose_table_line ts (table_line ts)
judged_table_line ts =
    judged_loose ReadsTableTree Nested (Breaks BreaksTableTree) ReadsTableLine LooseTableLine (Breaks BreaksTableTree) (tree_at most_nesting) _ ts (canonical_at ts) _ (λ front rest b. b) (judged_canonical ts) λ t x1 n r s.
    judged_seq (Bytes (newline ∷ [])) Never _ _ _ (expect (newline ∷ [])) _ r (expect (newline ∷ []) r) _ (λ front rest no. absurd no) (judged_expect (newline ∷ []) r) λ u x2 e r s.
    judged_done _ _ _ t r (λ k. ((λ i. k.0 i ++ (append-nil x2 ∙ e) i), k.1)) ((λ i. n.0 i ++ (append-nil x2 ∙ e) i), (n.1, n.2))

-- ---- tables

-- so many trees and their lines
pub record TableText (P : Cond → Type 0) (n : ℕ) (front : List ℕ) (trees : List Cond) : Type 0 where
  pub text : front ≡ table_text trees
  pub each : AllByRecursion P trees
  pub size : length trees ≡ n

-- behind less than so many trees a rule is broken in the next
pub record TableBreaks (n : ℕ) (front rest : List ℕ) : Type 0 where
  pub kind : Kind
  pub before : List Cond
  pub each : AllByRecursion IsTree before
  pub fewer : length before < n
  pub ahead : List ℕ
  pub text : front ≡ table_text before ++ ahead
  pub breaks : BreaksTableTree kind ahead rest

pub more_trees : (P : Cond → Type 0) (n : ℕ) (xs ys : List ℕ) (t : Cond) (ts : List Cond) → xs ≡ text_of t ++ (newline ∷ []) → P t → TableText P n ys ts → TableText P (suc n) (xs ++ (ys ++ [])) (t ∷ ts)
more_trees P n xs ys t ts e p m = record { text = λ i. e i ++ (append-nil ys ∙ m.text) i; each = (p, m.each); size = omega (arith, m.size) }

abbrev pub first_tree_breaks : (n : ℕ) (front rest : List ℕ) → Breaks BreaksTableTree front rest → TableBreaks (suc n) front rest
first_tree_breaks n front rest b = record { kind = b.0; before = []; each = tt; fewer = omega arith; ahead = front; text = refl; breaks = b.1 }

abbrev pub later_tree_breaks : (n : ℕ) (xs : List ℕ) (t : Cond) (front rest : List ℕ) → TableBreaks n front rest → ReadsTableLine xs t → TableBreaks (suc n) (xs ++ front) rest
later_tree_breaks n xs t front rest b is = record {
  kind = b.kind;
  before = t ∷ b.before;
  each = (is.1, b.each);
  fewer = omega (arith, b.fewer);
  ahead = b.ahead;
  text = (λ i. is.0 i ++ b.text i) ∙ sym (append_assoc (text_of t ++ (newline ∷ [])) (table_text b.before) b.ahead);
  breaks = b.breaks;
}

pub judged_table : (n : ℕ) (ts : List ℕ) → Judged (TableText IsTree n) (TableText IsLooseTree n) (TableBreaks n) (exactly n loose_table_line) ts (exactly n table_line ts)
judged_table zero ts = judged_done (TableText IsTree 0) (TableText IsLooseTree 0) (TableBreaks 0) [] ts (record { text = refl; each = tt; size = refl }) (record { text = refl; each = tt; size = refl })
judged_table (suc n) ts =
    judged_loose ReadsTableLine LooseTableLine (Breaks BreaksTableTree) (TableText IsTree (suc n)) (TableText IsLooseTree (suc n)) (TableBreaks (suc n)) loose_table_line (λ l r. exactly n loose_table_line r >>= λ ls r. Ok (l ∷ ls, r)) ts (table_line ts)
    (λ l r. exactly n table_line r >>= λ ls r. Ok (l ∷ ls, r)) (λ front rest b. first_tree_breaks n front rest b) (judged_table_line ts)
    (λ l xs fits r s. judged_loose (TableText IsTree n) (TableText IsLooseTree n) (TableBreaks n) (λ ys ls. ReadsTableLine xs l → TableText IsTree (suc n) (xs ++ ys) ls) (λ ys ls. TableText IsLooseTree (suc n) (xs ++ ys) ls)
    (λ ys zs. ReadsTableLine xs l → TableBreaks (suc n) (xs ++ ys) zs) (exactly n loose_table_line) (λ ls r. Ok (l ∷ ls, r)) r (exactly n table_line r) (λ ls r. Ok (l ∷ ls, r)) (λ front rest b is. later_tree_breaks n xs l front rest b is) (judged_table n r)
    (λ ls ys m r s. judged_done (λ zs all. TableText IsTree n ys ls → ReadsTableLine xs l → TableText IsTree (suc n) (xs ++ (ys ++ zs)) all) (λ zs all. TableText IsLooseTree (suc n) (xs ++ (ys ++ zs)) all)
    (λ us zs. TableText IsTree n ys ls → ReadsTableLine xs l → TableBreaks (suc n) (xs ++ (ys ++ us)) zs) (l ∷ ls) r
    (λ trees is. more_trees IsTree n xs ys l ls is.0 is.1 trees) (more_trees IsLooseTree n xs ys l ls fits.0 fits.1 m)))
