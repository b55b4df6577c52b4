-- Whole texts, judged: the other reader takes trees that aren't canonical, numbers that the table lacks, and one node more within each other.
use Rattle.std.proofs.Common.{◌≡◌, ℕ, ◌<◌, ◌≤◌, ◌^◌, List, [], ◌∷◌, ◌++◌, length, codes, Ok, inl, refl, sym, ◌∙◌, ap, subst, arith, append_assoc, append-nil}
use Rattle.std.specs.List.{AllByRecursion}
use Rattle.conditions.specs.Conditions.{Cond}
use Rattle.books.specs.declared.stop.Kind.{Kind}
use Rattle.books.specs.declared.stop.Kind.TheVariants.{Form}
use Rattle.books.specs.Books.{Line, Book, IsTree, AreTrees, IsMethodLine, AreMethodLines}
use Rattle.books.specs.Broken.{IsPast}
use Rattle.books.specs.Combine.{Res, ◌>>=◌, expect, several, exactly}
use Rattle.books.specs.Reading.{number_at, table_line, line_at, nothing_behind, count_at, lines_at, book_at}
use Rattle.books.specs.Texts.{newline, method_line_text, method_lines_text, book_text}
use Rattle.books.proofs.Sound.{Bytes, IsNumber}
use Rattle.books.proofs.SoundTrees.{ReadsLine}
use Rattle.books.proofs.Stops.{Judged, Never, judged_loose, judged_seq, judged_done, judged_expect}
use Rattle.books.proofs.StopParts.{PastAt, judged_number}
use Rattle.book_faults.specs.Loose.{IsLooseTree, IsLooseLine, IsLooseBook}
use Rattle.book_faults.specs.Breaks.{BreaksLine, table_heading, BreaksBook, at_count, in_tree, in_line}
use Rattle.book_faults.proofs.RowStops.{AreRows, judged_several}
use Rattle.book_faults.proofs.TreeStops.{Breaks, loose_table_line, TableText, TableBreaks, judged_table}
use Rattle.book_faults.proofs.NodeStops.{loose_line, LooseLine, some_line, line_takes, judged_line}

-- ---- method lines

-- lines one after another
pub record LinesText (P : Line → Type 0) (front : List ℕ) (ls : List Line) : Type 0 where
  pub text : front ≡ method_lines_text ls
  pub each : AllByRecursion P ls

-- behind lines a rule is broken in the next
pub record LinesBreak (count : ℕ) (front rest : List ℕ) : Type 0 where
  pub kind : Kind
  pub before : List Line
  pub each : AllByRecursion (IsMethodLine count) before
  pub ahead : List ℕ
  pub text : front ≡ method_lines_text before ++ ahead
  pub breaks : BreaksLine kind count ahead rest

pub more_lines : (P : Line → Type 0) (xs ys : List ℕ) (l : Line) (ls : List Line) → xs ≡ method_line_text l → P l → LinesText P ys ls → LinesText P (xs ++ (ys ++ [])) (l ∷ ls)
more_lines P xs ys l ls e p m = record { text = λ i. e i ++ (append-nil ys ∙ m.text) i; each = (p, m.each) }

abbrev pub later_line : (count : ℕ) (xs front rest : List ℕ) (l : Line) → ReadsLine count xs l → LinesBreak count front rest → LinesBreak count (xs ++ front) rest
later_line count xs front rest l is b = record {
  kind = b.kind;
  before = l ∷ b.before;
  each = (is.1, b.each);
  ahead = b.ahead;
  text = (λ i. is.0 i ++ b.text i) ∙ sym (append_assoc (method_line_text l) (method_lines_text b.before) b.ahead);
  breaks = b.breaks;
}

line_rows : (count : ℕ) → AreRows (ReadsLine count) LooseLine (Breaks (λ kind. BreaksLine kind count)) (LinesText (IsMethodLine count)) (LinesText IsLooseLine) (LinesBreak count)
line_rows count = record {
  some = some_line;
  none = record { text = refl; each = tt };
  none_fits = record { text = refl; each = tt };
  more = λ xs ys l ls is m. more_lines (IsMethodLine count) xs ys l ls is.0 is.1 m;
  more_fits = λ xs ys l ls is m. more_lines IsLooseLine xs ys l ls is.0 is.1 m;
  first = λ front rest b. record { kind = b.0; before = []; each = tt; ahead = front; text = refl; breaks = b.1 };
  later = λ xs front rest l is b. later_line count xs front rest l is b;
}

judged_rows : (count : ℕ) → count ≤ 2 ^ 32 → (ts : List ℕ) → Judged (LinesText (IsMethodLine count)) (LinesText IsLooseLine) (LinesBreak count) (several 109 loose_line) ts (several 109 (line_at count) ts)
judged_rows count few ts =
    judged_several (ReadsLine count) LooseLine (Breaks (λ kind. BreaksLine kind count)) (LinesText (IsMethodLine count)) (LinesText IsLooseLine) (LinesBreak count) 109 (line_at count) loose_line
    (line_rows count) line_takes (λ z. judged_line count few z) ts

judged_nothing : (ts : List ℕ) → Judged (Bytes []) (Bytes []) Never nothing_behind ts (nothing_behind ts)
judged_nothing [] = record { at = record { front = []; whole = refl; is = refl; fits = refl; on = tt } }
judged_nothing (b ∷ ts) = record { at = record { front = []; whole = refl; begun = record { more = []; value = tt; is = refl }; why = inl (λ more. tt) } }

-- lines, and then the end
pub record EndedText (P : Line → Type 0) (front : List ℕ) (ls : List Line) : Type 0 where
  pub text : front ≡ method_lines_text ls ++ (codes "end" ++ (newline ∷ []))
  pub each : AllByRecursion P ls

-- lines that the table may lack trees of, and the end
abbrev pub loose_lines : List ℕ → Res (List Line)
loose_lines ts = several 109 loose_line ts >>= λ lines ts. expect (codes "end" ++ (newline ∷ [])) ts >>= λ u ts. nothing_behind ts >>= λ u ts. Ok (lines, ts)

pub ended : (P : Line → Type 0) (x1 x2 x3 : List ℕ) (ls : List Line) → LinesText P x1 ls → Bytes (codes "end" ++ (newline ∷ [])) x2 tt → Bytes [] x3 tt → EndedText P (x1 ++ (x2 ++ (x3 ++ []))) ls
ended P x1 x2 x3 ls e1 e2 e3 =
    let last : x2 ++ (x3 ++ []) ≡ codes "end" ++ (newline ∷ []) = (λ i. e2 i ++ (append-nil x3 ∙ e3) i) ∙ append-nil (codes "end" ++ (newline ∷ [])) in
    record { text = λ i. e1.text i ++ last i; each = e1.each }

judged_lines : (count : ℕ) → count ≤ 2 ^ 32 → (ts : List ℕ) → Judged (EndedText (IsMethodLine count)) (EndedText IsLooseLine) (LinesBreak count) loose_lines ts (lines_at count ts)
unfolding lines_at
judged_lines count few ts =
    judged_loose (LinesText (IsMethodLine count)) (LinesText IsLooseLine) (LinesBreak count) (EndedText (IsMethodLine count)) (EndedText IsLooseLine) (LinesBreak count) (several 109 loose_line) _ ts (several 109 (line_at count) ts) _
    (λ front rest b. b) (judged_rows count few ts) λ ls x1 e1 r s.
    judged_seq (Bytes (codes "end" ++ (newline ∷ []))) Never _ _ _ (expect (codes "end" ++ (newline ∷ []))) _ r (expect (codes "end" ++ (newline ∷ [])) r) _ (λ front rest no. absurd no) (judged_expect (codes "end" ++ (newline ∷ [])) r) λ u x2 e2 r s.
    judged_seq (Bytes []) Never _ _ _ nothing_behind _ r (nothing_behind r) _ (λ front rest no. absurd no) (judged_nothing r) λ u x3 e3 r s.
    judged_done _ _ _ ls r (λ h. ended (IsMethodLine count) x1 x2 x3 ls h e2 e3) (ended IsLooseLine x1 x2 x3 ls e1 e2 e3)

-- ---- whole texts

abbrev pub CountText : List ℕ → ℕ → Type 0
CountText front n = (front ≡ table_heading n) × (n < 2 ^ 32)

abbrev pub CountBreaks : List ℕ → List ℕ → Type 0
CountBreaks front rest = (front ≡ codes "book ") × IsPast (2 ^ 32) rest

judged_count : (ts : List ℕ) → Judged CountText CountText CountBreaks count_at ts (count_at ts)
unfolding count_at
judged_count ts =
    judged_seq (Bytes (codes "book ")) Never CountText CountText CountBreaks (expect (codes "book ")) _ ts (expect (codes "book ") ts) _ (λ front rest no. absurd no) (judged_expect (codes "book ") ts) λ u x1 e1 r s.
    judged_seq (IsNumber (2 ^ 32)) (PastAt (2 ^ 32)) _ _ _ (number_at (2 ^ 32)) _ r (number_at (2 ^ 32) r) _ (λ front rest d. ((λ i. e1 i ++ d.0 i) ∙ append-nil (codes "book "), d.1)) (judged_number (2 ^ 32) (omega arith) (omega arith) r) λ n x2 e2 r s.
    judged_seq (Bytes (newline ∷ [])) Never _ _ _ (expect (newline ∷ [])) _ r (expect (newline ∷ []) r) _ (λ front rest no. absurd no) (judged_expect (newline ∷ []) r) λ u x3 e3 r s.
    judged_done _ _ _ n r ((λ i. e1 i ++ (e2.0 i ++ (append-nil x3 ∙ e3) i)), e2.1) ((λ i. e1 i ++ (e2.0 i ++ (append-nil x3 ∙ e3) i)), e2.1)

-- a whole text that keeps the grammar
abbrev pub loose_book : List ℕ → Res Book
loose_book ts = count_at ts >>= λ n ts. exactly n loose_table_line ts >>= λ trees ts. loose_lines ts >>= λ lines ts. Ok (record { table = trees; lines = lines }, ts)

pub record BookFits (front : List ℕ) (book : Book) : Type 0 where
  pub text : front ≡ book_text book
  pub loose : IsLooseBook book

abbrev pub Anything : List ℕ → Book → Type 0
Anything front book = Unit {0}

-- each of these is, said in two ways
pub trees_are : (ts : List Cond) → AllByRecursion IsTree ts → AreTrees ts
trees_are [] are = tt
trees_are (t ∷ ts) are = (are.0, trees_are ts are.1)

pub lines_are : (count : ℕ) (ls : List Line) → AllByRecursion (IsMethodLine count) ls → AreMethodLines count ls
lines_are count [] are = tt
lines_are count (l ∷ ls) are = (are.0, lines_are count ls are.1)

abbrev pub tree_breaks : (n : ℕ) (x1 front rest : List ℕ) → CountText x1 n → TableBreaks n front rest → Breaks BreaksBook (x1 ++ front) rest
tree_breaks n x1 front rest c b = (b.kind, in_tree n b.before b.ahead c.1 b.fewer (trees_are b.before b.each) (λ i. c.0 i ++ b.text i) b.breaks)

abbrev pub line_breaks : (n : ℕ) (x1 x2 front rest : List ℕ) (trees : List Cond) → CountText x1 n → LinesBreak n front rest → TableText IsTree n x2 trees → Breaks BreaksBook (x1 ++ (x2 ++ front)) rest
line_breaks n x1 x2 front rest trees c b t =
    let size : n ≡ length trees = sym t.size in (
      b.kind,
      in_line trees b.before b.ahead (subst (λ k. k < 2 ^ 32) size c.1) (trees_are trees t.each) (lines_are (length trees) b.before (subst (λ k. AllByRecursion (IsMethodLine k) b.before) size b.each))
          (λ i. (c.0 ∙ ap table_heading size) i ++ (t.text i ++ b.text i)) (subst (λ k. BreaksLine b.kind k b.ahead rest) size b.breaks),
    )

book_fits : (n : ℕ) (x1 x2 x3 : List ℕ) (trees : List Cond) (ls : List Line) → CountText x1 n → TableText IsLooseTree n x2 trees → EndedText IsLooseLine x3 ls →
    BookFits (x1 ++ (x2 ++ (x3 ++ []))) (record { table = trees; lines = ls })
book_fits n x1 x2 x3 trees ls c t l = record {
  text = λ i. (c.0 ∙ ap table_heading (sym t.size)) i ++ (t.text i ++ (append-nil x3 ∙ l.text) i);
  loose = record { few = subst (λ k. k < 2 ^ 32) (sym t.size) c.1; trees = t.each; lines = l.each };
}

judged_rest : (n : ℕ) → n < 2 ^ 32 → (ts : List ℕ) → Judged (EndedText (IsMethodLine n)) (EndedText IsLooseLine) (LinesBreak n) loose_lines ts (lines_at n ts)
judged_rest n small ts = judged_lines n (omega (arith, small)) ts

pub judged_book : (ts : List ℕ) → Judged Anything BookFits (Breaks BreaksBook) loose_book ts (book_at ts)
unfolding book_at
judged_book ts =
    judged_seq CountText CountBreaks Anything BookFits (Breaks BreaksBook) count_at _ ts (count_at ts) _ (λ front rest d. (Form, at_count refl d.0 d.1)) (judged_count ts) λ n x1 c r s.
    judged_loose (TableText IsTree n) (TableText IsLooseTree n) (TableBreaks n) _ _ _ (exactly n loose_table_line) _ r (exactly n table_line r) _ (λ front rest b. tree_breaks n x1 front rest c b) (judged_table n r) λ trees x2 t r s.
    judged_loose (EndedText (IsMethodLine n)) (EndedText IsLooseLine) (LinesBreak n) _ _ _ loose_lines _ r (lines_at n r) _ (λ front rest b k. line_breaks n x1 x2 front rest trees c b k) (judged_rest n c.1 r) λ ls x3 l r s.
    judged_done _ _ _ (record { table = trees; lines = ls }) r (λ h k. tt) (book_fits n x1 x2 x3 trees ls c t l)
