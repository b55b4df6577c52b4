-- The trees of a book's table are canonical, and what is judged by them is the book.
use Rattle.std.proofs.Common.{◌≡◌, ℕ, zero, suc, inl, inr, ◌&&◌, Bool, true, false, not, List, [], ◌∷◌, length, slice_get, Option, Some, None, Result, Ok, Err, refl, sym, ◌∙◌, ap, subst}
use Rattle.std.proofs.lemmas.Option.{same_Some, slice_get_within}
use Rattle.paths.specs.Paths.{PathData, path_order}
use Rattle.algebra.specs.HeldPaths.{Held}
use Rattle.conditions.specs.Conditions.{Cond, LeafC, TestC, cond_eq, IsAfter, IsCanonical}
use Rattle.conditions.proofs.CondLemmas.{after_test, is-cond_eq}
use Rattle.core_program.specs.Core.{Method}
use Rattle.rules.specs.Effect.{Assignment}
use Rattle.books.specs.Books.{Line, Book, AreTrees, comes_after, is_canonical_below}
use Rattle.books.proofs.TableLaws.{less_is}
use Rattle.book_check.specs.declared.judge.Judge.{Judge}
use Rattle.book_check.specs.declared.wrong.Wrong.{Wrong}
use Rattle.book_check.specs.declared.wrong.Wrong.TheVariants as wrong
use Rattle.book_check.specs.Good.{line_value, book_assignment, IsShaped, IsGoodLine, IsGoodBook}
use Rattle.book_check.specs.Faults.{IsShapedAt, AreShaped, AreGoodBefore, IsFirstWrong, IsUnjudged, IsWrongBook, IsLineVerdict}
use Rattle.rules.specs.Near.{loc_of}
use Rattle.book_check.specs.Conclusions.{tests_only}
use Rattle.book_check.specs.Judges.{judge_near, judge_program, judge_rel, judge_table, judge_assignment, number_value, numbered, AreCanonical}
use Rattle.book_check.specs.Nearness.{is_near, AreNear, AreOwnNear}
use Rattle.book_check.specs.NearBooks.{IsNearBook}
use Rattle.book_check.specs.Passes.{tree_numbers, AreGoodLines, IsWrongLine, AreLinesJudged, IsBookVerdict}

-- below a path, if there is one
abbrev IsBehind : Option PathData → Cond → Type 0
IsBehind None t = Unit {0}
IsBehind (Some p) t = IsAfter p t

four : (a b c d : Bool) → (a && (b && (c && d))) ≡ true → (a ≡ true) × (b ≡ true) × (c ≡ true) × (d ≡ true)
four true true true true e = (refl, refl, refl, refl)
four true true true false e = absurd (cc)
four true true false d e = absurd (cc)
four true false c d e = absurd (cc)
four false b c d e = absurd (cc)

behind_test : (above : Option PathData) (q : PathData) (a b : Cond) → comes_after above q ≡ true → IsCanonical (TestC q a b) → IsBehind above (TestC q a b)
behind_test None q a b e is = tt
behind_test (Some p) q a b e is = after_test p q a b (less_is (path_order p q) e) is

canonical_is : (above : Option PathData) (t : Cond) → is_canonical_below above t ≡ true → IsCanonical t × IsBehind above t
canonical_is None (LeafC b) e = (tt, tt)
canonical_is (Some p) (LeafC b) e = (tt, tt)
canonical_is above (TestC q a b) e =
    let parts = four (comes_after above q) (not (cond_eq a b)) (is_canonical_below (Some q) a) (is_canonical_below (Some q) b) e in
    let first = canonical_is (Some q) a parts.2 in
    let second = canonical_is (Some q) b parts.3 in
    let is : IsCanonical (TestC q a b) = record {
      after_a = first.1;
      after_b = second.1;
      differ = λ same. absurd (let h : false ≡ true = sym (ap not (is-cond_eq a b same)) ∙ parts.1 in cc);
      a_is = first.0;
      b_is = second.0;
    } in
    (is, behind_test above q a b parts.0 is)

pub trees_canonical : (ts : List Cond) → AreTrees ts → AreCanonical ts
trees_canonical [] are = λ n t e. absurd (let h : None ≡ Some t = e in cc)
trees_canonical (x ∷ ts) are = let rest = trees_canonical ts are.1 in λ n t e. chosen rest n t e
  where
    chosen : AreCanonical ts → (n : ℕ) (t : Cond) → slice_get (x ∷ ts) n ≡ Some t → IsCanonical t
    chosen rest zero t e = subst IsCanonical (same_Some x t e) (canonical_is None x are.0.canonical).0
    chosen rest (suc n) t e = rest n t e

-- from what was judged in memory to the book

same_line : (table : List Cond) (ls : List Line) (m : ℕ) (H : Held) → number_value table (slice_get (tree_numbers ls) m) H ≡ line_value table (slice_get ls m) H
same_line table [] m H = refl
same_line table (l ∷ ls) zero H = refl
same_line table (l ∷ ls) (suc m) H = same_line table ls m H

-- the trees of near lines, by the numbers of the lines
own_at : (rel : ℕ → List PathData) (table : List Cond) (ls : List Line) (m : ℕ) → ((k : ℕ) (line : Line) → slice_get ls k ≡ Some line → is_near (rel k) table line.number ≡ true) →
    tests_only (rel m) (numbered table (slice_get (tree_numbers ls) m)) ≡ true
own_at rel table [] m near = refl
own_at rel table (l ∷ ls) zero near = near zero l refl
own_at rel table (l ∷ ls) (suc m) near = own_at (λ k. rel (suc k)) table ls m (λ k line at. near (suc k) line at)

module _ (judge : Judge) (book : Book) (table : judge_table judge ≡ book.table) (numbers : judge.lines.now ≡ tree_numbers book.lines) where
  one_assigned : (m : ℕ) (H : Held) → judge_assignment judge m H ≡ book_assignment book m H
  one_assigned m H = (λ i. number_value (table i) (slice_get (numbers i) m) H) ∙ same_line book.table book.lines m H

  assigned_same : judge_assignment judge ≡ book_assignment book
  assigned_same = λ i m H. one_assigned m H i

  -- what holds of the judge's table and assignment holds of the book's
  moved : (F : List Cond → Assignment → Type 0) → F (judge_table judge) (judge_assignment judge) → F book.table (book_assignment book)
  moved F x = subst (λ A. F book.table A) assigned_same (subst (λ T. F T (judge_assignment judge)) table x)

  good_before : (m : ℕ) → AreGoodLines judge book m → AreGoodBefore (judge_program judge) (judge_rel judge) book m
  good_before m good = λ k method line below is at. moved (λ T A. IsGoodLine (judge_program judge) (judge_rel judge) T A k method line) (good k method line below is at)

  shaped_line : (m : ℕ) (method : Method) (line : Line) → AreShaped (judge_program judge) (judge_rel judge) book → slice_get (judge_program judge).methods m ≡ Some method → slice_get book.lines m ≡ Some line →
      IsShaped m method line
  shaped_line m method line shaped is at = subst (λ o. IsShapedAt m (Some method) o) at (subst (λ o. IsShapedAt m o (slice_get book.lines m)) is (shaped m))

  good_book : length book.lines ≡ length (judge_program judge).methods → AreShaped (judge_program judge) (judge_rel judge) book → AreGoodLines judge book (length (judge_program judge).methods) →
      IsGoodBook (judge_program judge) (judge_rel judge) book
  good_book count shaped good = record {
    count = count;
    shaped = λ m method line is at. shaped_line m method line shaped is at;
    good = λ m method line is at. good_before (length (judge_program judge).methods) good m method line (slice_get_within (judge_program judge).methods m method is) is at;
  }

  first_wrong : (fault : Wrong) → AreShaped (judge_program judge) (judge_rel judge) book → (w : IsWrongLine judge book fault) → IsFirstWrong (judge_program judge) (judge_rel judge) book w.position fault
  first_wrong fault shaped w = record {
    shaped = shaped;
    before = good_before w.position w.before;
    method = w.method;
    line = w.line;
    method_is = w.method_is;
    line_is = w.line_is;
    verdict = moved (λ T A. IsLineVerdict (judge_program judge) (judge_rel judge) T A w.position w.method w.line (Some fault)) w.verdict;
  }

  wrong_line : (fault : Wrong) → AreShaped (judge_program judge) (judge_rel judge) book → IsWrongLine judge book fault → IsWrongBook (judge_program judge) (judge_rel judge) book fault
  wrong_line (wrong.Shape k node) shaped w = absurd w.verdict
  wrong_line (wrong.Table k) shaped w = subst (λ m. IsFirstWrong (judge_program judge) (judge_rel judge) book m (wrong.Table k)) (sym w.verdict.0) (first_wrong (wrong.Table k) shaped w)
  wrong_line (wrong.Step k node) shaped w = subst (λ m. IsFirstWrong (judge_program judge) (judge_rel judge) book m (wrong.Step k node)) (sym w.verdict.0) (first_wrong (wrong.Step k node) shaped w)
  wrong_line (wrong.Bound k) shaped w = subst (λ m. IsFirstWrong (judge_program judge) (judge_rel judge) book m (wrong.Bound k)) (sym w.verdict.0) (first_wrong (wrong.Bound k) shaped w)
  wrong_line (wrong.Override k) shaped w = subst (λ m. IsFirstWrong (judge_program judge) (judge_rel judge) book m (wrong.Override k)) (sym w.verdict.0) (first_wrong (wrong.Override k) shaped w)
  wrong_line wrong.Memory shaped w = tt
  wrong_line wrong.Work shaped w = tt

  -- no judgement says nothing
  unjudged_is : (fault : Wrong) → IsUnjudged fault → IsWrongBook (judge_program judge) (judge_rel judge) book fault
  unjudged_is (wrong.Shape k node) unjudged = absurd unjudged
  unjudged_is (wrong.Table k) unjudged = absurd unjudged
  unjudged_is (wrong.Step k node) unjudged = absurd unjudged
  unjudged_is (wrong.Override k) unjudged = absurd unjudged
  unjudged_is (wrong.Bound k) unjudged = absurd unjudged
  unjudged_is wrong.Memory unjudged = tt
  unjudged_is wrong.Work unjudged = tt

  -- what a near book says of its method lines
  pub own_are_near : IsNearBook (judge_rel judge) (loc_of judge.sets.now) book → AreOwnNear judge
  own_are_near near = λ m.
      (λ i. tests_only (judge_rel judge m) (numbered (table i) (slice_get (numbers i) m)))
      ∙ own_at (judge_rel judge) book.table book.lines m (λ k line at. (near k line at).own)

  pub nodes_are_near : IsNearBook (judge_rel judge) (loc_of judge.sets.now) book → (m : ℕ) (line : Line) → slice_get book.lines m ≡ Some line → AreNear (judge_near judge m) (judge_table judge) line.body
  nodes_are_near near m line at = subst (λ T. AreNear (judge_near judge m) T line.body) (sym table) (near m line at).nodes

  pub judged_is : length book.lines ≡ length (judge_program judge).methods → AreShaped (judge_program judge) (judge_rel judge) book → (r : Result (Unit {0}) Wrong) → AreLinesJudged judge book r →
      IsBookVerdict (judge_program judge) (judge_rel judge) book r
  judged_is count shaped (Ok u) good = good_book count shaped good
  judged_is count shaped (Err fault) (inl unjudged) = unjudged_is fault unjudged
  judged_is count shaped (Err fault) (inr w) = wrong_line fault shaped w
