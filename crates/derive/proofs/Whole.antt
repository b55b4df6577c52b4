-- The lines of all methods over a pool are the derived book, which is good where the assignment keeps the rules.
use Rattle.std.proofs.Common.{◌≡◌, ℕ, zero, suc, ◌<◌, ◌≤◌, ◌^◌, ◌&&◌, ◌⊎◌, inl, inr, Bool, true, false, List, [], ◌∷◌, length, Some, None, slice_get, get_or, if◌then◌else◌, refl, sym, ◌∙◌, ap, subst, arith}
use Rattle.std.proofs.lemmas.Option.{slice_get_within, slice_get_cases}
use Rattle.paths.specs.Paths.{PathData, path_eq}
use Rattle.paths.proofs.PathOrder.{eq_is}
use Rattle.algebra.specs.HeldPaths.{Held, has_path}
use Rattle.core_program.specs.Core.{Program, Method}
use Rattle.core_program.specs.Typed.{IsTyped}
use Rattle.conditions.specs.Conditions.{Cond, LeafC, TestC, value_of, IsCanonical}
use Rattle.conditions.proofs.PathLemmas.{put}
use Rattle.conditions.proofs.NodeLemmas.{Parts, parts-test, parts-high, parts-low}
use Rattle.conditions.proofs.SameValues.{unique}
use Rattle.rules.specs.Effect.{effect}
use Rattle.rules.specs.Rules.{IsSubset, AtMost, declared_bound}
use Rattle.rules.proofs.Falling.{closed_above}
use Rattle.rules.proofs.BasicLemmas.{below_itself}
use Rattle.books.specs.Derivations.{conclusion_number}
use Rattle.books.specs.Books.{Line, Book, IsBook, IsMethodLine, AreMethodLines, AreTrees}
use Rattle.effects.specs.Parts.{StmtP}
use Rattle.book_check.specs.Parts.{places, Each}
use Rattle.book_check.specs.Conclusions.{tree_value, table_value}
use Rattle.book_check.specs.Good.{line_value, book_assignment, IsAntitoneValue, ConcludesExactly, IsTabled, IsGoodLine, IsGoodBook}
use Rattle.book_check.specs.Conclusions.{tree_numbered, tests_only}
use Rattle.derive.specs.Derived.{AreDistinct, IsDerived, KeepsRules}
use Rattle.derive.specs.Bases.{trees_assign}
use Rattle.derive.specs.Lines.{AreLinesOf}
use Rattle.derive.proofs.ConcludeLemmas.{some_at, numbered, each_fits, each_exact, effect_is}
use Rattle.derive.proofs.PartSizes.{node_lower}

past : {A : Type 0} (xs : List A) (n : ℕ) → length xs ≤ n → slice_get xs n ≡ None
past [] n above = refl
past (x ∷ xs) zero above = absurd (omega (arith, above))
past (x ∷ xs) (suc n) above = past xs n (omega (arith, above))

-- a tree that looks at some paths alone tests these alone
abbrev pub cut : List PathData → Held → Held
cut rel H q = has_path rel q && H q

module _ (rel : List PathData) (p : PathData) where
  if_cut : (v : Bool) (b r h : Bool) → (b ≡ true → r ≡ true) → (if b then v else (r && h)) ≡ (r && (if b then v else h))
  if_cut v true r h there = rw (there refl) refl
  if_cut v false r h there = refl

  if_gone : (b r h : Bool) → (b ≡ true → r ≡ false) → (r && (if b then true else h)) ≡ (r && (if b then false else h))
  if_gone true r h gone = rw (gone refl) refl
  if_gone false r h gone = refl

  put_cut : (v : Bool) (H : Held) → has_path rel p ≡ true → put p v (cut rel H) ≡ cut rel (put p v H)
  put_cut v H there = λ i q. if_cut v (path_eq p q) (has_path rel q) (H q) (λ e. subst (λ z. has_path rel z ≡ true) (eq_is p q e) there) i

  put_gone : (H : Held) → has_path rel p ≡ false → cut rel (put p true H) ≡ cut rel (put p false H)
  put_gone H gone = λ i q. if_gone (path_eq p q) (has_path rel q) (H q) (λ e. subst (λ z. has_path rel z ≡ false) (eq_is p q e) gone) i

module _ (rel : List PathData) where
  abbrev LooksAt : Cond → Type 0
  LooksAt t = (H : Held) → value_of t H ≡ value_of t (cut rel H)

  module _ (p : PathData) (a b : Cond) (is : IsCanonical (TestC p a b)) (looks : LooksAt (TestC p a b)) where
    parts : Parts p (TestC p a b) a b
    parts = parts-test p a b is

    -- a test on another path would have equal branches
    gone : has_path rel p ≡ false → a ≡ b
    gone e = unique a b is.a_is is.b_is (λ H. sym (parts-high p (TestC p a b) a b parts H) ∙ looks (put p true H) ∙ ap (value_of (TestC p a b)) (put_gone rel p H e)
        ∙ sym (looks (put p false H)) ∙ parts-low p (TestC p a b) a b parts H)

    first : has_path rel p ≡ true → LooksAt a
    first e H = sym (parts-high p (TestC p a b) a b parts H) ∙ looks (put p true H) ∙ ap (value_of (TestC p a b)) (sym (put_cut rel p true H e)) ∙ parts-high p (TestC p a b) a b parts (cut rel H)

    second : has_path rel p ≡ true → LooksAt b
    second e H = sym (parts-low p (TestC p a b) a b parts H) ∙ looks (put p false H) ∙ ap (value_of (TestC p a b)) (sym (put_cut rel p false H e)) ∙ parts-low p (TestC p a b) a b parts (cut rel H)

  all_true : (r x y : Bool) → (r ≡ false → ⊥) → (r ≡ true → x ≡ true) → (r ≡ true → y ≡ true) → (r && (x && y)) ≡ true
  all_true true x y never one other = rw (one refl, other refl) refl
  all_true false x y never one other = absurd (never refl)

  pub only_tests : (t : Cond) → IsCanonical t → LooksAt t → tests_only rel t ≡ true
  only_tests (LeafC b) is looks = refl
  only_tests (TestC p a b) is looks =
      all_true (has_path rel p) (tests_only rel a) (tests_only rel b) (λ e. is.differ (gone p a b is looks e))
      (λ e. only_tests a is.a_is (first p a b is looks e)) (λ e. only_tests b is.b_is (second p a b is looks e))

module _ (P : Program) (rel : ℕ → List PathData) (trees table : List Cond) (lines : List Line) (made : AreLinesOf P rel trees (length P.methods) table lines) (count : length trees ≡ length P.methods) where
  abbrev book : Book
  book = record { table = table; lines = lines }

  method_at : (m : ℕ) (line : Line) → slice_get lines m ≡ Some line → (method : Method) × (slice_get P.methods m ≡ Some method)
  method_at m line at = some_at P.methods m (let c = made.count_is in omega (arith, slice_get_within lines m line at, c))

  one_assigned : (m : ℕ) (H : Held) → line_value table (slice_get lines m) H ≡ tree_value (slice_get trees m) H
  one_assigned m H = chosen (slice_get_cases lines m).1
    where
      chosen : ((x : Line) × (m < length lines) × (slice_get lines m ≡ Some x) × (get_or lines m x ≡ x)) ⊎ ((length lines ≤ m) × (slice_get lines m ≡ None)) →
          line_value table (slice_get lines m) H ≡ tree_value (slice_get trees m) H
      chosen (inl f) =
          let method = method_at m f.0 f.2 in
          ap (λ o. line_value table o H) f.2 ∙ ap (λ o. tree_value o H) (made.each m method.0 f.0 method.1 f.2).own
      chosen (inr p) = ap (λ o. line_value table o H) p.1 ∙ ap (λ o. tree_value o H) (sym (past trees m (let c = made.count_is in omega (arith, p.0, c, count))))

  assigned_same : trees_assign trees ≡ book_assignment book
  assigned_same = λ i m H. sym (one_assigned m H) i

  pub derived : AreDistinct table → IsDerived P rel trees book
  derived distinct = record {
    count = made.count_is;
    shaped = λ m method line is at. let l = made.each m method line is at in record { id = l.id; fits = each_fits P rel (trees_assign trees) table (StmtP method.body) line.body l.concludes };
    own = λ m line at. let method = method_at m line at in (made.each m method.0 line method.1 at).own;
    exact = λ m method line is at. subst (λ A. Each (ConcludesExactly P rel (table_value table) A) (places (StmtP method.body) line.body)) assigned_same
        (each_exact P rel (trees_assign trees) table (StmtP method.body) line.body (made.each m method line is at).concludes);
    distinct = distinct;
    in_order = made.in_order;
  }

  -- it can be written
  all_lines : (ls : List Line) → ((m : ℕ) (line : Line) → slice_get ls m ≡ Some line → IsMethodLine (length table) line) → AreMethodLines (length table) ls
  all_lines [] each = tt
  all_lines (line ∷ ls) each = (each 0 line refl, all_lines ls (λ m l at. each (suc m) l at))

  pub written : IsTyped P → length P.methods ≤ 2 ^ 32 → length table < 2 ^ 32 → AreTrees table → IsBook book
  written typed few size are = record {
    few = size;
    trees = are;
    lines = all_lines lines (λ m line at.
        let method = method_at m line at in
        let l = made.each m method.0 line method.1 at in
        let same = l.id in
        record {
          id = omega (arith, same, few, slice_get_within P.methods m method.0 method.1);
          number = l.within;
          numbered = numbered P rel (trees_assign trees) table (StmtP method.0.body) line.body l.concludes;
          high = let low = (typed.methods m method.0 method.1).low in omega (arith, low, node_lower P rel (trees_assign trees) table (StmtP method.0.body) line.body l.concludes);
        });
  }

  -- it is good
  module _ (required : (m : ℕ) (method : Method) → slice_get P.methods m ≡ Some method → IsSubset (has_path method.requires_) (has_path (rel m)))
      (canonical : (m : ℕ) (t : Cond) → slice_get trees m ≡ Some t → IsCanonical t) (keeps : KeepsRules P rel (trees_assign trees)) where
    both : (a b : Bool) → a ≡ true → b ≡ true → (a && b) ≡ true
    both a b e f = rw (e, f) refl

    first_true : (a b : Bool) → (a && b) ≡ true → a ≡ true
    first_true true b e = refl
    first_true false b e = absurd (let no_truth : false ≡ true = e in cc)

    second_true : (a b : Bool) → (a && b) ≡ true → b ≡ true
    second_true true b e = e
    second_true false b e = absurd (let no_truth : false ≡ true = e in cc)

    abbrev near : ℕ → Held → Held
    near m H q = has_path (rel m) q && H q

    within : (m : ℕ) (H : Held) → IsSubset (near m H) (has_path (rel m))
    within m H q e = first_true (has_path (rel m) q) (H q) e

    part : (m : ℕ) (H : Held) → IsSubset (near m H) H
    part m H q e = second_true (has_path (rel m) q) (H q) e

    smaller : (m : ℕ) (H K : Held) → IsSubset H K → IsSubset (near m H) (near m K)
    smaller m H K p q e = both (has_path (rel m) q) (K q) (within m H q e) (p q (part m H q e))

    falls : (m : ℕ) → IsAntitoneValue (trees_assign trees m)
    falls m H K p =
        subst (λ z. AtMost z (trees_assign trees m H)) (sym (keeps.relevant m K))
        (subst (λ z. AtMost (trees_assign trees m (near m K)) z) (sym (keeps.relevant m H)) (keeps.falling m (near m H) (near m K) (within m K) (smaller m H K p)))

    under : (m : ℕ) (method : Method) → slice_get P.methods m ≡ Some method → (H : Held) → IsSubset (has_path method.requires_) H → AtMost (effect P rel (trees_assign trees) method.body H) (trees_assign trees m H)
    under m method is H p =
        subst (λ z. AtMost (effect P rel (trees_assign trees) method.body H) z) (sym (keeps.relevant m H))
        (closed_above P rel (trees_assign trees) keeps.falling keeps.closed m method is (near m H) H (within m H)
        (λ q e. both (has_path (rel m) q) (H q) (required m method is q e) (p q e)) (part m H))

    -- the tree of a line
    tree_at_line : (m : ℕ) (method : Method) (line : Line) → slice_get P.methods m ≡ Some method → slice_get lines m ≡ Some line → (t : Cond) × (slice_get trees m ≡ Some t) × (slice_get table line.number ≡ Some t)
    tree_at_line m method line is at =
        let l = made.each m method line is at in
        let t = some_at table line.number l.within in
        (t.0, sym l.own ∙ t.1, t.1)

    good_line : (m : ℕ) (method : Method) (line : Line) → slice_get P.methods m ≡ Some method → slice_get lines m ≡ Some line → IsGoodLine P rel table (trees_assign trees) m method line
    good_line m method line is at =
        let l = made.each m method line is at in
        let t = tree_at_line m method line is at in
        let value : (H : Held) → trees_assign trees m H ≡ value_of t.0 H = λ H. ap (λ o. tree_value o H) t.1 in
        let own : (H : Held) → table_value table line.number H ≡ trees_assign trees m H = λ H. ap (λ o. tree_value o H) l.own in
        record {
          tabled = subst (IsTabled (rel m)) (ap tree_numbered (sym t.2)) (record {
            relevant = only_tests (rel m) t.0 (canonical m t.0 t.1) (λ H. sym (value H) ∙ keeps.relevant m H ∙ value (near m H));
            falls = λ H K p. subst (λ z. AtMost z (value_of t.0 H)) (value K) (subst (λ z. AtMost (trees_assign trees m K) z) (value H) (falls m H K p));
          });
          stepped = record {
            under = λ H p. subst (λ z. AtMost z (table_value table line.number H)) (sym (effect_is P rel (trees_assign trees) table (StmtP method.body) line.body l.concludes H))
                (subst (λ z. AtMost (effect P rel (trees_assign trees) method.body H) z) (sym (own H)) (under m method is H p));
            steps = λ k x there. λ H. let e = each_exact P rel (trees_assign trees) table (StmtP method.body) line.body l.concludes k x there H in
                subst (λ z. AtMost z (table_value table (conclusion_number x.at) H)) e (below_itself (table_value table (conclusion_number x.at) H));
          };
          overrides = λ over o H inside p. subst (λ z. AtMost (trees_assign trees over H) z) (sym (own H))
              (subst (λ z. AtMost z (trees_assign trees m H)) (sym (keeps.relevant over H)) (keeps.closed.overrides m over method is o H inside p));
          bounded = subst (λ z. AtMost z (declared_bound method.annotated)) (sym (own (has_path method.requires_))) (keeps.bounds m method is);
        }

    pub good : IsGoodBook P rel book
    good = record {
      count = made.count_is;
      shaped = λ m method line is at. let l = made.each m method line is at in record { id = l.id; fits = each_fits P rel (trees_assign trees) table (StmtP method.body) line.body l.concludes };
      good = λ m method line is at. subst (λ A. IsGoodLine P rel table A m method line) assigned_same (good_line m method line is at);
    }
