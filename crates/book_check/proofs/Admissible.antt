-- The trees of a good book's method lines are an admissible assignment.
use Rattle.std.proofs.Common.{if◌then◌else◌, ◌≡◌, ℕ, ◌<◌, ◌&&◌, true, List, length, Option, Some, None, slice_get, get_or, ◌≤◌, ◌⊎◌, inl, inr, refl, sym, ◌∙◌, ap, subst, arith}
use Rattle.std.proofs.lemmas.Option.{slice_get_within, slice_get_cases}
use Rattle.paths.specs.Paths.{PathData}
use Rattle.algebra.specs.HeldPaths.{Held, has_path}
use Rattle.core_program.specs.Core.{Program, Method}
use Rattle.conditions.specs.Conditions.{Cond, LeafC, TestC, value_of}
use Rattle.algebra.specs.declared.basic.Basic.TheVariants.{Const}
use Rattle.rules.specs.Effect.{effect}
use Rattle.rules.specs.Near.{MethodPaths, AreRelevant, AreFew, rel_of}
use Rattle.std.proofs.lemmas.Bool.{and_parts}
use Rattle.rules.specs.Rules.{IsSubset, AtMost, held_in, AreBodiesBelow, AreOverridesBelow, IsAdmissible, IsAccepted, declared_bound}
use Rattle.rules.proofs.BasicLemmas.{below_itself, below_chain}
use Rattle.books.specs.Derivations.{conclusion_number}
use Rattle.books.specs.Books.{Line, Book}
use Rattle.effects.specs.Parts.{StmtP}
use Rattle.book_check.specs.Conclusions.{table_value, tree_value}
use Rattle.book_check.specs.Good.{line_value, book_assignment, IsAntitoneValue, IsGoodBook}
use Rattle.book_check.specs.Conclusions.{tree_numbered, tests_only}
use Rattle.book_check.proofs.Above.{above}

-- the line of a method
pub line_of : (lines : List Line) (methods : List Method) (m : ℕ) (method : Method) → length lines ≡ length methods → slice_get methods m ≡ Some method →
    (line : Line) × (slice_get lines m ≡ Some line)
line_of lines methods m method count is = found (slice_get_cases lines m).1
  where
    found : ((x : Line) × (m < length lines) × (slice_get lines m ≡ Some x) × (get_or lines m x ≡ x)) ⊎ ((length lines ≤ m) × (slice_get lines m ≡ None)) →
        (line : Line) × (slice_get lines m ≡ Some line)
    found (inl f) = (f.0, f.2)
    found (inr past) = absurd (omega (arith, past.0, count, slice_get_within methods m method is))

-- what the line assigns
pub assigned_line : (book : Book) (m : ℕ) (line : Line) → slice_get book.lines m ≡ Some line → (H : Held) → book_assignment book m H ≡ table_value book.table line.number H
assigned_line book m line is H = ap (λ o. line_value book.table o H) is

pub cond_is : (o : Option Cond) (H : Held) → tree_value o H ≡ value_of (tree_numbered o) H
cond_is None H = refl
cond_is (Some t) H = refl

tree_falls : (o : Option Cond) → IsAntitoneValue (value_of (tree_numbered o)) → IsAntitoneValue (tree_value o)
tree_falls o falls = λ H K part. subst (λ z. AtMost z (tree_value o H)) (sym (cond_is o K)) (subst (λ z. AtMost (value_of (tree_numbered o) K) z) (sym (cond_is o H)) (falls H K part))

-- a tree that tests relevant paths alone looks at no others
pub looks_at : (rel : List PathData) (t : Cond) (H : Held) → tests_only rel t ≡ true → value_of t H ≡ value_of t (held_in rel H)
looks_at rel (LeafC b) H only = refl
looks_at rel (TestC p a b) H only =
    let here = and_parts (has_path rel p) (tests_only rel a && tests_only rel b) only in
    let below_it = and_parts (tests_only rel a) (tests_only rel b) here.1 in
    let held : H p ≡ (has_path rel p && H p) = ap (λ r. r && H p) (sym here.0) in
    let first = looks_at rel a H below_it.0 in
    let second = looks_at rel b H below_it.1 in
    λ i. if held i then first i else second i

module _ (P : Program) (rel : ℕ → List PathData) (book : Book) (good : IsGoodBook P rel book) where
  falling : (m : ℕ) (o : Option Method) (l : Option Line) → slice_get P.methods m ≡ o → slice_get book.lines m ≡ l → (H K : Held) → IsSubset H K →
      AtMost (line_value book.table l K) (line_value book.table l H)
  falling m o None is line H K part = below_itself Const
  falling m (Some method) (Some l) is line H K part =
      tree_falls (slice_get book.table l.number) (good.good m method l is line).tabled.falls H K part
  falling m None (Some l) is line H K part = absurd (past (slice_get_cases P.methods m).1)
    where
      past : ((x : Method) × (m < length P.methods) × (slice_get P.methods m ≡ Some x) × (get_or P.methods m x ≡ x)) ⊎ ((length P.methods ≤ m) × (slice_get P.methods m ≡ None)) → ⊥
      past (inl f) = let e : None ≡ Some f.0 = sym is ∙ f.2 in cc
      past (inr p) = omega (arith, p.0, good.count, slice_get_within book.lines m l line)

  -- what is assigned to a method rests on its relevant paths
  relevant_alone : (m : ℕ) (method : Method) → slice_get P.methods m ≡ Some method → (H : Held) → book_assignment book m H ≡ book_assignment book m (held_in (rel m) H)
  relevant_alone m method is H =
      let l = line_of book.lines P.methods m method good.count is in
      let tree = slice_get book.table l.0.number in
      assigned_line book m l.0 l.1 H ∙ cond_is tree H ∙ looks_at (rel m) (tree_numbered tree) H (good.good m method l.0 is l.1).tabled.relevant
      ∙ sym (cond_is tree (held_in (rel m) H)) ∙ sym (assigned_line book m l.0 l.1 (held_in (rel m) H))

  bodies_below : AreBodiesBelow P rel (book_assignment book)
  bodies_below m method is H within required =
      let l = line_of book.lines P.methods m method good.count is in
      let shaped = good.shaped m method l.0 is l.1 in
      let line = good.good m method l.0 is l.1 in
      below_chain (effect P rel (book_assignment book) method.body H) (table_value book.table (conclusion_number l.0.body) H) (book_assignment book m H)
      (above P rel (book_assignment book) (table_value book.table) (StmtP method.body) l.0.body shaped.fits line.stepped.steps H)
      (subst (λ z. AtMost (table_value book.table (conclusion_number l.0.body) H) z) (sym (assigned_line book m l.0 l.1 H)) (line.stepped.under H required))

  overrides_below : AreOverridesBelow P rel (book_assignment book)
  overrides_below m over method is o H within required =
      let l = line_of book.lines P.methods m method good.count is in
      subst (λ z. AtMost z (book_assignment book m H)) (relevant_alone over o.method o.is H)
      (subst (λ z. AtMost (book_assignment book over H) z) (sym (assigned_line book m l.0 l.1 H)) ((good.good m method l.0 is l.1).overrides over o H within required))

  pub book_admissible : IsAdmissible P rel (book_assignment book)
  book_admissible = record {
    falling = λ m H K within part. falling m (slice_get P.methods m) (slice_get book.lines m) refl refl H K part;
    closed = record { bodies = bodies_below; overrides = overrides_below };
    bounds = λ m method is.
        let l = line_of book.lines P.methods m method good.count is in
        subst (λ z. AtMost z (declared_bound method.annotated)) (sym (assigned_line book m l.0 l.1 (has_path method.requires_))) (good.good m method l.0 is l.1).bounded;
  }

-- a program with a good book is accepted
pub book_accepts : (P : Program) (sets : List MethodPaths) (book : Book) → AreRelevant P sets → AreFew sets → IsGoodBook P (rel_of sets) book → IsAccepted P
book_accepts P sets book relevant few good = record { sets = sets; relevant = relevant; few = few; assignment = book_assignment book; admissible = book_admissible P (rel_of sets) book good }
