-- Places of derivations one by one, and programs of one method.
use Rattle.std.proofs.Common.{◌≡◌, ℕ, zero, suc, ◌<◌, Bool, List, [], ◌∷◌, take, Some, refl, subst, arith}
use Rattle.std.specs.Prelude.{slice_get}
use Rattle.std.specs.List.{AllByRecursion}
use Rattle.std.proofs.lemmas.Option.{none-some, same_Some}
use Rattle.paths.specs.Paths.{PathData}
use Rattle.core_program.specs.Core.{Method, Stmt}
use Rattle.core_program.specs.Dispatch.{Overrides}
use Rattle.core_program.specs.Examples.{plain_method}
use Rattle.books.specs.Books.{Line}
use Rattle.book_check.specs.Conclusions.{table_value}
use Rattle.effects.specs.Parts.{StmtP}
use Rattle.book_check.specs.Parts.{PlacedNode, places, FitsPart, Each}
use Rattle.book_check.specs.Good.{book_assignment, IsStep, IsShaped, IsGoodLine, IsGoodBook}
use Rattle.book_check.specs.Faults.{AreShaped}
use Rattle.text_examples.specs.Small.{main_with, trees, book}

pub each_of : (Good : PlacedNode → Type 0) (xs : List PlacedNode) → AllByRecursion Good xs → Each Good xs
each_of Good [] all k x at = absurd (none-some x at)
each_of Good (y ∷ ys) all zero x at = subst Good (same_Some y x at) all.0
each_of Good (y ∷ ys) all (suc k) x at = each_of Good ys all.1 k x at

pub before_of : (Good : PlacedNode → Type 0) (n : ℕ) (xs : List PlacedNode) → AllByRecursion Good (take n xs) → (j : ℕ) (x : PlacedNode) → j < n → slice_get xs j ≡ Some x → Good x
before_of Good zero xs all j x less at = absurd (omega arith)
before_of Good (suc n) [] all j x less at = absurd (none-some x at)
before_of Good (suc n) (y ∷ ys) all zero x less at = subst Good (same_Some y x at) all.0
before_of Good (suc n) (y ∷ ys) all (suc j) x less at = before_of Good n ys all.1 j x (omega arith) at

module _ (annotated : Bool) (body : Stmt) where
  abbrev pub its_main : Method
  its_main = plain_method 0 41 annotated body

  pub none_over : (over : ℕ) → Overrides (main_with annotated body) over 0 → ⊥
  none_over zero o = o.differs refl
  none_over (suc k) o = absurd (none-some o.method o.is)

  -- what each place of its one line keeps
  pub its_fits : (l : Line) → AllByRecursion FitsPart (places (StmtP body) l.body) → Each FitsPart (places (StmtP body) l.body)
  its_fits l all = each_of FitsPart (places (StmtP body) l.body) all

  abbrev pub ItsStep : (rel : ℕ → List PathData) → Line → PlacedNode → Type 0
  ItsStep rel l = IsStep (main_with annotated body) rel (table_value trees) (book_assignment (book (l ∷ [])))

  pub its_steps : (rel : ℕ → List PathData) (l : Line) → AllByRecursion (ItsStep rel l) (places (StmtP body) l.body) → Each (ItsStep rel l) (places (StmtP body) l.body)
  its_steps rel l all = each_of (ItsStep rel l) (places (StmtP body) l.body) all

  -- its one line is of its shape
  pub shaped_alone : (rel : ℕ → List PathData) (l : Line) → IsShaped 0 its_main l → AreShaped (main_with annotated body) rel (book (l ∷ []))
  shaped_alone rel l shaped zero = shaped
  shaped_alone rel l shaped (suc k) = tt

  pub good_alone : (rel : ℕ → List PathData) (l : Line) → IsShaped 0 its_main l → IsGoodLine (main_with annotated body) rel trees (book_assignment (book (l ∷ []))) 0 its_main l
      → IsGoodBook (main_with annotated body) rel (book (l ∷ []))
  good_alone rel l shaped good = record { count = refl; shaped = shaped_at; good = good_at }
    where
      shaped_at : (m : ℕ) (method : Method) (line : Line) → slice_get (main_with annotated body).methods m ≡ Some method → slice_get (l ∷ []) m ≡ Some line → IsShaped m method line
      shaped_at zero method line e f = subst (IsShaped 0 method) (same_Some l line f) (subst (λ x. IsShaped 0 x l) (same_Some its_main method e) shaped)
      shaped_at (suc m) method line e f = absurd (none-some line f)

      good_at : (m : ℕ) (method : Method) (line : Line) → slice_get (main_with annotated body).methods m ≡ Some method → slice_get (l ∷ []) m ≡ Some line
          → IsGoodLine (main_with annotated body) rel trees (book_assignment (book (l ∷ []))) m method line
      good_at zero method line e f = subst (IsGoodLine (main_with annotated body) rel trees (book_assignment (book (l ∷ []))) 0 method) (same_Some l line f)
          (subst (λ x. IsGoodLine (main_with annotated body) rel trees (book_assignment (book (l ∷ []))) 0 x l) (same_Some its_main method e) good)
      good_at (suc m) method line e f = absurd (none-some line f)
