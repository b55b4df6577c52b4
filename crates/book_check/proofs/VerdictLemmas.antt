-- What the two passes find.
use Rattle.std.proofs.Common.{◌≡◌, ◌≢◌, ℕ, inl, inr, List, [], ◌∷◌, Some, None, Ok, Err, refl, sym, ◌∙◌, subst, arith}
use Rattle.paths.specs.Paths.{PathData}
use Rattle.conditions.specs.Conditions.{Cond}
use Rattle.core_program.specs.Core.{Program, Method}
use Rattle.rules.specs.Effect.{Assignment}
use Rattle.books.specs.Books.{Line}
use Rattle.book_check.specs.declared.wrong.Wrong.{Wrong}
use Rattle.book_check.specs.declared.wrong.Wrong.TheVariants as wrong
use Rattle.book_check.specs.declared.walk.End.TheVariants.{Good, Bad}
use Rattle.effects.specs.Parts.{StmtP}
use Rattle.book_check.specs.Parts.{PlacedNode, places, FitsPart, IsLeastBad}
use Rattle.book_check.specs.Walks.{IsWalkEnd}
use Rattle.book_check.specs.declared.judge.Judge.{Judge}
use Rattle.book_check.specs.Judges.{judge_assignment, judge_program, judge_rel, judge_table}
use Rattle.book_check.specs.declared.refusal.Refusal.{Refusal}
use Rattle.book_check.specs.declared.refusal.Refusal.TheVariants as refusal
use Rattle.book_check.specs.Faults.{IsLineVerdict, unjudged_by}
use Rattle.book_check.specs.Passes.{IsShapeStep, IsLineStep}

pub bad_from : (G : PlacedNode → Type 0) (xs : List PlacedNode) (n : ℕ) → IsWalkEnd G xs 0 (Bad n) → IsLeastBad G xs n
bad_from G xs n end = let same : end.0 ≡ n = omega (arith, end.1) in subst (λ k. IsLeastBad G xs k) same end.2

module _ {S : Type 0} (view : S → List Line) (m : ℕ) (method : Method) (lines behind : List Line) (line : Line) where
  pub shape_none : lines ≡ [] → IsShapeStep view m method lines (Err (wrong.Shape m 0))
  shape_none e = subst (λ ls. IsShapeStep view m method ls (Err (wrong.Shape m 0))) (sym e) (refl, refl)

  pub shape_other : lines ≡ line ∷ behind → (line.id ≡ m → ⊥) → IsShapeStep view m method lines (Err (wrong.Shape m 0))
  shape_other e other = subst (λ ls. IsShapeStep view m method ls (Err (wrong.Shape m 0))) (sym e) (refl, inl (other, refl))

  pub shape_good : (x : ℕ × S) (n : ℕ) → lines ≡ line ∷ view x.1 → x.0 ≡ line.number → line.id ≡ m → IsWalkEnd FitsPart (places (StmtP method.body) line.body) 0 (Good n) → IsShapeStep view m method lines (Ok x)
  shape_good x n e number own end = subst (λ ls. IsShapeStep view m method ls (Ok x)) (sym e) (number, record { id = own; fits = end.0 }, refl)

  pub shape_bad : (n : ℕ) → lines ≡ line ∷ behind → line.id ≡ m → IsWalkEnd FitsPart (places (StmtP method.body) line.body) 0 (Bad n) → IsShapeStep view m method lines (Err (wrong.Shape m n))
  shape_bad n e own end = subst (λ ls. IsShapeStep view m method ls (Err (wrong.Shape m n))) (sym e) (refl, inr (own, bad_from FitsPart (places (StmtP method.body) line.body) n end))

pub shape_unjudged : {S : Type 0} (view : S → List Line) (m : ℕ) (method : Method) (lines : List Line) (why : Refusal) → IsShapeStep view m method lines (Err (unjudged_by why))
shape_unjudged view m method [] refusal.NoMemory = tt
shape_unjudged view m method [] refusal.Work = tt
shape_unjudged view m method (line ∷ lines) refusal.NoMemory = tt
shape_unjudged view m method (line ∷ lines) refusal.Work = tt

-- what is wrong with a line is no bound of work
pub no_bound : (P : Program) (rel : ℕ → List PathData) (table : List Cond) (A : Assignment) (m : ℕ) (method : Method) (line : Line) (w : Wrong) → IsLineVerdict P rel table A m method line (Some w) → w ≢ wrong.Work
no_bound P rel table A m method line (wrong.Shape k n) v = λ e. absurd v
no_bound P rel table A m method line (wrong.Table k) v = λ e. absurd (cc)
no_bound P rel table A m method line (wrong.Step k n) v = λ e. absurd (cc)
no_bound P rel table A m method line (wrong.Override k) v = λ e. absurd (cc)
no_bound P rel table A m method line (wrong.Bound k) v = λ e. absurd (cc)
no_bound P rel table A m method line wrong.Memory v = λ e. absurd v
no_bound P rel table A m method line wrong.Work v = λ e. absurd v

-- neither is want of memory
pub memory_no_bound : (why : Refusal) (fault : Wrong) → fault ≡ unjudged_by why → why ≡ refusal.NoMemory → fault ≢ wrong.Work
memory_no_bound refusal.NoMemory fault is memory = λ e. absurd (let no : wrong.Memory ≡ wrong.Work = sym is ∙ e in cc)
memory_no_bound refusal.Work fault is memory = absurd (cc)

module _ {S : Type 0} (view : S → List Line) (judge : Judge) (m : ℕ) (method : Method) (lines : List Line) where
  pub verdict_unjudged : (why : Refusal) → IsLineStep view judge m method lines (Err (unjudged_by why))
  verdict_unjudged why = chosen lines why
    where
      chosen : (ls : List Line) (why : Refusal) → IsLineStep view judge m method ls (Err (unjudged_by why))
      chosen [] refusal.NoMemory = tt
      chosen [] refusal.Work = tt
      chosen (line ∷ ls) refusal.NoMemory = inl tt
      chosen (line ∷ ls) refusal.Work = inl tt

  pub verdict_wrong : (behind : List Line) (line : Line) (fault : Wrong) → lines ≡ line ∷ behind →
      IsLineVerdict (judge_program judge) (judge_rel judge) (judge_table judge) (judge_assignment judge) m method line (Some fault) → IsLineStep view judge m method lines (Err fault)
  verdict_wrong behind line fault e verdict = subst (λ ls. IsLineStep view judge m method ls (Err fault)) (sym e) (inr verdict)

  pub verdict_good : (line : Line) (x : S) → lines ≡ line ∷ view x →
      IsLineVerdict (judge_program judge) (judge_rel judge) (judge_table judge) (judge_assignment judge) m method line None → IsLineStep view judge m method lines (Ok x)
  verdict_good line x e verdict = subst (λ ls. IsLineStep view judge m method ls (Ok x)) (sym e) (verdict, refl)
