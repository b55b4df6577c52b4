-- To set the finality of a field is to make it final, and to set it back leaves the fields as they were. To mark a number marks that alone.
use Rattle.std.proofs.Common.{◌≡◌, ◌≢◌, ℕ, zero, suc, ◌+◌, ◌<◌, ◌≤◌, ◌==◌, ◌||◌, Bool, true, false, List, [], ◌∷◌, ◌++◌, length, map, drop, get_or, Some, refl, ap, sym, ◌∙◌, arith, slice_get, slice_set}
use Rattle.std.proofs.Math.Bool.{or_assoc, or-false, or-true}
use Rattle.std.proofs.Math.ListN.{drop_of_length-le}
use Rattle.std.proofs.lemmas.Bool.{eq-eqb, eqb-false, eqb-true, ne_eqb}
use Rattle.std.proofs.lemmas.Option.{none-some, same_Some}
use Rattle.base.proofs.Lists.{next_drop}
use Rattle.core_program.specs.declared.program.CoreField.{CoreField}
use Rattle.core_program.specs.Core.{Field}
use Rattle.core_program.specs.Views.{field_of}
use Rattle.explain.specs.FinalFields.{final_from}
use Rattle.explain.specs.OneFinal.{has_mark, with_finality}

-- ---- marks

-- one more place has no mark
pub marked_more : (marks : List Bool) (f : ℕ) → has_mark (marks ++ false ∷ []) f ≡ has_mark marks f
marked_more [] zero = refl
marked_more [] (suc f) = refl
marked_more (b ∷ marks) zero = refl
marked_more (b ∷ marks) (suc f) = marked_more marks f

marked_here : (marks : List Bool) (n : ℕ) → n < length marks → has_mark (slice_set marks n true) n ≡ true
marked_here [] n below = absurd (omega (arith, below))
marked_here (b ∷ marks) zero below = refl
marked_here (b ∷ marks) (suc n) below = marked_here marks n (omega (arith, below))

marked_there : (marks : List Bool) (n f : ℕ) → n ≢ f → has_mark (slice_set marks n true) f ≡ has_mark marks f
marked_there [] n f other = refl
marked_there (b ∷ marks) zero zero other = absurd (other refl)
marked_there (b ∷ marks) zero (suc f) other = refl
marked_there (b ∷ marks) (suc n) zero other = refl
marked_there (b ∷ marks) (suc n) (suc f) other = marked_there marks n f (λ (e : n ≡ f). other (ap suc e))

-- a place that is marked
pub marked_at : (marks : List Bool) (n f : ℕ) → n < length marks → has_mark (slice_set marks n true) f ≡ (has_mark marks f || (n == f))
marked_at marks n f below =
    by (n == f) refl
  where
    by : (b : Bool) → (n == f) ≡ b → has_mark (slice_set marks n true) f ≡ (has_mark marks f || b)
    by true e = ap (has_mark (slice_set marks n true)) (sym (eqb-true n f e)) ∙ marked_here marks n below ∙ sym (or-true (has_mark marks f))
    by false e = marked_there marks n f (eqb-false n f e) ∙ sym (or-false (has_mark marks f))

module _ {X : Type 0} (any : List X → Bool) where
  -- the marks so far, with those of one more and of all that are left, are still the same
  pub marked_next : (test : X → Bool) → ((x : X) (xs : List X) → any (x ∷ xs) ≡ (test x || any xs)) → (xs : List X) (i : ℕ) (x : X) (old : Bool) {now all : Bool} → i < length xs → x ≡ get_or xs i x
      → now ≡ (old || test x) → (old || any (drop i xs)) ≡ all → (now || any (drop (i + 1) xs)) ≡ all
  marked_next test step xs i x old below is marked so_far =
      let rest = any (drop (i + 1) xs) in
      ap (λ b. b || rest) marked ∙ or_assoc old (test x) rest ∙ ap (λ b. old || b) (sym (ap any (next_drop xs i x below is) ∙ step x (drop (i + 1) xs))) ∙ so_far

  -- where none is left, they are those of all
  pub marked_all : any [] ≡ false → (xs : List X) (i : ℕ) {old all : Bool} → length xs ≤ i → (old || any (drop i xs)) ≡ all → old ≡ all
  marked_all none xs i {old} past so_far = sym (or-false old) ∙ ap (λ b. old || b) (sym (ap any (drop_of_length-le xs past) ∙ none)) ∙ so_far

-- ---- fields

-- a field in memory gets another finality
pub finality_set : (fields : List CoreField) (k : ℕ) (b : Bool) (row : CoreField) → ((was : CoreField) → slice_get fields k ≡ Some was → field_of row ≡ record (field_of was) { is_final = b })
    → map field_of (slice_set fields k row) ≡ with_finality k b (map field_of fields)
finality_set [] k b row is = refl
finality_set (x ∷ xs) zero b row is = λ i. is x refl i ∷ map field_of xs
finality_set (x ∷ xs) (suc k) b row is = λ i. field_of x ∷ finality_set xs k b row is i

-- what the finality of a field in memory is
pub finality_read : (fields : List CoreField) (k : ℕ) (d : CoreField) (x : Field) → slice_get (map field_of fields) k ≡ Some x → x.is_final ≡ (get_or fields k d).is_final
finality_read [] k d x is = absurd (none-some x is)
finality_read (y ∷ ys) zero d x is = ap (λ (z : Field). z.is_final) (sym (same_Some (field_of y) x is))
finality_read (y ∷ ys) (suc k) d x is = finality_read ys k d x is

-- there is no such field
pub finality_past : (fields : List Field) (k : ℕ) (b : Bool) → length fields ≤ k → with_finality k b fields ≡ fields
finality_past [] k b past = refl
finality_past (x ∷ xs) zero b past = absurd (omega (arith, past))
finality_past (x ∷ xs) (suc k) b past = λ i. x ∷ finality_past xs k b (omega (arith, past)) i

-- a field is what it was again
pub finality_back : (fields : List Field) (k : ℕ) (b was : Bool) → ((x : Field) → slice_get fields k ≡ Some x → x.is_final ≡ was) → with_finality k was (with_finality k b fields) ≡ fields
finality_back [] k b was is = refl
finality_back (x ∷ xs) zero b was is = λ i. record x { is_final = sym (is x refl) i } ∷ xs
finality_back (x ∷ xs) (suc k) b was is = λ i. x ∷ finality_back xs k b was is i

stays : (b here : Bool) → here ≡ false → b ≡ (b || here)
stays true here e = refl
stays false here e = sym e

is_made : (b here : Bool) → here ≡ true → true ≡ (b || here)
is_made true here e = refl
is_made false here e = sym e

behind_final : (n f : ℕ) → f < n → (fields : List Field) → fields ≡ final_from n f fields
behind_final n f behind [] = refl
behind_final n f behind (x ∷ xs) =
    let here : (n == f) ≡ false = ne_eqb n f (λ (e : n ≡ f). omega (arith, behind, e)) in
    λ i. record x { is_final = stays x.is_final (n == f) here i } ∷ behind_final (n + 1) f (omega (arith, behind)) xs i

-- to set its finality is to make it final
pub finality_final : (n k f : ℕ) → f ≡ n + k → (fields : List Field) → with_finality k true fields ≡ final_from n f fields
finality_final n k f at [] = refl
finality_final n zero f at (x ∷ xs) =
    let here : (n == f) ≡ true = eq-eqb n f (omega (arith, at)) in
    λ i. record x { is_final = is_made x.is_final (n == f) here i } ∷ behind_final (n + 1) f (omega (arith, at)) xs i
finality_final n (suc k) f at (x ∷ xs) =
    let here : (n == f) ≡ false = ne_eqb n f (λ (e : n ≡ f). omega (arith, at, e)) in
    λ i. record x { is_final = stays x.is_final (n == f) here i } ∷ finality_final (n + 1) k f (omega (arith, at)) xs i
