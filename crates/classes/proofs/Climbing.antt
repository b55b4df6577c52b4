-- Going up from a class, one step after the other.
use Rattle.std.proofs.Common.{◌≡◌, ℕ, ◌<◌, ◌-◌, zero, suc, List, [], ◌∷◌, ◌++◌, Option, Some, ap, sym, ◌∙◌, arith, append_assoc}
use Rattle.classes.specs.Lines.{ancestors}

pub next_ancestor : (step : ℕ → Option ℕ) (n c : ℕ) → 0 < n → ancestors step n (Some c) ≡ c ∷ ancestors step (n - 1) (step c)
next_ancestor step zero c some = absurd (omega (arith, some))
next_ancestor step (suc n) c some = let less : n ≡ suc n - 1 = omega arith in ap (λ m. c ∷ ancestors step m (step c)) less

-- a list that grows by an ancestor
pub list_later : (step : ℕ → Option ℕ) (n c : ℕ) (before after all : List ℕ) → 0 < n → before ++ ancestors step n (Some c) ≡ all → after ≡ before ++ c ∷ []
    → after ++ ancestors step (n - 1) (step c) ≡ all
list_later step n c before after all some so_far longer =
    ap (λ z. z ++ ancestors step (n - 1) (step c)) longer
    ∙ append_assoc before (c ∷ []) (ancestors step (n - 1) (step c))
    ∙ ap (λ z. before ++ z) (sym (next_ancestor step n c some))
    ∙ so_far
