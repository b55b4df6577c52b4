-- A walk goes on by a step, and is read a step at a time.
use Rattle.std.proofs.Common.{◌≡◌, ℕ, suc, ◌+◌, List, [], ◌∷◌, ◌++◌, drop, Option, Some, None, slice_get, sym, ap, ◌∙◌, subst, arith, append_assoc, append-nil}
use Rattle.std.proofs.lemmas.Option.{get_or_from_slice_get, slice_get_within}
use Rattle.std.proofs.Math.Seq.{drop-cons}
use Rattle.forest.specs.declared.steps.Step.{Step}
use Rattle.forest.specs.Walks.{BeginsAt, Leads, after}

-- ---- a walk goes on

-- whatever leads on from this place leads on, behind these steps, from above all roots
abbrev pub LeadHere : List (Option ℕ) → List Step → Option ℕ → Type 0
LeadHere above steps at = (rest : List Step) → Leads above at rest → Leads above None (steps ++ rest)

-- no step yet
pub lead_none : (above : List (Option ℕ)) (steps : List Step) → steps ≡ [] → LeadHere above steps None
lead_none above steps is = subst (λ xs. LeadHere above xs None) (sym is) (λ rest leads. leads)

-- one step more
pub lead_on : (above : List (Option ℕ)) (steps more : List Step) (at to : Option ℕ) (step : Step) → more ≡ steps ++ step ∷ [] → to ≡ after above step
    → LeadHere above steps at → BeginsAt above at step → LeadHere above more to
lead_on above steps more at to step is leads_to before begins =
    subst (λ place. LeadHere above more place) (sym leads_to) (subst (λ xs. LeadHere above xs (after above step)) (sym is)
    (λ rest leads. subst (Leads above None) (sym (append_assoc steps (step ∷ []) rest)) (before (step ∷ rest) (begins, leads))))

-- all steps
pub lead_all : (above : List (Option ℕ)) (steps : List Step) (at : Option ℕ) → LeadHere above steps at → Leads above None steps
lead_all above steps at here = subst (Leads above None) (append-nil steps) (here [] tt)

-- ---- a walk is read

-- from a place on there are what stands there, and what is behind it
drop_read : (steps : List Step) (i : ℕ) (step : Step) → slice_get steps i ≡ Some step → drop i steps ≡ step ∷ drop (i + 1) steps
drop_read steps i step is =
    let n : suc i ≡ i + 1 = omega arith in
    drop-cons steps i step (slice_get_within steps i step is) ∙ ap (λ (x : Step). x ∷ drop (suc i) steps) (get_or_from_slice_get steps i step step is) ∙ ap (λ k. step ∷ drop k steps) n

-- the step at a place begins where the steps from there on do, and those behind it lead on from where it leads to
pub next_step : (above : List (Option ℕ)) (at : Option ℕ) (steps : List Step) (i : ℕ) (step : Step) → slice_get steps i ≡ Some step → Leads above at (drop i steps)
    → BeginsAt above at step × Leads above (after above step) (drop (i + 1) steps)
next_step above at steps i step is leads = subst (Leads above at) (drop_read steps i step is) leads
