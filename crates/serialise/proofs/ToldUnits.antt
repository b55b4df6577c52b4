-- Whether a unit commits is told by the step at its commit place.
use Rattle.std.proofs.Common.{◌≡◌, ℕ, ◌+◌, ◌≤◌, Bool, true, false, not, ◌||◌, ◌&&◌, ◌==◌, List, [], ◌∷◌, refl, sym, ap, subst, ◌∙◌, arith}
use Rattle.std.specs.Prelude.{cond, if◌then◌else◌}
use Rattle.std.specs.List.{list_any}
use Rattle.std.proofs.lemmas.Bool.{ne_eqb, eq-eqb, or_right}
use Rattle.semantics.specs.Units.{Entry, is_whole, is_commit, commit_place}
use Rattle.reduction.proofs.Shape.{Each, each_more, IsFine}
use Rattle.serialise.specs.Entries.{entries_of}
use Rattle.serialise.specs.declared.step.Step.{Step}
use Rattle.reduction.specs.Committing.{commits}
use Rattle.serialise.specs.Spreading.{stays_open}

-- whether the step at a place stays open; the first step has place n
abbrev pub opens_in : (n : ℕ) → List Step → ℕ → Bool
opens_in n [] p = false
opens_in n (step ∷ steps) p = if n == p then stays_open step else opens_in (n + 1) steps p

pub opens_here : (n : ℕ) (step : Step) (steps : List Step) → opens_in n (step ∷ steps) n ≡ stays_open step
opens_here n step steps = ap (λ (b : Bool). cond b (stays_open step) (opens_in (n + 1) steps n)) (eq-eqb n n refl)

pub opens_later : (n : ℕ) (step : Step) (steps : List Step) (p : ℕ) → n + 1 ≤ p → opens_in n (step ∷ steps) p ≡ opens_in (n + 1) steps p
opens_later n step steps p low = ap (λ (b : Bool). cond b (stays_open step) (opens_in (n + 1) steps p)) (ne_eqb n p (λ same. omega (arith, low, same)))

-- the step at an entry's place tells of the entry
abbrev pub Tells : (n : ℕ) → List Step → Entry → Type 0
Tells n steps x = (opens_in n steps x.place ≡ (x.inside && not (is_commit x.kind))) × (n ≤ x.place)

pub are_told : (n : ℕ) (steps : List Step) → Each (Tells n steps) (entries_of n steps)
are_told n [] = tt
are_told n (step ∷ steps) = (
  (opens_here n step steps, omega arith),
  each_more (Tells (n + 1) steps) (Tells n (step ∷ steps)) (λ x k. let low = k.1 in (opens_later n step steps x.place low ∙ k.0, omega (arith, low))) (entries_of (n + 1) steps) (are_told (n + 1) steps),
)

-- whether a unit commits is told by the step at its commit place
told_unit : (n : ℕ) (steps : List Step) (e : Entry) (u : List Entry) → Each (Tells n steps) (e ∷ u) → commits (e ∷ u) ≡ not (opens_in n steps (commit_place (e ∷ u)))
told_unit n steps e [] told = one e.inside (is_commit e.kind) ∙ ap not (sym told.0.0)
  where
    one : (b c : Bool) → (not b || (c || false)) ≡ not (b && not c)
    one true true = refl
    one true false = refl
    one false c = refl
told_unit n steps e (f ∷ u) told = by (is_commit e.kind) refl (told_unit n steps f u told.1)
  where
    closed : (b : Bool) → (b && not true) ≡ false
    closed true = refl
    closed false = refl

    by : (b : Bool) → is_commit e.kind ≡ b → commits (f ∷ u) ≡ not (opens_in n steps (commit_place (f ∷ u)))
        → (is_whole (f ∷ u) || (is_commit e.kind || list_any (λ x. is_commit x.kind) (f ∷ u))) ≡ not (opens_in n steps (cond (is_commit e.kind) e.place (commit_place (f ∷ u))))
    by true is rest =
        ap (λ b. is_whole (f ∷ u) || (b || list_any (λ x. is_commit x.kind) (f ∷ u))) is ∙ or_right (is_whole (f ∷ u)) true refl
        ∙ sym (ap not (ap (λ b. opens_in n steps (cond b e.place (commit_place (f ∷ u)))) is ∙ told.0.0 ∙ ap (λ b. e.inside && not b) is ∙ closed e.inside))
    by false is rest =
        ap (λ b. is_whole (f ∷ u) || (b || list_any (λ x. is_commit x.kind) (f ∷ u))) is ∙ rest
        ∙ sym (ap (λ b. not (opens_in n steps (cond b e.place (commit_place (f ∷ u))))) is)

abbrev pub IsTold : (n : ℕ) → List Step → List Entry → Type 0
IsTold n steps u = commits u ≡ not (opens_in n steps (commit_place u))

pub told_units : (n : ℕ) (steps : List Step) (us : List (List Entry)) → Each (IsFine n) us → Each (Each (Tells n steps)) us → Each (IsTold n steps) us
told_units n steps [] fine told = tt
told_units n steps (u ∷ us) fine told = (
  subst (IsTold n steps) (sym fine.0.is) (told_unit n steps fine.0.first fine.0.rest (subst (Each (Tells n steps)) fine.0.is told.0)),
  told_units n steps us fine.1 told.1,
)
