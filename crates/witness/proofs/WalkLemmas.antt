-- Runs that interrupt nobody, step by step and by places.
use Rattle.std.proofs.Common.{◌≡◌, ℕ, zero, suc, ◌+◌, Bool, true, false, List, [], ◌∷◌, refl, sym, ap, subst, ◌∙◌, arith}
use Rattle.std.specs.Prelude.{Option, Some, None, take, slice_get, option_and_then, IsSome, if◌then◌else◌}
use Rattle.std.proofs.lemmas.Bool.{eqb-true, eq-eqb, cond-true}
use Rattle.base.proofs.Options.{then_parts, if_taken}
use Rattle.core_program.specs.Core.{Program}
use Rattle.state.specs.States.{State, initial}
use Rattle.semantics.specs.Step.{step}
use Rattle.semantics.specs.Run.{run_from, run, inside, IsUninterrupted}
use Rattle.witness.specs.Walks.{may_step, must_step_next, walk}

-- kept, by places, in a run from any state
abbrev pub Kept : Program → State → List ℕ → Type 0
Kept P q s = (place t u : ℕ) (r : State) → slice_get s place ≡ Some t → slice_get s (suc place) ≡ Some u → run_from P q (take (suc place) s) ≡ Some r → inside P r t ≡ true → u ≡ t

-- a schedule begins with who has to go on, where somebody has to
abbrev pub MayBegin : Option ℕ → List ℕ → Type 0
MayBegin None s = Unit {0}
MayBegin (Some u) [] = Unit {0}
MayBegin (Some u) (t ∷ s) = t ≡ u

begin_may : (busy : Option ℕ) (t : ℕ) (s : List ℕ) → may_step busy t ≡ true → MayBegin busy (t ∷ s)
begin_may None t s may = tt
begin_may (Some u) t s may = eqb-true t u may

may_begin : (busy : Option ℕ) (t : ℕ) (s : List ℕ) → MayBegin busy (t ∷ s) → may_step busy t ≡ true
may_begin None t s may = refl
may_begin (Some u) t s may = eq-eqb t u may

-- who goes on steps next
next_is : (b : Bool) (t u : ℕ) (s : List ℕ) → MayBegin (if b then Some t else None) (u ∷ s) → b ≡ true → u ≡ t
next_is true t u s may is = may
next_is false t u s may is = absurd cc

next_may : (b : Bool) (t : ℕ) (s : List ℕ) → ((u : ℕ) → slice_get s 0 ≡ Some u → b ≡ true → u ≡ t) → MayBegin (if b then Some t else None) s
next_may true t [] may = tt
next_may true t (u ∷ s) may = may u refl refl
next_may false t s may = tt

-- the first step of a walk, and the rest
pub record Begins (P : Program) (q : State) (busy : Option ℕ) (t : ℕ) (r : List ℕ) (e : State) : Type 0 where
  pub may : may_step busy t ≡ true
  pub next : State
  pub steps : step P q t ≡ Some next
  pub rest : walk P next (must_step_next P next t) r ≡ Some e

pub begins : (P : Program) (q : State) (busy : Option ℕ) (t : ℕ) (r : List ℕ) (e : State) → walk P q busy (t ∷ r) ≡ Some e → Begins P q busy t r e
begins P q busy t r e walks =
    let taken = if_taken (may_step busy t) (option_and_then (λ next. walk P next (must_step_next P next t) r) (step P q t)) e walks in
    let parts = then_parts (λ next. walk P next (must_step_next P next t) r) (step P q t) e taken.1 in
    record { may = taken.0; next = parts.0; steps = parts.1; rest = parts.2 }

pub begun : (P : Program) (q : State) (busy : Option ℕ) (t : ℕ) (r : List ℕ) (next : State) → may_step busy t ≡ true → step P q t ≡ Some next
    → walk P q busy (t ∷ r) ≡ walk P next (must_step_next P next t) r
begun P q busy t r next may steps =
    cond-true (may_step busy t) _ _ may ∙ ap (option_and_then (λ n. walk P n (must_step_next P n t) r)) steps

module _ (P : Program) where
  -- the run after a first step
  runs_on : (q : State) (t : ℕ) (r : List ℕ) (next : State) → step P q t ≡ Some next → run_from P q (t ∷ r) ≡ run_from P next r
  runs_on q t r next steps = ap (option_and_then (λ n. run_from P n r)) steps

  pub walk_runs : (r : List ℕ) (q : State) (busy : Option ℕ) (e : State) → walk P q busy r ≡ Some e → run_from P q r ≡ Some e
  walk_runs [] q busy e walks = walks
  walk_runs (t ∷ r) q busy e walks =
      let b = begins P q busy t r e walks in
      runs_on q t r b.next b.steps ∙ walk_runs r b.next (must_step_next P b.next t) e b.rest

  pub walk_begins : (r : List ℕ) (q : State) (busy : Option ℕ) (e : State) → walk P q busy r ≡ Some e → MayBegin busy r
  walk_begins [] q None e walks = tt
  walk_begins [] q (Some u) e walks = tt
  walk_begins (t ∷ r) q busy e walks = begin_may busy t r (begins P q busy t r e walks).may

  -- the second entry steps where the first thread has to go on
  first_kept : (r : List ℕ) (t : ℕ) (next : State) → MayBegin (must_step_next P next t) r → (t' u : ℕ) (mid : State) → t ≡ t' → slice_get r 0 ≡ Some u → next ≡ mid → inside P mid t' ≡ true → u ≡ t'
  first_kept [] t next may t' u mid same there at is = absurd cc
  first_kept (v ∷ r) t next may t' u mid same there at is =
      let first : v ≡ u = cc in
      sym first ∙ next_is (inside P next t) t v r may (ap (λ x. inside P x t) at ∙ ap (inside P mid) same ∙ is) ∙ same

  -- at each place, by what is so behind the first step
  kept_at : (t : ℕ) (r : List ℕ) (next : State) → MayBegin (must_step_next P next t) r → Kept P next r → (place t' u : ℕ) (mid : State) → slice_get (t ∷ r) place ≡ Some t' → slice_get r place ≡ Some u
      → run_from P next (take place r) ≡ Some mid → inside P mid t' ≡ true → u ≡ t'
  kept_at t r next may kept zero t' u mid here there ran is =
      let same : t ≡ t' = cc in
      let at : next ≡ mid = cc in
      first_kept r t next may t' u mid same there at is
  kept_at t r next may kept (suc place) t' u mid here there ran is = kept place t' u mid here there ran is

  pub walk_kept : (r : List ℕ) (q : State) (busy : Option ℕ) (e : State) → walk P q busy r ≡ Some e → Kept P q r
  walk_kept [] q busy e walks = λ place t u mid here next ran is. absurd cc
  walk_kept (t ∷ r) q busy e walks = λ place t' u mid here there ran is.
      let b = begins P q busy t r e walks in
      kept_at t r b.next (walk_begins r b.next (must_step_next P b.next t) e b.rest) (walk_kept r b.next (must_step_next P b.next t) e b.rest) place t' u mid here there (sym (runs_on q t (take place r) b.next b.steps) ∙ ran) is

  pub kept_walks : (r : List ℕ) (q : State) (busy : Option ℕ) (e : State) → run_from P q r ≡ Some e → Kept P q r → MayBegin busy r → walk P q busy r ≡ Some e
  kept_walks [] q busy e runs kept may = runs
  kept_walks (t ∷ r) q busy e runs kept may =
      let parts = then_parts (λ n. run_from P n r) (step P q t) e runs in
      let next = parts.0 in
      let steps = parts.1 in
      begun P q busy t r next (may_begin busy t r may) steps
      ∙ kept_walks r next (must_step_next P next t) e parts.2
      (λ place t' u mid here there ran is. kept (suc place) t' u mid here there (runs_on q t (take (suc place) r) next steps ∙ ran) is)
      (next_may (inside P next t) t r (λ u there is. kept 0 t u next refl there (runs_on q t [] next steps) is))

  next_place : (place : ℕ) → suc place ≡ place + 1
  next_place place = omega arith

  -- A run interrupts nobody exactly where it is a walk.
  pub walk_uninterrupted : (r : List ℕ) (e : State) → walk P (initial P) None r ≡ Some e → IsUninterrupted P r
  walk_uninterrupted r e walks = record {
    runs = subst IsSome (sym (walk_runs r (initial P) None e walks)) refl;
    kept = λ place t u q here next ran is. walk_kept r (initial P) None e walks place t u q here (ap (slice_get r) (next_place place) ∙ next) (ap (λ n. run P (take n r)) (next_place place) ∙ ran) is;
  }

  pub uninterrupted_walks : (r : List ℕ) (e : State) → run P r ≡ Some e → IsUninterrupted P r → walk P (initial P) None r ≡ Some e
  uninterrupted_walks r e runs un =
      kept_walks r (initial P) None e runs
      (λ place t u q here next ran is. un.kept place t u q here (ap (slice_get r) (sym (next_place place)) ∙ next) (ap (λ n. run P (take n r)) (sym (next_place place)) ∙ ran) is) tt
