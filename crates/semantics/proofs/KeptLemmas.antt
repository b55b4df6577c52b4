-- The test for uninterrupted schedules is exact.
use Rattle.std.proofs.Common.{◌≡◌, ℕ, zero, suc, ◌+◌, Bool, true, false, not, List, [], ◌∷◌, Some, refl, sym, ap, ◌∙◌, arith, ◌==◌, ◌&&◌, ◌||◌}
use Rattle.std.specs.Prelude.{take, slice_get, option_and_then, IsSome}
use Rattle.std.proofs.lemmas.Bool.{eqb-true, eq-eqb, and_from, and_parts}
use Rattle.base.proofs.Options.{unless}
use Rattle.core_program.specs.Core.{Program}
use Rattle.state.specs.States.{State, initial}
use Rattle.semantics.specs.Step.{Outcome, Moves, Absent, IsDone, HadFaulted, Waits, outcome, moved, state_after}
use Rattle.semantics.specs.Run.{run_from, run, inside, Runs, IsUninterrupted}
use Rattle.semantics.specs.Units.{Entry, entry_then, entries_from, entries, are_kept}

-- kept, by places, in a run from any state
abbrev Kept : Program → State → List ℕ → Type 0
Kept P q s = (place t u : ℕ) (r : State) → slice_get s place ≡ Some t → slice_get s (suc place) ≡ Some u → run_from P q (take (suc place) s) ≡ Some r → inside P r t ≡ true → u ≡ t

unless_true : (a b : Bool) → (a ≡ true → b ≡ true) → (not a || b) ≡ true
unless_true true b h = h refl
unless_true false b h = refl

test_kept : (e : Entry) (es rest : List Entry) (f : Entry) → es ≡ f ∷ rest → are_kept (e ∷ es) ≡ ((not e.inside || (f.thread == e.thread)) && are_kept es)
test_kept e es rest f is = ap (λ xs. are_kept (e ∷ xs)) is ∙ ap (λ xs. (not e.inside || (f.thread == e.thread)) && are_kept xs) (sym is)

module _ (P : Program) where
  -- the entries of a schedule that runs begin with its first thread
  first_entry : (q : State) (place t : ℕ) (s : List ℕ) → IsSome (run_from P q (t ∷ s)) → (f : Entry) × (rest : List Entry) × (entries_from P q place (t ∷ s) ≡ f ∷ rest) × (f.thread ≡ t)
  first_entry q place t s runs =
      elim (outcome P q t) as (λ o. IsSome (option_and_then (λ n. run_from P n s) (state_after q t o)) → (f : Entry) × (rest : List Entry) × (entry_then P q place t o (λ n. entries_from P n (place + 1) s) ≡ f ∷ rest) × (f.thread ≡ t)) [
        | Moves move ↦ λ ran. (_, _, refl, refl)
        | Absent ↦ λ ran. absurd cc
        | IsDone ↦ λ ran. absurd cc
        | HadFaulted kind ↦ λ ran. absurd cc
        | Waits a holder ↦ λ ran. absurd cc
      ] runs

  -- a first step to the state q1, and then at least one entry
  module _ (place t0 t1 : ℕ) (q1 : State) (s : List ℕ) (e : Entry) (thread_is : e.thread ≡ t0) (inside_is : e.inside ≡ inside P q1 t0) (runs : IsSome (run_from P q1 (t1 ∷ s))) where
    kept_step : (IsTest : are_kept (entries_from P q1 place (t1 ∷ s)) ≡ true → Kept P q1 (t1 ∷ s)) → are_kept (e ∷ entries_from P q1 place (t1 ∷ s)) ≡ true →
        (k t u : ℕ) (r : State) → slice_get (t0 ∷ t1 ∷ s) k ≡ Some t → slice_get (t1 ∷ s) k ≡ Some u → run_from P q1 (take k (t1 ∷ s)) ≡ Some r → inside P r t ≡ true → u ≡ t
    kept_step further kept zero t u r here next ran is =
        let first = first_entry q1 place t1 s runs in
        let tests = sym (test_kept e _ first.1 first.0 first.2) ∙ kept in
        let same_r : q1 ≡ r = cc in
        let same_t : t0 ≡ t = cc in
        let same_u : t1 ≡ u = cc in
        let stands : e.inside ≡ true = inside_is ∙ ap (λ x. inside P x t0) same_r ∙ ap (inside P r) same_t ∙ is in
        let same = eqb-true _ _ (unless e.inside (first.0.thread == e.thread) ((and_parts (not e.inside || (first.0.thread == e.thread)) (are_kept (entries_from P q1 place (t1 ∷ s))) tests).0) stands) in
        sym same_u ∙ sym first.3 ∙ same ∙ thread_is ∙ same_t
    kept_step further kept (suc k) t u r here next ran is =
        let first = first_entry q1 place t1 s runs in
        let tests = sym (test_kept e _ first.1 first.0 first.2) ∙ kept in
        further ((and_parts (not e.inside || (first.0.thread == e.thread)) (are_kept (entries_from P q1 place (t1 ∷ s))) tests).1) k t u r here next ran is

    test_step : (Further : Kept P q1 (t1 ∷ s) → are_kept (entries_from P q1 place (t1 ∷ s)) ≡ true) →
        ((k t u : ℕ) (r : State) → slice_get (t0 ∷ t1 ∷ s) k ≡ Some t → slice_get (t1 ∷ s) k ≡ Some u → run_from P q1 (take k (t1 ∷ s)) ≡ Some r → inside P r t ≡ true → u ≡ t) →
        are_kept (e ∷ entries_from P q1 place (t1 ∷ s)) ≡ true
    test_step further kept =
        let first = first_entry q1 place t1 s runs in
        test_kept e _ first.1 first.0 first.2
        ∙ and_from (not e.inside || (first.0.thread == e.thread)) (are_kept (entries_from P q1 place (t1 ∷ s)))
        (unless_true e.inside (first.0.thread == e.thread) (λ stands. eq-eqb _ _ (first.3 ∙ kept 0 t0 t1 q1 refl refl refl (sym inside_is ∙ stands) ∙ sym thread_is)))
        (further (λ k t u r here next ran is. kept (suc k) t u r here next ran is))

  kept_is : (s : List ℕ) (q : State) (place : ℕ) → IsSome (run_from P q s) → are_kept (entries_from P q place s) ≡ true → Kept P q s
  kept_is [] q place runs kept = λ k t u r here next ran is. absurd cc
  kept_is (t0 ∷ []) q place runs kept = λ k t u r here next ran is. absurd cc
  kept_is (t0 ∷ t1 ∷ s) q place runs kept =
      elim (outcome P q t0) as (λ o. IsSome (option_and_then (λ n. run_from P n (t1 ∷ s)) (state_after q t0 o)) → are_kept (entry_then P q place t0 o (λ n. entries_from P n (place + 1) (t1 ∷ s))) ≡ true →
      (k t u : ℕ) (r : State) → slice_get (t0 ∷ t1 ∷ s) k ≡ Some t → slice_get (t1 ∷ s) k ≡ Some u → option_and_then (λ n. run_from P n (take k (t1 ∷ s))) (state_after q t0 o) ≡ Some r → inside P r t ≡ true → u ≡ t) [
        | Moves move ↦ λ ran test. kept_step (place + 1) t0 t1 (moved t0 move q) s (record { place = place; thread = t0; kind = move.kind; inside = inside P (moved t0 move q) t0 }) refl refl ran (kept_is (t1 ∷ s) (moved t0 move q) (place + 1) ran) test
        | Absent ↦ λ ran test. absurd cc
        | IsDone ↦ λ ran test. absurd cc
        | HadFaulted kind ↦ λ ran test. absurd cc
        | Waits a holder ↦ λ ran test. absurd cc
      ] runs kept

  one_kept : (q : State) (place t : ℕ) (o : Outcome) → are_kept (entry_then P q place t o (λ n. [])) ≡ true
  one_kept q place t (Moves move) = refl
  one_kept q place t Absent = refl
  one_kept q place t IsDone = refl
  one_kept q place t (HadFaulted kind) = refl
  one_kept q place t (Waits a holder) = refl

  is_kept : (s : List ℕ) (q : State) (place : ℕ) → IsSome (run_from P q s) → Kept P q s → are_kept (entries_from P q place s) ≡ true
  is_kept [] q place runs kept = refl
  is_kept (t0 ∷ []) q place runs kept = one_kept q place t0 (outcome P q t0)
  is_kept (t0 ∷ t1 ∷ s) q place runs kept =
      elim (outcome P q t0) as (λ o. IsSome (option_and_then (λ n. run_from P n (t1 ∷ s)) (state_after q t0 o)) →
      ((k t u : ℕ) (r : State) → slice_get (t0 ∷ t1 ∷ s) k ≡ Some t → slice_get (t1 ∷ s) k ≡ Some u → option_and_then (λ n. run_from P n (take k (t1 ∷ s))) (state_after q t0 o) ≡ Some r → inside P r t ≡ true → u ≡ t) →
      are_kept (entry_then P q place t0 o (λ n. entries_from P n (place + 1) (t1 ∷ s))) ≡ true) [
        | Moves move ↦ λ ran held. test_step (place + 1) t0 t1 (moved t0 move q) s (record { place = place; thread = t0; kind = move.kind; inside = inside P (moved t0 move q) t0 }) refl refl ran (is_kept (t1 ∷ s) (moved t0 move q) (place + 1) ran) held
        | Absent ↦ λ ran held. absurd cc
        | IsDone ↦ λ ran held. absurd cc
        | HadFaulted kind ↦ λ ran held. absurd cc
        | Waits a holder ↦ λ ran held. absurd cc
      ] runs kept

  next_place : (place : ℕ) → suc place ≡ place + 1
  next_place place = omega arith

  pub kept_uninterrupted : (s : List ℕ) → Runs P s → are_kept (entries P s) ≡ true → IsUninterrupted P s
  kept_uninterrupted s runs kept = record {
    runs = runs;
    kept = λ place t u q here next ran is. kept_is s (initial P) 0 runs kept place t u q here (ap (slice_get s) (next_place place) ∙ next) (ap (λ n. run P (take n s)) (next_place place) ∙ ran) is;
  }

  pub uninterrupted_kept : (s : List ℕ) → IsUninterrupted P s → are_kept (entries P s) ≡ true
  uninterrupted_kept s un = is_kept s (initial P) 0 un.runs (λ place t u q here next ran is. un.kept place t u q here (ap (slice_get s) (sym (next_place place)) ∙ next) (ap (λ n. run P (take n s)) (sym (next_place place)) ∙ ran) is)
