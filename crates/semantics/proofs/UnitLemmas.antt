-- Units have the entries of their run, each once.
use Rattle.std.proofs.Common.{◌≡◌, ℕ, ◌+◌, Bool, true, false, List, [], ◌∷◌, ◌++◌, refl, sym, ap, ◌∙◌, arith, ◌==◌}
use Rattle.std.specs.Prelude.{map, count_by, cond, nat_le, option_and_then, IsSome, if◌then◌else◌}
use Rattle.std.proofs.lemmas.List.Sums.{sum_by-cons, sum_by-append}
use Rattle.core_program.specs.Core.{Program}
use Rattle.state.specs.States.{State, initial}
use Rattle.semantics.specs.Step.{Moves, Absent, IsDone, HadFaulted, Waits, outcome, moved, state_after}
use Rattle.semantics.specs.Run.{run_from, Runs, IsRearrangement}
use Rattle.semantics.specs.Units.{Entry, entry_then, entries_from, entries, added, is_of_thread, units, commit_place, placed, in_order, schedule_of, written_order}

module _ (t : ℕ) where
  -- how often a number stands in a schedule
  abbrev count : List ℕ → ℕ
  count s = count_by (λ u. u == t) s

  one : ℕ → ℕ
  one u = cond (u == t) 1 0

  count-cons : (u : ℕ) (s : List ℕ) → count (u ∷ s) ≡ one u + count s
  unfolding one
  count-cons u s = sum_by-cons (λ x. cond (x == t) 1 0) u s

  count-append : (s r : List ℕ) → count (s ++ r) ≡ count s + count r
  count-append s r = sum_by-append (λ x. cond (x == t) 1 0) s r

  added_or : (b : Bool) (e : Entry) (u : List Entry) (us vs : List (List Entry)) → count (schedule_of vs) ≡ one e.thread + count (schedule_of us) → count (schedule_of (if b then (e ∷ u) ∷ us else u ∷ vs)) ≡ one e.thread + count (schedule_of (u ∷ us))
  added_or true e u us vs rest = count-cons e.thread (map (λ e. e.thread) u ++ schedule_of us)
  added_or false e u us vs rest = omega (arith, count-append (map (λ e. e.thread) u) (schedule_of vs), count-append (map (λ e. e.thread) u) (schedule_of us), rest)

  count-added : (e : Entry) (us : List (List Entry)) → count (schedule_of (added e us)) ≡ one e.thread + count (schedule_of us)
  count-added e [] = count-cons e.thread []
  count-added e (u ∷ us) = added_or (is_of_thread e.thread u) e u us (added e us) (count-added e us)

  unit_or : (b : Bool) (e : Entry) (us : List (List Entry)) → count (schedule_of (if b then added e us else (e ∷ []) ∷ us)) ≡ one e.thread + count (schedule_of us)
  unit_or true e us = count-added e us
  unit_or false e us = count-cons e.thread (schedule_of us)

  count-units : (es : List Entry) → count (schedule_of (units es)) ≡ count (map (λ e. e.thread) es)
  count-units [] = refl
  count-units (e ∷ es) = unit_or e.inside e (units es) ∙ omega (arith, count-units es, count-cons e.thread (map (λ e. e.thread) es))

  placed_or : (b : Bool) (u v : List Entry) (us vs : List (List Entry)) → count (schedule_of vs) ≡ count (map (λ e. e.thread) u) + count (schedule_of us) → count (schedule_of (if b then u ∷ v ∷ us else v ∷ vs)) ≡ count (map (λ e. e.thread) u) + count (schedule_of (v ∷ us))
  placed_or true u v us vs rest = count-append (map (λ e. e.thread) u) (schedule_of (v ∷ us))
  placed_or false u v us vs rest = omega (arith, count-append (map (λ e. e.thread) v) (schedule_of vs), count-append (map (λ e. e.thread) v) (schedule_of us), rest)

  count-placed : (u : List Entry) (us : List (List Entry)) → count (schedule_of (placed u us)) ≡ count (map (λ e. e.thread) u) + count (schedule_of us)
  count-placed u [] = count-append (map (λ e. e.thread) u) []
  count-placed u (v ∷ us) = placed_or (nat_le (commit_place u) (commit_place v)) u v us (placed u us) (count-placed u us)

  count-in_order : (us : List (List Entry)) → count (schedule_of (in_order us)) ≡ count (schedule_of us)
  count-in_order [] = refl
  count-in_order (u ∷ us) = omega (arith, count-placed u (in_order us), count-in_order us, count-append (map (λ e. e.thread) u) (schedule_of us))

-- the entries of a schedule that runs are all of it
pub entries_all : (P : Program) (q : State) (place : ℕ) (s : List ℕ) → IsSome (run_from P q s) → map (λ e. e.thread) (entries_from P q place s) ≡ s
entries_all P q place [] runs = refl
entries_all P q place (t ∷ s) runs =
    elim (outcome P q t) as (λ o. IsSome (option_and_then (λ next. run_from P next s) (state_after q t o)) → map (λ e. e.thread) (entry_then P q place t o (λ next. entries_from P next (place + 1) s)) ≡ t ∷ s) [
      | Moves move ↦ λ ran. ap (λ r. t ∷ r) (entries_all P (moved t move q) (place + 1) s ran)
      | Absent ↦ λ ran. absurd cc
      | IsDone ↦ λ ran. absurd cc
      | HadFaulted kind ↦ λ ran. absurd cc
      | Waits a holder ↦ λ ran. absurd cc
    ] runs

pub written_rearranges : (P : Program) (s : List ℕ) → Runs P s → IsRearrangement s (written_order P s)
written_rearranges P s runs t = sym (count-in_order t (units (entries P s)) ∙ count-units t (entries P s) ∙ ap (λ r. count_by (λ u. u == t) r) (entries_all P (initial P) 0 s runs))
