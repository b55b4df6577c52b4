-- The written order of a schedule of the machine.
use Rattle.std.proofs.Common.{◌≡◌, ℕ, suc, zero, ◌+◌, ◌==◌, Bool, true, false, List, [], ◌∷◌, refl, sym, ap, subst, ◌∙◌, Some, None}
use Rattle.std.proofs.lemmas.Iterator.Adapters.{position_from-zero}
use Rattle.std.specs.Prelude.{Option, map, take, slice_get, count_by, cond, is_some}
use Rattle.std.specs.List.{position_from}
use Rattle.core_program.specs.Core.{Program}
use Rattle.core_program.specs.Typed.{IsTyped}
use Rattle.state.specs.States.{Thread, State, initial}
use Rattle.semantics.specs.Run.{run, run_from, is_inside, is_inside_some, inside, open_thread, own_states}
use Rattle.semantics.specs.Units.{Entry, entries_from, entries, units, word_of, in_order, schedule_of, written_order}
use Rattle.semantics.specs.Words.{IsReducible}
use Rattle.reduction.proofs.SoundRuns.{sound_initial}
use Rattle.reduction.specs.Systems as of
use Rattle.reduction.specs.Runs.{Run}
use Rattle.reduction.proofs.Sorting.{Rises}
use Rattle.reduction.proofs.Whole as any
use Rattle.reduction.specs.MachineSystem.{machine}
use Rattle.reduction.specs.SerialSchedules.{IsSerial}
use Rattle.reduction.proofs.MachineSystem.{machine_moves, run_same, entries_same, owns_same}

module _ (P : Program) where
  pub entries_run : (s : List ℕ) (q r : State) (place : ℕ) → run_from P q s ≡ Some r → Run (machine P) q (entries_from P q place s) r
  entries_run s q r place ran = subst (λ es. Run (machine P) q es r) (entries_same P s q place) (any.entries_run (machine P) s q r place (run_same P s q ∙ ran))

  pub entries_rise : (s : List ℕ) (q : State) (place : ℕ) → Rises place (entries_from P q place s)
  entries_rise s q place = subst (Rises place) (entries_same P s q place) (any.entries_rise (machine P) s q place)

  pub run_entries : (es : List Entry) (q r : State) → Run (machine P) q es r → run_from P q (map (λ e. e.thread) es) ≡ Some r
  run_entries es q r ran = sym (run_same P (map (λ e. e.thread) es) q) ∙ any.run_entries (machine P) es q r ran

-- nobody stands inside where no thread does
none_from : {X : Type 0} (test : X → Bool) (xs : List X) (i : ℕ) → position_from test i xs ≡ None → (k : ℕ) (x : X) → slice_get xs k ≡ Some x → test x ≡ false
none_from test [] i none k x at = absurd cc
none_from test (y ∷ ys) i none k x at = by (test y) refl none (λ n j h. none_from test ys (i + 1) n j x h)
  where
    at_place : (j : ℕ) → test y ≡ false → slice_get (y ∷ ys) j ≡ Some x → ((m : ℕ) → slice_get ys m ≡ Some x → test x ≡ false) → test x ≡ false
    at_place zero e h later = let same : y ≡ x = cc in subst (λ z. test z ≡ false) same e
    at_place (suc m) e h later = later m h

    by : (b : Bool) → test y ≡ b → cond b (Some i) (position_from test (i + 1) ys) ≡ None → (position_from test (i + 1) ys ≡ None → (m : ℕ) → slice_get ys m ≡ Some x → test x ≡ false) → test x ≡ false
    by true e n later = absurd cc
    by false e n later = at_place k e at (later n)

pub nobody_inside : (P : Program) (q : State) → open_thread P q ≡ None → (t : ℕ) → inside P q t ≡ false
nobody_inside P q none t = by (slice_get q.threads t) refl
  where
    by : (o : Option Thread) → slice_get q.threads t ≡ o → is_inside_some P o ≡ false
    by None e = refl
    by (Some x) e = none_from (is_inside P) q.threads 0 (sym (position_from-zero (is_inside P) q.threads) ∙ none) t x e

-- the written order of a schedule that ends with nobody inside, and whose units have reducible words
pub written : (P : Program) → IsTyped P → (s : List ℕ) (q : State) → run P s ≡ Some q → open_thread P q ≡ None
    → ((n : ℕ) (u : List Entry) → slice_get (units (entries P s)) n ≡ Some u → IsReducible (word_of u)) → IsSerial P s (written_order P s) q
written P typed s q ran closed words =
    let M = machine P in
    let same : of.system_entries_from M (initial P) 0 s ≡ entries P s = entries_same P s (initial P) 0 in
    let order : of.written_from M (initial P) s ≡ written_order P s = ap (λ es. schedule_of (in_order (units es))) same in
    let serial = any.written (machine_moves P typed) s (initial P) q (sound_initial P) (run_same P s (initial P) ∙ ran) (λ t there. nobody_inside P q closed t)
    (λ n u at. words n u (ap (λ es. slice_get (units es) n) (sym same) ∙ at)) in
    let runs : run P (written_order P s) ≡ Some q = ap (run P) (sym order) ∙ sym (run_same P (of.written_from M (initial P) s) (initial P)) ∙ serial.runs in
    record {
      rearranges = λ t. serial.rearranges t ∙ ap (λ r. count_by (λ u. u == t) r) order;
      runs = runs;
      uninterrupted = record {
        runs = ap is_some runs;
        kept = λ place t u r here next to is. serial.uninterrupted.kept place t u r (ap (λ x. slice_get x place) order ∙ here) (ap (λ x. slice_get x (place + 1)) order ∙ next)
            (run_same P (take (place + 1) (of.written_from M (initial P) s)) (initial P) ∙ ap (λ x. run P (take (place + 1) x)) order ∙ to) is;
      };
      owns = λ t. sym (owns_same P t s (initial P)) ∙ serial.owns t ∙ owns_same P t (of.written_from M (initial P) s) (initial P) ∙ ap (own_states P (initial P) t) order;
    }
