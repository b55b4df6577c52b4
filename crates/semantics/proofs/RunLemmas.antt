-- Runs of schedules.
use Rattle.std.proofs.Common.{◌≡◌, ℕ, false, List, [], ◌∷◌, ◌++◌, Some, None, refl, sym, ap, subst, ◌∙◌, arith}
use Rattle.std.specs.Prelude.{option_and_then, slice_set, is_some, nat_lt}
use Rattle.std.specs.FinMap as M
use Rattle.std.specs.FinMap.{get-empty}
use Rattle.std.proofs.lemmas.Bool.Decides.{nat_tests}
use Rattle.std.proofs.lemmas.Option.{none-some, same_Some}
use Rattle.core_program.specs.Core.{Program}
use Rattle.state.specs.Memory.{address_cmp, IsNumbered}
use Rattle.state.specs.States.{State, initial, new_object}
use Rattle.state.proofs.Numbering.{numbered_new, numbered_written}
use Rattle.semantics.specs.Step.{Change, Nothing, FieldIs, ObjectIs, LockIs, Prints, Starts, Move, Outcome, Moves, Absent, IsDone, HadFaulted, Waits, outcome, step, changed, moved, state_after}
use Rattle.semantics.specs.Run.{run_from, run}
use Rattle.semantics.proofs.StepCases.{Case, moves, absent, done, faulted, waits, NewIsNext, outcome_case}
use Rattle.semantics.proofs.PlainRuns.{made_by-empty}

pub run_from-append : (P : Program) (q : State) (s r : List ℕ) → run_from P q (s ++ r) ≡ option_and_then (λ next. run_from P next r) (run_from P q s)
run_from-append P q [] r = refl
run_from-append P q (t ∷ s) r =
    elim (step P q t) as (λ o. option_and_then (λ next. run_from P next (s ++ r)) o ≡ option_and_then (λ next. run_from P next r) (option_and_then (λ next. run_from P next s) o)) [
      | None ↦ refl
      | Some next ↦ run_from-append P next s r
    ]

-- Objects are numbered.

changed_numbered : (c : Change) (q : State) (t : ℕ) → NewIsNext q t c → IsNumbered q.heap → IsNumbered (changed c q).heap
changed_numbered Nothing q t next numbered = numbered
changed_numbered (FieldIs a index v) q t next numbered = numbered_written q.heap a index v numbered
changed_numbered (ObjectIs a o) q t next numbered = subst (λ x. IsNumbered (M.insert q.heap x o)) (sym next) (numbered_new q.heap t o numbered)
changed_numbered (LockIs a hold) q t next numbered = numbered
changed_numbered (Prints n) q t next numbered = numbered
changed_numbered (Starts a m) q t next numbered = numbered

-- what a new object's address is doesn't depend on the threads
next_kept : (c : Change) (q : State) (t : ℕ) (threads : _) → NewIsNext q t c → NewIsNext (record q { threads = threads }) t c
next_kept Nothing q t threads next = next
next_kept (FieldIs a index v) q t threads next = next
next_kept (ObjectIs a o) q t threads next = next
next_kept (LockIs a hold) q t threads next = next
next_kept (Prints n) q t threads next = next
next_kept (Starts a m) q t threads next = next

-- an outcome with a state behind it moves the thread
pub moves_in : (P : Program) (q r : State) (t : ℕ) (o : Outcome) → outcome P q t ≡ o → state_after q t o ≡ Some r → (move : Move) × (outcome P q t ≡ Moves move) × (moved t move q ≡ r)
moves_in P q r t (Moves move) is e = (move, is, same_Some _ _ e)
moves_in P q r t Absent is e = absurd (none-some r e)
moves_in P q r t IsDone is e = absurd (none-some r e)
moves_in P q r t (HadFaulted why) is e = absurd (none-some r e)
moves_in P q r t (Waits a h) is e = absurd (none-some r e)

pub after_numbered : (q : State) (t : ℕ) (o : Outcome) → Case q t o → IsNumbered q.heap → (r : State) → state_after q t o ≡ Some r → IsNumbered r.heap
after_numbered q t _ (moves m next) numbered r is =
    let q1 = record q { threads = slice_set q.threads t m.thread } in
    let same : moved t m q ≡ r = cc in
    subst (λ (x : State). IsNumbered x.heap) same (changed_numbered m.change q1 t (next_kept m.change q t (slice_set q.threads t m.thread) next) numbered)
after_numbered q t _ (absent e) numbered r is = absurd cc
after_numbered q t _ (done e) numbered r is = absurd cc
after_numbered q t _ (faulted kind frames e) numbered r is = absurd cc
after_numbered q t _ (waits a holder w) numbered r is = absurd cc

module _ (P : Program) where
  pub step_numbered : (q : State) (t : ℕ) (r : State) → IsNumbered q.heap → step P q t ≡ Some r → IsNumbered r.heap
  step_numbered q t r numbered is = after_numbered q t (outcome P q t) (outcome_case P q t) numbered r is

  from_numbered : (s : List ℕ) (q r : State) → IsNumbered q.heap → run_from P q s ≡ Some r → IsNumbered r.heap
  from_numbered [] q r numbered is = let same : q ≡ r = cc in subst (λ (x : State). IsNumbered x.heap) same numbered
  from_numbered (t ∷ s) q r numbered is =
      elim (step P q t) as (λ o. step P q t ≡ o → option_and_then (λ next. run_from P next s) o ≡ Some r → IsNumbered r.heap) [
        | None ↦ λ e ran. absurd cc
        | Some next ↦ λ e ran. from_numbered s next r (after_numbered q t _ (outcome_case P q t) numbered next e) ran
      ] refl is

  none_less : (n m : ℕ) → m ≡ 0 → false ≡ nat_lt n m
  none_less n m e = grind (arith, nat_tests)

  empty_numbered : IsNumbered M.empty
  empty_numbered t n = ap is_some (get-empty address_cmp _) ∙ none_less n _ (made_by-empty t)

  pub initial_numbered : IsNumbered (initial P).heap
  initial_numbered = subst (λ n. IsNumbered (M.insert M.empty (record { thread = 0; count = n }) (new_object P P.main_class []))) (made_by-empty 0) (numbered_new M.empty 0 (new_object P P.main_class []) empty_numbered)

  pub run_numbered : (s : List ℕ) (q : State) → run P s ≡ Some q → IsNumbered q.heap
  run_numbered s q is = from_numbered s (initial P) q initial_numbered is
