-- Steps, and what the state of the machine over code stands for after them.
use Rattle.std.proofs.Common.{◌≡◌, ℕ, zero, suc, List, [], ◌∷◌, ◌++◌, refl, sym, ap, subst}
use Rattle.std.specs.Prelude.{slice_get, slice_set}
use Rattle.std.specs.FinMap as map
use Rattle.core_program.specs.Core.{Program}
use Rattle.state.specs.Memory.{made_by, with_field, with_lock}
use Rattle.state.specs.States.{Frame, ThreadOf, Thread, Ready, StateOf, State, initial, main_address}
use Rattle.state.specs.Frames.{CodeFrame}
use Rattle.compile.specs.declared.stack.Code.{Code}
use Rattle.compile.specs.IsCode.{IsCodeOf}
use Rattle.semantics.specs.Step.{Shared, Change, Nothing, FieldIs, ObjectIs, LockIs, Prints, Starts, MoveOf, OutcomeOf, Outcome, seen_by, turn, changed, moved, outcome, step, state_after, outcome_kind, kind_of}
use Rattle.machine.specs.CodeMachine.{code_turn, code_outcome, code_step, code_initial}
use Rattle.machine.specs.Likeness.{ThreadStands, ready_stands, ThreadsStand, no_threads, more_threads, StateStands, SomeStands}
use Rattle.machine.proofs.Simulation.{OutcomeStands, both_move, both_absent, both_done, both_faulted, both_wait, MaybeStands, turn_like}

module _ (P : Program) (code : List Code) where
  set_stands : (n : ℕ) (c : ThreadOf CodeFrame) (t : Thread) (cs : List (ThreadOf CodeFrame)) (ts : List Thread) → ThreadStands P code c t → ThreadsStand P code cs ts → ThreadsStand P code (slice_set cs n c) (slice_set ts n t)
  set_stands n c t _ _ one no_threads = no_threads
  set_stands zero c t _ _ one (more_threads d u ds us other more) = more_threads c t ds us one more
  set_stands (suc n) c t _ _ one (more_threads d u ds us other more) = more_threads d u _ _ other (set_stands n c t ds us one more)

  append_stands : (c : ThreadOf CodeFrame) (t : Thread) (cs : List (ThreadOf CodeFrame)) (ts : List Thread) → ThreadStands P code c t → ThreadsStand P code cs ts → ThreadsStand P code (cs ++ c ∷ []) (ts ++ t ∷ [])
  append_stands c t _ _ one no_threads = more_threads c t [] [] one no_threads
  append_stands c t _ _ one (more_threads d u ds us other more) = more_threads d u _ _ other (append_stands c t ds us one more)

  -- the same change keeps the likeness
  changed_stands : (change : Change) (c : StateOf CodeFrame) (q : State) → StateStands P code c q → StateStands P code (changed change c) (changed change q)
  changed_stands Nothing c q h = h
  changed_stands (FieldIs a index v) c q h = record { heap = ap (with_field a index v) h.heap; locks = h.locks; threads = h.threads; output = h.output }
  changed_stands (ObjectIs a o) c q h = record { heap = ap (λ m. map.insert m a o) h.heap; locks = h.locks; threads = h.threads; output = h.output }
  changed_stands (LockIs a hold) c q h = record { heap = h.heap; locks = ap (with_lock a hold) h.locks; threads = h.threads; output = h.output }
  changed_stands (Prints n) c q h = record { heap = h.heap; locks = h.locks; threads = h.threads; output = ap (λ xs. xs ++ n ∷ []) h.output }
  changed_stands (Starts a m) c q h = record { heap = h.heap; locks = h.locks; threads = append_stands (Ready a m) (Ready a m) c.threads q.threads (ready_stands a m) h.threads; output = h.output }

  pub moved_stands : (n : ℕ) (move : MoveOf CodeFrame) (other : MoveOf Frame) (c : StateOf CodeFrame) (q : State) → move.change ≡ other.change → ThreadStands P code move.thread other.thread
      → StateStands P code c q → StateStands P code (moved n move c) (moved n other q)
  moved_stands n move other c q same one h =
      subst (λ x. StateStands P code (moved n move c) (changed x (record q { threads = slice_set q.threads n other.thread }))) same
      (changed_stands move.change (record c { threads = slice_set c.threads n move.thread }) (record q { threads = slice_set q.threads n other.thread })
      (record { heap = h.heap; locks = h.locks; threads = set_stands n move.thread other.thread c.threads q.threads one h.threads; output = h.output }))

  after_stands : (n : ℕ) (c : StateOf CodeFrame) (q : State) (o : OutcomeOf CodeFrame) (p : Outcome) → StateStands P code c q → OutcomeStands P code o p → SomeStands P code (state_after c n o) (state_after q n p)
  after_stands n c q _ _ h (both_move kind d u change one) = moved_stands n (record { kind = kind; thread = d; change = change }) (record { kind = kind; thread = u; change = change }) c q refl one h
  after_stands n c q _ _ h both_absent = tt
  after_stands n c q _ _ h both_done = tt
  after_stands n c q _ _ h (both_faulted kind) = tt
  after_stands n c q _ _ h (both_wait a holder) = tt

  kinds_same : (o : OutcomeOf CodeFrame) (p : Outcome) → OutcomeStands P code o p → outcome_kind o ≡ outcome_kind p
  kinds_same _ _ (both_move kind d u change one) = refl
  kinds_same _ _ both_absent = refl
  kinds_same _ _ both_done = refl
  kinds_same _ _ (both_faulted kind) = refl
  kinds_same _ _ (both_wait a holder) = refl

  module _ (entry room : List ℕ) (is_code : IsCodeOf P code entry room) where
    threads_at : (see : Shared) (t n : ℕ) (cs : List (ThreadOf CodeFrame)) (ts : List Thread) → ThreadsStand P code cs ts → MaybeStands P code entry room is_code see t (slice_get cs n) (slice_get ts n)
    threads_at see t n _ _ no_threads = tt
    threads_at see t zero _ _ (more_threads c u cs us one more) = one
    threads_at see t (suc n) _ _ (more_threads c u cs us one more) = threads_at see t n cs us more

    -- a turn of the machine over code is a turn of the definition
    pub outcome_like : (c : StateOf CodeFrame) (q : State) (t : ℕ) → StateStands P code c q → OutcomeStands P code (code_outcome P code entry room c t) (outcome P q t)
    outcome_like c q t h =
        let seen : seen_by t c ≡ seen_by t q = λ j. record { object_at = map.get (h.heap j); lock_at = map.get (h.locks j); made = made_by t (h.heap j) } in
        subst (λ s. OutcomeStands P code (code_turn P code entry room s t (slice_get c.threads t)) (turn P (seen_by t q) t (slice_get q.threads t))) (sym seen)
        (turn_like P code entry room is_code (seen_by t q) t (slice_get c.threads t) (slice_get q.threads t) (threads_at (seen_by t q) t t c.threads q.threads h.threads))

    pub step_like : (c : StateOf CodeFrame) (q : State) (t : ℕ) → StateStands P code c q → SomeStands P code (code_step P code entry room c t) (step P q t)
    step_like c q t h = after_stands t c q (code_outcome P code entry room c t) (outcome P q t) h (outcome_like c q t h)

    pub kind_like : (c : StateOf CodeFrame) (q : State) (t : ℕ) → StateStands P code c q → outcome_kind (code_outcome P code entry room c t) ≡ kind_of P q t
    kind_like c q t h = kinds_same (code_outcome P code entry room c t) (outcome P q t) (outcome_like c q t h)

  pub initial_like : StateStands P code (code_initial P) (initial P)
  initial_like = record { heap = refl; locks = refl; threads = more_threads (Ready main_address P.main) (Ready main_address P.main) [] [] (ready_stands main_address P.main) no_threads; output = refl }
