-- The state at the start is safe, and a step of a thread keeps every thread safe.
use Rattle.std.proofs.Common.{◌≡◌, ℕ, zero, suc, Bool, true, false, ◌&&◌, ◌||◌, ◌==◌, List, [], Some, None, refl, sym, ap, subst, ◌∙◌}
use Rattle.std.specs.Prelude.{Option, slice_get, slice_set, if◌then◌else◌}
use Rattle.std.specs.FinMap as M
use Rattle.std.specs.FinMap.{get-empty}
use Rattle.std.proofs.lemmas.Bool.{eqb-true, eqb-false}
use Rattle.base.proofs.Lists.{set_other}
use Rattle.paths.specs.Paths.{PathData}
use Rattle.core_program.specs.Core.{Program}
use Rattle.rules.specs.Effect.{Assignment}
use Rattle.state.specs.declared.value.Address.{Address}
use Rattle.state.specs.Memory.{Hold, IsNumbered, address_cmp}
use Rattle.state.specs.States.{Thread, Ready, Running, Done, Faulted, State, initial}
use Rattle.state.proofs.MemoryLemmas.{set_same}
use Rattle.state.proofs.Numbering.{next_free}
use Rattle.semantics.specs.Step.{Change, Move, Outcome, Moves, Absent, seen_by, turn, outcome, moved}
use Rattle.semantics.specs.Run.{inside}
use Rattle.semantics.specs.Units.{is_commit}
use Rattle.reduction.specs.Phases.{phase_of}
use Rattle.reduction.specs.Leads.{Memory, machine_memory, Grows}
use Rattle.reduction.specs.Safe.{Owns, IsFree, IsSafeThread, IsSafe, frames_inside, held_count, flags_after}
use Rattle.reduction.proofs.PhaseLemmas.{le_itself}
use Rattle.reduction.proofs.Frames.{frames_move}
use Rattle.reduction.specs.Turn.{Accepted, StepFine, Fine, StartFine}
use Rattle.semantics.specs.Changes.{objects_after, locks_after}
use Rattle.reduction.proofs.ThreadTurn.{turn_fine}
use Rattle.semantics.proofs.Changed.{heap_after, locks_are, ThreadAfter, kept, begun, thread_after}

module _ (P : Program) (rel : ℕ → List PathData) (A : Assignment) where
  -- a step of another thread keeps a thread safe
  others_safe : (h k : Memory) (locks later : Address → Option Hold) (u : ℕ) (flag : Bool) → Grows P h k → ((b : Address) → held_count u (later b) ≡ held_count u (locks b))
      → (thread : Option Thread) → IsSafeThread P rel A h locks u flag thread → IsSafeThread P rel A k later u flag thread
  others_safe h k locks later u flag grows same None safe = (λ a. same a ∙ safe.0 a, safe.1)
  others_safe h k locks later u flag grows same (Some (Ready a m)) safe = (λ b. same b ∙ safe.0 b, safe.1, safe.2)
  others_safe h k locks later u flag grows same (Some (Running fs)) safe =
      (frames_move P rel A h k grows fs [] (phase_of (frames_inside P fs) flag) (phase_of (frames_inside P fs) flag) (le_itself (phase_of (frames_inside P fs) flag)) safe.0, λ a. same a ∙ safe.1 a)
  others_safe h k locks later u flag grows same (Some Done) safe = λ a. same a ∙ safe a
  others_safe h k locks later u flag grows same (Some (Faulted why fs)) safe = λ a. same a ∙ safe a

  -- a thread after a change: as before, or new
  after_safe : (h : Memory) (locks : Address → Option Hold) (u : ℕ) (flag : Bool) (c : Change) → StartFine P c → (before after : Option Thread) → ThreadAfter c before after
      → IsSafeThread P rel A h locks u flag before → IsSafeThread P rel A h locks u flag after
  after_safe h locks u flag c starts before _ kept safe = safe
  after_safe h locks u flag c starts before _ (begun a m is none) safe =
      let absent : IsSafeThread P rel A h locks u flag None = subst (IsSafeThread P rel A h locks u flag) none safe in
      (absent.0, absent.1, subst (StartFine P) is starts)

  there : (o : Option Thread) (o2 : Outcome) (move : Move) (see : Rattle.semantics.specs.Step.Shared) (t : ℕ) → turn P see t o ≡ Moves move → (x : Thread) × (o ≡ Some x)
  there None o2 move see t is = absurd cc
  there (Some x) o2 move see t is = (x, refl)

  module _ (accepted : Accepted P rel A) where
    -- what comes of a thread's turn in a safe state
    pub outcome_fine : (q : State) (flags : ℕ → Bool) (t : ℕ) → IsNumbered q.heap → IsSafe P rel A q flags → Fine P rel A (seen_by t q) t (inside P q t) (flags t) (outcome P q t)
    outcome_fine q flags t numbered safe = turn_fine P rel A accepted (seen_by t q) t (next_free q.heap t numbered) (slice_get q.threads t) (flags t) (safe.at t)

    module _ (q : State) (flags : ℕ → Bool) (t : ℕ) (safe : IsSafe P rel A q flags) (move : Move) (is : outcome P q t ≡ Moves move) (fine : StepFine P rel A (seen_by t q) t (inside P q t) (flags t) move) where
      abbrev half : State
      half = record q { threads = slice_set q.threads t move.thread }

      abbrev next_memory : Memory
      next_memory = machine_memory P (objects_after move.change (M.get q.heap))

      own_thread : slice_get (slice_set q.threads t move.thread) t ≡ Some move.thread
      own_thread = let x = there (slice_get q.threads t) Absent move (seen_by t q) t is in set_same q.threads t move.thread x.0 x.1

      before_start : (u : ℕ) (b : Bool) → (u == t) ≡ b → IsSafeThread P rel A next_memory (locks_after move.change (M.get q.locks)) u (if b then (inside P q t && flags t) || is_commit move.kind else flags u) (slice_get half.threads u)
      before_start u true same =
          subst (λ v. IsSafeThread P rel A next_memory (locks_after move.change (M.get q.locks)) v ((inside P q t && flags t) || is_commit move.kind) (slice_get half.threads v)) (sym (eqb-true u t same))
          (subst (IsSafeThread P rel A next_memory (locks_after move.change (M.get q.locks)) t ((inside P q t && flags t) || is_commit move.kind)) (sym own_thread) fine.thread)
      before_start u false other =
          subst (IsSafeThread P rel A next_memory (locks_after move.change (M.get q.locks)) u (flags u)) (sym (set_other q.threads t u move.thread (eqb-false u t other)))
          (others_safe (machine_memory P (M.get q.heap)) next_memory (M.get q.locks) (locks_after move.change (M.get q.locks)) u (flags u) fine.grows (fine.others u other) (slice_get q.threads u) (safe.at u))

      thread_safe : (u : ℕ) → IsSafeThread P rel A next_memory (locks_after move.change (M.get q.locks)) u (flags_after P q flags t move.kind u) (slice_get (moved t move q).threads u)
      thread_safe u = after_safe next_memory (locks_after move.change (M.get q.locks)) u (flags_after P q flags t move.kind u) move.change fine.started
          (slice_get half.threads u) (slice_get (moved t move q).threads u) (thread_after move.change half u) (before_start u (u == t) refl)

      pub next_safe : IsSafe P rel A (moved t move q) (flags_after P q flags t move.kind)
      next_safe = record {
        at = λ u.
            subst (λ locks. IsSafeThread P rel A (machine_memory P (M.get (moved t move q).heap)) locks u (flags_after P q flags t move.kind u) (slice_get (moved t move q).threads u)) (sym (locks_are move.change half))
            (subst (λ objects. IsSafeThread P rel A (machine_memory P objects) (locks_after move.change (M.get q.locks)) u (flags_after P q flags t move.kind u) (slice_get (moved t move q).threads u)) (sym (heap_after move.change half)) (thread_safe u));
      }

    pub step_fine : (q : State) (flags : ℕ → Bool) (t : ℕ) (move : Move) → IsNumbered q.heap → IsSafe P rel A q flags → outcome P q t ≡ Moves move → StepFine P rel A (seen_by t q) t (inside P q t) (flags t) move
    step_fine q flags t move numbered safe is = subst (Fine P rel A (seen_by t q) t (inside P q t) (flags t)) is (outcome_fine q flags t numbered safe)

    -- a step keeps every thread safe
    pub step_safe : (q : State) (flags : ℕ → Bool) (t : ℕ) (move : Move) → IsNumbered q.heap → IsSafe P rel A q flags → outcome P q t ≡ Moves move → IsSafe P rel A (moved t move q) (flags_after P q flags t move.kind)
    step_safe q flags t move numbered safe is = next_safe q flags t safe move is (step_fine q flags t move numbered safe is)

  no_lock : (t : ℕ) → Owns t [] (M.get (initial P).locks)
  no_lock t a = ap (held_count t) (get-empty address_cmp a)

  -- the state at the start
  pub initial_safe : IsFree P P.main → IsSafe P rel A (initial P) (λ t. false)
  initial_safe free = record { at = at }
    where
      at : (t : ℕ) → IsSafeThread P rel A (machine_memory P (M.get (initial P).heap)) (M.get (initial P).locks) t false (slice_get (initial P).threads t)
      at zero = (no_lock zero, refl, free)
      at (suc t) = (no_lock (suc t), refl)
