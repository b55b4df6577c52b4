-- The state at the start is typed, and each step keeps that.
use Rattle.std.proofs.Common.{◌≡◌, ℕ, zero, suc, Bool, true, false, ◌==◌, List, [], ◌∷◌, Some, None, refl, sym, ap, subst, ◌∙◌}
use Rattle.std.specs.Prelude.{Option, slice_get, slice_set, option_and_then}
use Rattle.std.specs.FinMap as M
use Rattle.std.specs.FinMap.{get-empty}
use Rattle.std.proofs.lemmas.Bool.{eqb-true, eqb-false}
use Rattle.std.proofs.lemmas.Option.{none-some, same_Some}
use Rattle.base.proofs.Lists.{set_other}
use Rattle.core_program.specs.Core.{Program, Class, Method}
use Rattle.core_program.specs.Types.{field_types}
use Rattle.core_program.specs.Typed.{IsTyped}
use Rattle.state.specs.declared.value.Address.{Address}
use Rattle.state.specs.Memory.{Object, IsNumbered, address_cmp, field_value}
use Rattle.state.specs.States.{Thread, State, initial, main_address, new_object}
use Rattle.state.proofs.MemoryLemmas.{set_same, get-insert_same}
use Rattle.state.proofs.Numbering.{next_free}
use Rattle.semantics.specs.Step.{Change, ObjectIs, Shared, Move, Moves, seen_by, turn, outcome, moved, step}
use Rattle.semantics.specs.Changes.{objects_after}
use Rattle.semantics.specs.Run.{run, run_from}
use Rattle.semantics.proofs.Changed.{heap_after, ThreadAfter, kept, begun, thread_after}
use Rattle.semantics.proofs.RunLemmas.{step_numbered, initial_numbered, moves_in}
use Rattle.levels.specs.SlotTypes.{AreMarked, taken_by_new}
use Rattle.levels.specs.TypedStates.{Stays, IsTypedHeap, IsTypedStart, IsTypedThread, IsTypedState}
use Rattle.levels.proofs.ClassMarks.{kind_marked}
use Rattle.levels.proofs.Heaps.{HasTypes, made_typed}
use Rattle.levels.proofs.TypedChanges.{IsSuitedProgram, IsTypedChange, start_stays, thread_stays}
use Rattle.levels.proofs.TypedSteps.{StepTyped, OutcomeTyped, turn_typed}
use Rattle.levels.proofs.Suiting.{suited_program}

-- what each step keeps, each run keeps; objects are numbered all along
pub runs_keep : (P : Program) (Q : State → Type 0) → ((q : State) (t : ℕ) (move : Move) → IsNumbered q.heap → Q q → outcome P q t ≡ Moves move → Q (moved t move q))
    → (s : List ℕ) (q r : State) → IsNumbered q.heap → Q q → run_from P q s ≡ Some r → Q r
runs_keep P Q keeps [] q r numbered holds is = subst Q (same_Some q r is) holds
runs_keep P Q keeps (t ∷ s) q r numbered holds is =
    elim (step P q t) as (λ o. step P q t ≡ o → option_and_then (λ next. run_from P next s) o ≡ Some r → Q r) [
      | None ↦ λ e ran. absurd (none-some r ran)
      | Some next ↦ λ e ran. let m = moves_in P q next t (outcome P q t) refl e in
          runs_keep P Q keeps s next r (step_numbered P q t next numbered e) (subst Q m.2 (keeps q t m.0 numbered holds m.1)) ran
    ] refl is

-- a thread that steps is there
pub stepping : (P : Program) (see : Shared) (t : ℕ) (o : Option Thread) (move : Move) → turn P see t o ≡ Moves move → (x : Thread) × (o ≡ Some x)
stepping P see t None move is = absurd cc
stepping P see t (Some x) move is = (x, refl)

module _ (P : Program) (mark : ℕ → ℕ) where
  -- a thread after a change: as before, or new
  after_typed : (old objects : Address → Option Object) → Stays old objects → (c : Change) → IsTypedChange P mark old c → (before after : Option Thread) → ThreadAfter c before after → IsTypedThread P mark objects before → IsTypedThread P mark objects after
  after_typed old objects stays c starts before _ kept typed = typed
  after_typed old objects stays c starts before _ (begun a m is none) typed = start_stays P mark old objects stays a m (subst (IsTypedChange P mark old) is starts)

  module _ (program : IsSuitedProgram P mark) where
    -- a step of a typed state
    pub step_is_typed : (q : State) (t : ℕ) (move : Move) → IsNumbered q.heap → IsTypedState P mark q → outcome P q t ≡ Moves move → StepTyped P mark (seen_by t q) t move
    step_is_typed q t move numbered typed is = subst (OutcomeTyped P mark (seen_by t q) t) is (turn_typed P mark (seen_by t q) t program typed.heap (next_free q.heap t numbered) (slice_get q.threads t) (typed.threads t))

    module _ (q : State) (t : ℕ) (move : Move) (typed : IsTypedState P mark q) (is : outcome P q t ≡ Moves move) (fine : StepTyped P mark (seen_by t q) t move) where
      abbrev half : State
      half = record q { threads = slice_set q.threads t move.thread }

      abbrev later : Address → Option Object
      later = objects_after move.change (M.get q.heap)

      own_thread : slice_get (slice_set q.threads t move.thread) t ≡ Some move.thread
      own_thread = let x = stepping P (seen_by t q) t (slice_get q.threads t) move is in set_same q.threads t move.thread x.0 x.1

      before_start : (u : ℕ) (b : Bool) → (u == t) ≡ b → IsTypedThread P mark later (slice_get half.threads u)
      before_start u true same = subst (λ v. IsTypedThread P mark later (slice_get half.threads v)) (sym (eqb-true u t same)) (subst (IsTypedThread P mark later) (sym own_thread) fine.thread)
      before_start u false other =
          subst (IsTypedThread P mark later) (sym (set_other q.threads t u move.thread (eqb-false u t other))) (thread_stays P mark (M.get q.heap) later fine.stays (slice_get q.threads u) (typed.threads u))

      next_typed : IsTypedState P mark (moved t move q)
      next_typed = record {
        heap = subst (IsTypedHeap P mark) (sym (heap_after move.change half)) fine.heap;
        threads = λ u. subst (λ objects. IsTypedThread P mark objects (slice_get (moved t move q).threads u)) (sym (heap_after move.change half))
            (after_typed (M.get q.heap) later fine.stays move.change fine.started (slice_get half.threads u) (slice_get (moved t move q).threads u) (thread_after move.change half u) (before_start u (u == t) refl));
      }

    pub step_typed : (q : State) (t : ℕ) (move : Move) → IsNumbered q.heap → IsTypedState P mark q → outcome P q t ≡ Moves move → IsTypedState P mark (moved t move q)
    step_typed q t move numbered typed is = next_typed q t move typed is (step_is_typed q t move numbered typed is)

  module _ (typed : IsTyped P) (marked : AreMarked P mark) where
    abbrev nothing : Address → Option Object
    nothing = M.get {R = address_cmp} M.empty

    empty_typed : IsTypedHeap P mark nothing
    empty_typed a f field v is found = absurd (none-some v (ap (λ o. field_value P f o (Some field)) (sym (get-empty address_cmp a)) ∙ found))

    no_arguments : (o : Option Class) → slice_get P.classes P.main_class ≡ o → HasTypes mark nothing (taken_by_new P o) []
    no_arguments None is = refl
    no_arguments (Some class) is = subst (λ fs. HasTypes mark nothing (field_types P fs) []) (sym (typed.no_finals class is)) refl

    first_heap : M.get (initial P).heap ≡ objects_after (ObjectIs main_address (new_object P P.main_class [])) nothing
    first_heap = heap_after (ObjectIs main_address (new_object P P.main_class [])) (record { heap = M.empty; locks = M.empty; threads = []; output = [] })

    first_start : IsTypedStart P mark (M.get (initial P).heap) main_address P.main
    first_start = record {
      object = new_object P P.main_class [];
      there = get-insert_same M.empty main_address (new_object P P.main_class []);
      no_parameters = λ method is. ap (λ (x : Method). x.params) (same_Some method typed.main.method (sym is ∙ typed.main.is)) ∙ typed.main.no_parameters;
      of_class = λ method is. ap (λ (x : Method). mark x.class) (same_Some method typed.main.method (sym is ∙ typed.main.is)) ∙ sym (kind_marked P mark marked P.main_class typed.main.method.class typed.main.of_class);
    }

    first_threads : (t : ℕ) → IsTypedThread P mark (M.get (initial P).heap) (slice_get (initial P).threads t)
    first_threads zero = first_start
    first_threads (suc t) = tt

    -- the state at the start
    pub initial_typed : IsTypedState P mark (initial P)
    initial_typed = record {
      heap = subst (IsTypedHeap P mark) (sym first_heap)
          (made_typed mark P nothing main_address P.main_class [] (get-empty address_cmp main_address) (λ class is. (typed.classes P.main_class class is).finals) (no_arguments (slice_get P.classes P.main_class) refl) empty_typed);
      threads = first_threads;
    }

    -- each state to which a schedule runs
    pub runs_typed : (s : List ℕ) (q : State) → run P s ≡ Some q → IsTypedState P mark q
    runs_typed s q is = runs_keep P (IsTypedState P mark) (λ q t move numbered holds is. step_typed (suited_program P mark marked typed) q t move numbered holds is) s (initial P) q (initial_numbered P) initial_typed is
