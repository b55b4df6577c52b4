-- Along every run of an ordered program threads are walked, and no threads wait for each other in a circle.
use Rattle.std.proofs.Common.{◌≡◌, ◌⊎◌, inl, inr, ◌≤◌, ◌<◌, ℕ, zero, suc, ◌+◌, Bool, true, false, ◌||◌, ◌==◌, List, [], ◌∷◌, Some, None, refl, sym, ap, subst, ◌∙◌, arith}
use Rattle.std.specs.Prelude.{Option, slice_get, slice_set, nat_lt, max, length, if◌then◌else◌}
use Rattle.std.specs.FinMap as M
use Rattle.std.specs.FinMap.{get-empty}
use Rattle.std.proofs.lemmas.Bool.Decides.{nat_tests}
use Rattle.std.proofs.lemmas.Bool.{eqb-true, eqb-false, eq-eqb, ltb-true}
use Rattle.std.proofs.lemmas.Option.{none-some, same_Some}
use Rattle.base.proofs.Lists.{set_other}
use Rattle.paths.specs.Paths.{PathData}
use Rattle.algebra.specs.HeldPaths.{with_path}
use Rattle.core_program.specs.Core.{Program, Method}
use Rattle.core_program.specs.Dispatch.{target_of}
use Rattle.core_program.specs.Typed.{IsTyped, parameters}
use Rattle.core_program.proofs.Running.{itself_or_over, same_result}
use Rattle.rules.specs.Near.{MethodPaths, AreRelevant, rel_of}
use Rattle.state.specs.declared.value.Address.{Address}
use Rattle.state.specs.declared.value.Value.TheVariants as value
use Rattle.state.specs.declared.value.StepKind.TheVariants.{Both, Other}
use Rattle.state.specs.Values.{top, under, as_int, as_truth, address_of, unary_value, binary_value}
use Rattle.state.specs.Memory.{Object, Hold, IsNumbered, address_cmp}
use Rattle.state.specs.Work as W
use Rattle.state.specs.Work.{Action, Item, Act, Next, unfolded}
use Rattle.state.specs.States.{Frame, Thread, Ready, Running, Done, Faulted, State, initial}
use Rattle.state.proofs.MemoryLemmas.{set_same}
use Rattle.state.proofs.Numbering.{next_free}
use Rattle.semantics.specs.Step.{Change, Prints, Shared, Move, Moves, seen_by, act, act_next, enter_first, turn, outcome, moved}
use Rattle.semantics.specs.Locking.{holds}
use Rattle.semantics.specs.Changes.{objects_after, locks_after}
use Rattle.semantics.specs.Run.{run}
use Rattle.semantics.specs.Waiting.{WaitsFor}
use Rattle.semantics.proofs.Changed.{heap_after, locks_are, ThreadAfter, kept, begun, thread_after}
use Rattle.semantics.proofs.RunLemmas.{initial_numbered}
use Rattle.reduction.specs.Leads.{env_of, machine_memory, lead, Grows, Paths, LeadsTo, top_path}
use Rattle.reduction.specs.Fits.{has_release, count_release, awaited}
use Rattle.reduction.specs.Safe.{LeadEach, Owns, releases_in_work, count_frames, held_count}
use Rattle.reduction.proofs.LeadLemmas.{grows_itself, each_top}
use Rattle.reduction.proofs.FrameLemmas.{held_counts}
use Rattle.reduction.proofs.Actions.{address_is, counted_holds}
use Rattle.reduction.proofs.Counting.{Counts, NoReleases, Settled, unfolded_count, unfolded_settled}
use Rattle.reduction.proofs.Scopes.{stmt_tidy}
use Rattle.reduction.proofs.Roots.{parameters_scope, relevant_rooted}
use Rattle.levels.specs.SlotTypes.{AreMarked, slot_types}
use Rattle.levels.specs.TypedStates.{Stays, IsTypedHeap, AreTypedSlots, IsTypedFrame, IsTypedThread, IsTypedState}
use Rattle.levels.proofs.Suiting.{suited_program}
use Rattle.levels.proofs.TypedRuns.{runs_keep, stepping, step_is_typed, step_typed, initial_typed}
use Rattle.levels.proofs.TypedChanges.{IsSuitedProgram}
use Rattle.levels.specs.Walks.{LevelVisit, Bad, lock_class, sync_visits, visits}
use Rattle.levels.specs.Contexts.{Context, at_main, at_call, IsOrdered}
use Rattle.levels.specs.Circles.{IsChain, Circle}
use Rattle.levels.proofs.Ranked.{IsUnder, Fine, RankedNext, RankedOpens, FramesRanked, RankedThread, AreCounted}
use Rattle.levels.proofs.Opening.{unfolds, frames_grow}
use Rattle.levels.proofs.RankedSteps.{IsOrderedProgram, RankedChange, StepRanked, OutcomeRanked, fault_ranked, go, go_with, load_ranked, store_ranked, binary_ranked, and_ranked, or_ranked, choose_ranked, loop_ranked, get_ranked, put_ranked, new_ranked, return_ranked, start_ranked, once}
use Rattle.levels.proofs.RankedLocks.{lock_typed, acquire_ranked, release_ranked}
use Rattle.levels.proofs.RankedCalls.{call_ranked}

-- methods that run for another leave a result where it does
abbrev AreAlikeResults : Program → Type 0
AreAlikeResults P = (c m n : ℕ) (called running : Method) → target_of P c m ≡ Some n → slice_get P.methods m ≡ Some called → slice_get P.methods n ≡ Some running → running.result ≡ called.result

module _ (P : Program) (rel : ℕ → List PathData) (level : ℕ → ℕ) (program : IsOrderedProgram P rel level) (alike : AreAlikeResults P) where
  module _ (see : Shared) (t : ℕ) (free : see.object_at (record { thread = t; count = see.made }) ≡ None) (counted : AreCounted see.lock_at) (heap : IsTypedHeap P level see.object_at) where
    module _ (f : Frame) (below : List Frame) (method : Method) (is : slice_get P.methods f.method ≡ Some method) (typed : AreTypedSlots P level see.object_at (slot_types method) f.slots)
        (own_frame : Owns t (f ∷ below) see.lock_at) (further : FramesRanked P rel level see.object_at below (awaited P f.method)) where
      act_ranked : (action : Action) (rest : List Item) (os : Paths) → LeadEach P (machine_memory P see.object_at) (env_of f.slots) os f.operands
          → ((a : Address) → held_count t (see.lock_at a) ≡ count_release a (Act action ∷ rest) + count_frames a below) → NoReleases action rest
          → RankedNext P rel level (slot_types method) see.object_at (releases_in_work below) (action, rest) (env_of f.slots) os → OutcomeRanked P rel level see t (act P see t f below rest action)
      act_ranked (W.Push v) rest os known own none r = go P rel level see t program counted f below rest method is own_frame further own Both (v ∷ f.operands) rest (None ∷ os) (tt, known) r (λ a. refl)
      act_ranked (W.Load x) rest os known own none r = load_ranked P rel level see t program counted f below rest method is own_frame further own os known x r.0 r.1 r.2 (slice_get f.slots x) refl
      act_ranked (W.Store x) rest os known own none r = store_ranked P rel level see t program counted f below rest method is own_frame further own os known x r (slice_get f.slots x) refl
      act_ranked W.Drop rest os known own none r = go P rel level see t program counted f below rest method is own_frame further own Both (under f.operands) rest _ (once P rel level see t program counted f below rest method is own_frame further own os known) r (λ a. refl)
      act_ranked (W.Unary op) rest os known own none r = go P rel level see t program counted f below rest method is own_frame further own Both (unary_value op (top f.operands) ∷ under f.operands) rest _ (tt, once P rel level see t program counted f below rest method is own_frame further own os known) r (λ a. refl)
      act_ranked (W.Binary op) rest os known own none r = binary_ranked P rel level see t program counted f below rest method is own_frame further own os known r (binary_value op (top (under f.operands)) (top f.operands))
      act_ranked (W.AndThen e) rest os known own none r = and_ranked P rel level see t program counted f below rest method is own_frame further own os known e r (as_truth (top f.operands))
      act_ranked (W.OrElse e) rest os known own none r = or_ranked P rel level see t program counted f below rest method is own_frame further own os known e r (as_truth (top f.operands))
      act_ranked (W.Choose s u) rest os known own none r = choose_ranked P rel level see t program counted f below rest method is own_frame further own os known s u r (as_truth (top f.operands))
      act_ranked (W.Loop e s) rest os known own none r = loop_ranked P rel level see t program counted f below rest method is own_frame further own os known e s r (as_truth (top f.operands))
      act_ranked (W.Get x) rest os known own none r = get_ranked P rel level see t program counted f below rest method is own_frame further own os known x r (address_of (top f.operands)) refl
      act_ranked (W.Put x) rest os known own none r = put_ranked P rel level see t program counted f below rest method is own_frame further own os known x r (address_of (top (under f.operands)))
      act_ranked (W.New c) rest os known own none r = new_ranked P rel level see t program counted f below rest method is own_frame further own os known c r free (slice_get P.classes c) refl
      act_ranked (W.Call m) rest os known own none r = call_ranked P rel level see t program counted f below rest method is own_frame further own os known alike m r (slice_get P.methods m) refl
      act_ranked (W.Acquire s) rest os known own none r = acquire_ranked P rel level see t program counted f below rest method is own_frame further own os known heap typed s r (address_of (top f.operands)) refl
      act_ranked (W.Release a) rest os known own none r = release_ranked P rel level see t program counted f below rest method is own_frame further a own r (see.lock_at a) refl
      act_ranked W.Ret rest os known own none r = return_ranked P rel level see t program counted f below rest method is own_frame further own none
      act_ranked W.Print rest os known own none r = go_with P rel level see t program counted f below rest method is own_frame further own Other (under f.operands) rest _ (Prints (as_int (top f.operands)))
          (once P rel level see t program counted f below rest method is own_frame further own os known) r (λ a. refl) (grows_itself P (machine_memory P see.object_at)) refl tt
      act_ranked W.Start rest os known own none r = start_ranked P rel level see t program counted f below rest method is own_frame further own os known r (address_of (top f.operands))

      counts_next : (n m k x : ℕ) → x ≡ n + k → m ≡ n → x ≡ m + k
      counts_next n m k x e same = omega (arith, e, same)

      next_ranked : (o : Option Next) (os : Paths) → LeadEach P (machine_memory P see.object_at) (env_of f.slots) os f.operands → ((a : Address) → Counts a o (count_release a f.work)) → Settled o
          → RankedOpens P rel level (slot_types method) see.object_at (releases_in_work below) o (env_of f.slots) os → OutcomeRanked P rel level see t (act_next P see t f below o)
      next_ranked None os known counts settled r = fault_ranked P rel level see t program counted f below [] method is own_frame further Rattle.state.specs.declared.value.Fault.TheVariants.Null
      next_ranked (Some next) os known counts settled r = act_ranked next.0 next.1 os known
          (λ a. counts_next (count_release a f.work) (count_release a (Act next.0 ∷ next.1)) (count_frames a below) (held_count t (see.lock_at a)) (own_frame a) (counts a)) settled r

      either_ranked : (os : Paths) → LeadEach P (machine_memory P see.object_at) (env_of f.slots) os f.operands
          → RankedOpens P rel level (slot_types method) see.object_at (releases_in_work below) (unfolded f.work) (env_of f.slots) os ⊎ RankedOpens P rel level (slot_types method) see.object_at (releases_in_work below) (unfolded f.work) (env_of f.slots) []
          → OutcomeRanked P rel level see t (act_next P see t f below (unfolded f.work))
      either_ranked os known (inl r) = next_ranked (unfolded f.work) os known (λ a. unfolded_count a f.work) (unfolded_settled f.work) r
      either_ranked os known (inr r) = next_ranked (unfolded f.work) [] tt (λ a. unfolded_count a f.work) (unfolded_settled f.work) r

    slots_of : (f : Frame) (method : Method) → slice_get P.methods f.method ≡ Some method → (typed : IsTypedFrame P level see.object_at f []) → AreTypedSlots P level see.object_at (slot_types method) f.slots
    slots_of f method is typed = subst (λ (m : Method). AreTypedSlots P level see.object_at (slot_types m) f.slots) (same_Some typed.method method (sym typed.is ∙ is)) typed.slots

    frame_ranked : (f : Frame) (below : List Frame) → FramesRanked P rel level see.object_at (f ∷ below) [] → IsTypedFrame P level see.object_at f [] → Owns t (f ∷ below) see.lock_at → OutcomeRanked P rel level see t (act_next P see t f below (unfolded f.work))
    frame_ranked f below walked typed own =
        either_ranked f below walked.0.method walked.0.is (slots_of f walked.0.method walked.0.is typed) own walked.1 walked.0.paths walked.0.leads
        (unfolds P rel level (slot_types walked.0.method) see.object_at (releases_in_work below) f.work (env_of f.slots) walked.0.paths walked.0.ranked)

    first_ranked : (a : Address) (m : ℕ) → Owns t [] see.lock_at → Context P rel level m (λ q. false) 0 → (o : Option Method) → slice_get P.methods m ≡ o → OutcomeRanked P rel level see t (enter_first P see t a m o)
    first_ranked a m own context None at = record { thread = own; others = λ u other b. refl; grows = grows_itself P (machine_memory P see.object_at); counted = counted; started = tt }
    first_ranked a m own context (Some method) at = record {
      thread = (
        (
          record {
            method = method;
            is = at;
            paths = [];
            leads = tt;
            ranked = (
              record {
                set = λ q. false;
                under = 0;
                stands = record { sound = record { at = λ q has. absurd (let e : false ≡ true = has in cc) }; high = λ b has. absurd (let e : false ≡ true = has in cc) };
                rest = (record { at = λ q has. absurd (let e : false ≡ true = has in cc) }, program.tidy m method at, (0, program.fine m method (λ q. false) 0 at context));
              },
              λ later agrees. tt,
            );
          },
          tt,
        ),
        λ b. own b,
      );
      others = λ u other b. refl;
      grows = grows_itself P (machine_memory P see.object_at);
      counted = counted;
      started = tt;
    }

    -- the turn of a thread that is walked
    turn_ranked : (thread : Option Thread) → RankedThread P rel level see.object_at see.lock_at t thread → IsTypedThread P level see.object_at thread → OutcomeRanked P rel level see t (turn P see t thread)
    turn_ranked None walked typed = tt
    turn_ranked (Some (Ready a m)) walked typed = first_ranked a m walked.0 walked.1 (slice_get P.methods m) refl
    turn_ranked (Some (Running [])) walked typed = record { thread = walked.1; others = λ u other b. refl; grows = grows_itself P (machine_memory P see.object_at); counted = counted; started = tt }
    turn_ranked (Some (Running (f ∷ below))) walked typed = frame_ranked f below walked.0 typed.0 walked.1
    turn_ranked (Some Done) walked typed = tt
    turn_ranked (Some (Faulted why fs)) walked typed = tt

  -- States.

  record IsRankedState (q : State) : Type 0 where
    typed : IsTypedState P level q
    counted : AreCounted (M.get q.locks)
    threads : (t : ℕ) → RankedThread P rel level (M.get q.heap) (M.get q.locks) t (slice_get q.threads t)

  thread_grows : (old new : Address → Option Object) → Grows P (machine_memory P old) (machine_memory P new) → Stays old new → (locks later : Address → Option Hold) (u : ℕ) → ((b : Address) → held_count u (later b) ≡ held_count u (locks b))
      → (thread : Option Thread) → RankedThread P rel level old locks u thread → RankedThread P rel level new later u thread
  thread_grows old new grows stays locks later u same None r = λ a. same a ∙ r a
  thread_grows old new grows stays locks later u same (Some (Ready a m)) r = (λ b. same b ∙ r.0 b, r.1)
  thread_grows old new grows stays locks later u same (Some (Running fs)) r = (frames_grow P rel level old new grows stays fs [] r.0, λ a. same a ∙ r.1 a)
  thread_grows old new grows stays locks later u same (Some Done) r = λ a. same a ∙ r a
  thread_grows old new grows stays locks later u same (Some (Faulted why fs)) r = λ a. same a ∙ r a

  after_ranked : (objects : Address → Option Object) (locks : Address → Option Hold) (u : ℕ) (c : Change) (see : Shared) (t : ℕ) → RankedChange P rel level see t c → (before after : Option Thread) → ThreadAfter c before after
      → RankedThread P rel level objects locks u before → RankedThread P rel level objects locks u after
  after_ranked objects locks u c see t starts before _ kept r = r
  after_ranked objects locks u c see t starts before _ (begun a m is none) r = (subst (RankedThread P rel level objects locks u) none r, subst (RankedChange P rel level see t) is starts)

  module _ (suited : IsSuitedProgram P level) (q : State) (t : ℕ) (move : Move) (numbered : IsNumbered q.heap) (state : IsRankedState q) (is : outcome P q t ≡ Moves move) where
    fine : StepRanked P rel level (seen_by t q) t move
    fine = subst (OutcomeRanked P rel level (seen_by t q) t) is (turn_ranked (seen_by t q) t (next_free q.heap t numbered) state.counted state.typed.heap (slice_get q.threads t) (state.threads t) (state.typed.threads t))

    stays : Stays (M.get q.heap) (objects_after move.change (M.get q.heap))
    stays = (step_is_typed P level suited q t move numbered state.typed is).stays

    abbrev half : State
    half = record q { threads = slice_set q.threads t move.thread }

    own_thread : slice_get (slice_set q.threads t move.thread) t ≡ Some move.thread
    own_thread = let x = stepping P (seen_by t q) t (slice_get q.threads t) move is in set_same q.threads t move.thread x.0 x.1

    before_start : (u : ℕ) (b : Bool) → (u == t) ≡ b → RankedThread P rel level (objects_after move.change (M.get q.heap)) (locks_after move.change (M.get q.locks)) u (slice_get half.threads u)
    before_start u true same =
        subst (λ v. RankedThread P rel level (objects_after move.change (M.get q.heap)) (locks_after move.change (M.get q.locks)) v (slice_get half.threads v)) (sym (eqb-true u t same))
        (subst (RankedThread P rel level (objects_after move.change (M.get q.heap)) (locks_after move.change (M.get q.locks)) t) (sym own_thread)
        (thread_grows (M.get q.heap) (objects_after move.change (M.get q.heap)) fine.grows stays (locks_after move.change (M.get q.locks)) (locks_after move.change (M.get q.locks)) t (λ b. refl) (Some move.thread) fine.thread))
    before_start u false other =
        subst (RankedThread P rel level (objects_after move.change (M.get q.heap)) (locks_after move.change (M.get q.locks)) u) (sym (set_other q.threads t u move.thread (eqb-false u t other)))
        (thread_grows (M.get q.heap) (objects_after move.change (M.get q.heap)) fine.grows stays (M.get q.locks) (locks_after move.change (M.get q.locks)) u (fine.others u other) (slice_get q.threads u) (state.threads u))

    thread_ranked : (u : ℕ) → RankedThread P rel level (objects_after move.change (M.get q.heap)) (locks_after move.change (M.get q.locks)) u (slice_get (moved t move q).threads u)
    thread_ranked u = after_ranked (objects_after move.change (M.get q.heap)) (locks_after move.change (M.get q.locks)) u move.change (seen_by t q) t fine.started (slice_get half.threads u) (slice_get (moved t move q).threads u) (thread_after move.change half u) (before_start u (u == t) refl)

    next_state : IsRankedState (moved t move q)
    next_state = record {
      typed = step_typed P level suited q t move numbered state.typed is;
      counted = subst AreCounted (sym (locks_are move.change half)) fine.counted;
      threads = λ u.
          subst (λ locks. RankedThread P rel level (M.get (moved t move q).heap) locks u (slice_get (moved t move q).threads u)) (sym (locks_are move.change half))
          (subst (λ objects. RankedThread P rel level objects (locks_after move.change (M.get q.locks)) u (slice_get (moved t move q).threads u)) (sym (heap_after move.change half)) (thread_ranked u));
    }

  no_lock : (t : ℕ) → Owns t [] (M.get (initial P).locks)
  no_lock t a = ap (held_count t) (get-empty address_cmp a)

  first_threads : (t : ℕ) → RankedThread P rel level (M.get (initial P).heap) (M.get (initial P).locks) t (slice_get (initial P).threads t)
  first_threads zero = (no_lock zero, at_main)
  first_threads (suc t) = no_lock (suc t)

  first_state : IsTypedState P level (initial P) → IsRankedState (initial P)
  first_state typed = record { typed = typed; counted = λ a hold held. absurd (none-some hold (sym (get-empty address_cmp a) ∙ held)); threads = first_threads }

  -- Waiting threads.

  -- the level of an object's class
  abbrev rank : Option Object → ℕ
  rank None = 0
  rank (Some o) = level o.class

  module _ (q : State) (state : IsRankedState q) where
    module _ (t : ℕ) (a : Address) (u : ℕ) (w : WaitsFor q t a u) where
      walked : RankedThread P rel level (M.get q.heap) (M.get q.locks) t (Some (Running (w.frame ∷ w.below)))
      walked = subst (RankedThread P rel level (M.get q.heap) (M.get q.locks) t) w.running (state.threads t)

      typed : IsTypedThread P level (M.get q.heap) (Some (Running (w.frame ∷ w.below)))
      typed = subst (IsTypedThread P level (M.get q.heap)) w.running (state.typed.threads t)

      abbrev method : Method
      method = walked.0.0.method

      abbrev Acquires : Paths → Type 0
      Acquires os = RankedNext P rel level (slot_types walked.0.0.method) (M.get q.heap) (releases_in_work w.below) (W.Acquire w.part, w.rest) (env_of w.frame.slots) os

      owns_rest : (b : Address) → held_count t (M.get q.locks b) ≡ count_release b w.rest + count_frames b w.below
      owns_rest b = walked.1 b ∙ ap (λ n. n + count_frames b w.below) (sym (subst (λ o. Counts b o (count_release b w.frame.work)) w.acquires (unfolded_count b w.frame.work)))

      -- a lock that the thread holds
      held_is : (b : Address) (hold : Hold) → M.get q.locks b ≡ Some hold → hold.holder ≡ t → (has_release b w.rest || releases_in_work w.below b) ≡ true
      held_is b hold held mine = held_counts b w.rest w.below ∙ some_counted (count_release b w.rest + count_frames b w.below) hold.count
          (state.counted b hold held) (sym (ap (λ c. if c then hold.count else 0) (eq-eqb hold.holder t mine)) ∙ sym (ap (held_count t) held) ∙ owns_rest b)
        where
          some_counted : (n m : ℕ) → 0 < m → m ≡ n → nat_lt 0 n ≡ true
          some_counted n m some same = grind (arith, nat_tests)

      -- the thread doesn't hold the lock that it waits for
      not_held : (has_release a w.rest || releases_in_work w.below a) ≡ true → ⊥
      not_held has =
          let mine = counted_holds t (M.get q.locks a) (count_release a w.rest + count_frames a w.below) (owns_rest a) (sym (held_counts a w.rest w.below) ∙ has) in
          let holder : w.hold.holder ≡ t = eqb-true w.hold.holder t (sym (ap (holds t) w.held) ∙ mine) in
          w.another (sym w.by ∙ holder)

      rank_under : (under : ℕ) (b : Address) → IsUnder level (M.get q.heap) under b → rank (M.get q.heap b) ≤ under
      rank_under under b (o, is, low) = subst (λ x. rank x ≤ under) (sym is) low

      -- the walk's level is below that of the lock
      taken_above : (os : Paths) → LeadsTo P (machine_memory P (M.get q.heap)) (env_of w.frame.slots) (top_path os) (top w.frame.operands) → (r : Acquires os) → (r.0.under) < rank (M.get q.heap a)
      taken_above os leads r = by_set (r.0.set r.0.rest.0) refl r.0.rest.5.0 r.0.rest.5.1
        where
          p : PathData
          p = r.0.rest.0

          path_leads : lead P (machine_memory P (M.get q.heap)) (env_of w.frame.slots) r.0.rest.0 ≡ Some (value.Ref a)
          path_leads = subst (λ o. LeadsTo P (machine_memory P (M.get q.heap)) (env_of w.frame.slots) o (value.Ref a)) r.0.rest.1
              (subst (LeadsTo P (machine_memory P (M.get q.heap)) (env_of w.frame.slots) (top_path os)) (address_is (top w.frame.operands) a w.operand) leads)

          ref_same : {x y : Address} → value.Ref x ≡ value.Ref y → x ≡ y
          ref_same {x = x} {y = y} e = cc

          in_set : r.0.set r.0.rest.0 ≡ true → ⊥
          in_set has =
              let at = r.0.stands.sound.at r.0.rest.0 has in
              let same : value.Ref a ≡ value.Ref at.0 = same_Some _ _ (sym path_leads ∙ at.1) in
              not_held (subst (λ b. (has_release b w.rest || releases_in_work w.below b) ≡ true) (sym (ref_same same)) at.2)

          slots_typed : AreTypedSlots P level (M.get q.heap) (slot_types walked.0.0.method) w.frame.slots
          slots_typed = subst (λ (m : Method). AreTypedSlots P level (M.get q.heap) (slot_types m) w.frame.slots) (same_Some typed.0.method walked.0.0.method (sym typed.0.is ∙ walked.0.0.is)) typed.0.slots

          above_if : (b : Bool) (n : ℕ) (vs : List LevelVisit) → nat_lt r.0.under (level (lock_class P (slot_types walked.0.0.method) r.0.rest.0)) ≡ b
              → Fine P rel level (if b then vs else Bad n (lock_class P (slot_types walked.0.0.method) r.0.rest.0) r.0.under ∷ vs) → r.0.under < level (lock_class P (slot_types walked.0.0.method) r.0.rest.0)
          above_if true n vs e fine = ltb-true r.0.under (level (lock_class P (slot_types walked.0.0.method) r.0.rest.0)) e
          above_if false n vs e fine = absurd (fine.none_bad n (lock_class P (slot_types walked.0.0.method) r.0.rest.0) r.0.under (0, omega arith, refl))

          by_set : (b : Bool) → r.0.set r.0.rest.0 ≡ b → (n : ℕ) → Fine P rel level (sync_visits P rel level (slot_types walked.0.0.method) b n (lock_class P (slot_types walked.0.0.method) r.0.rest.0) r.0.under
              (visits P rel level (slot_types walked.0.0.method) w.part (n + 1) r.0.set r.0.under) (visits P rel level (slot_types walked.0.0.method) w.part (n + 1) (with_path r.0.rest.0 r.0.set) (max r.0.under (level (lock_class P (slot_types walked.0.0.method) r.0.rest.0)))))
              → r.0.under < rank (M.get q.heap a)
          by_set true has n fine = absurd (in_set has)
          by_set false has n fine =
              let o = lock_typed P level (M.get q.heap) state.typed.heap (slot_types walked.0.0.method) w.frame.slots r.0.rest.0 a slots_typed path_leads in
              let above = above_if (nat_lt r.0.under (level (lock_class P (slot_types walked.0.0.method) r.0.rest.0))) n _ refl fine in
              subst (λ x. r.0.under < rank x) (sym o.1) (subst (λ x. r.0.under < x) (sym o.2) above)

      lower : (os : Paths) → LeadsTo P (machine_memory P (M.get q.heap)) (env_of w.frame.slots) (top_path os) (top w.frame.operands) → Acquires os → (b : Address) → (has_release b w.rest || releases_in_work w.below b) ≡ true → rank (M.get q.heap b) < rank (M.get q.heap a)
      lower os leads r b held = between (rank (M.get q.heap b)) r.0.under (rank (M.get q.heap a)) (rank_under r.0.under b (r.0.stands.high b held)) (taken_above os leads r)
        where
          between : (x y z : ℕ) → x ≤ y → y < z → x < z
          between x y z first second = omega (arith, first, second)

      no_top : (os : Paths) → Acquires [] → ⊥
      no_top os r = none-some r.0.rest.0 r.0.rest.1

      -- each lock that a waiting thread holds is below the one that it waits for
      held_lower : (b : Address) (hold : Hold) → M.get q.locks b ≡ Some hold → hold.holder ≡ t → rank (M.get q.heap b) < rank (M.get q.heap a)
      held_lower b hold held mine =
          elim (unfolds P rel level (slot_types walked.0.0.method) (M.get q.heap) (releases_in_work w.below) w.frame.work (env_of w.frame.slots) walked.0.0.paths walked.0.0.ranked) as (λ _. rank (M.get q.heap b) < rank (M.get q.heap a)) [
            | inl opens ↦ lower walked.0.0.paths (each_top P (machine_memory P (M.get q.heap)) (env_of w.frame.slots) walked.0.0.paths w.frame.operands walked.0.0.leads)
                (subst (λ o. RankedOpens P rel level (slot_types walked.0.0.method) (M.get q.heap) (releases_in_work w.below) o (env_of w.frame.slots) walked.0.0.paths) w.acquires opens) b (held_is b hold held mine)
            | inr opens ↦ absurd (no_top [] (subst (λ o. RankedOpens P rel level (slot_types walked.0.0.method) (M.get q.heap) (releases_in_work w.below) o (env_of w.frame.slots) []) w.acquires opens))
          ]

    -- along a row of waiting threads levels rise
    climb : (us : List ℕ) (t u last : ℕ) (a : Address) → WaitsFor q t a u → IsChain q u us last → (b : Address) × (v : ℕ) × WaitsFor q v b last × (rank (M.get q.heap a) < rank (M.get q.heap b))
    climb [] t u last a w (b, next) = (b, u, next, held_lower u b last next a w.hold w.held w.by)
    climb (v ∷ us) t u last a w (b, next, chain) =
        let further = climb us u v last b next chain in
        (further.0, further.1, further.2, through (rank (M.get q.heap a)) (rank (M.get q.heap b)) (rank (M.get q.heap further.0)) (held_lower u b v next a w.hold w.held w.by) further.3)
      where
        through : (x y z : ℕ) → x < y → y < z → x < z
        through x y z first second = omega (arith, first, second)

    no_circle : Circle q → ⊥
    no_circle c =
        let start = c.waits in
        let top = climb c.others c.first c.second c.first start.0 start.1 start.2 in
        let back = held_lower c.first start.0 c.second start.1 top.0 top.2.hold top.2.held top.2.by in
        both (rank (M.get q.heap start.0)) (rank (M.get q.heap top.0)) top.3 back
      where
        both : (x y : ℕ) → x < y → y < x → ⊥
        both x y first second = omega (arith, first, second)

-- what the proof uses, from types, relevant sets and order
ordered_program : (P : Program) (sets : List MethodPaths) (level : ℕ → ℕ) → IsTyped P → AreRelevant P sets → IsOrdered P (rel_of sets) level → IsOrderedProgram P (rel_of sets) level
ordered_program P sets level typed relevant ordered = record {
  fine = λ m method H under is context. record {
    comes = λ callee known later has k runs. at_call method callee known later context is has runs;
    none_bad = λ place c u has. ordered m place c u (method, H, under, context, is, has);
  };
  tidy = λ m method is. stmt_tidy P typed method.class method.result method.body (parameters method) (1 + length method.params) (typed.methods m method is).body (parameters_scope method);
  rooted = relevant_rooted P typed sets relevant;
  may_run = λ c m n runs. itself_or_over P typed c m n runs;
}

pub no_circles : (P : Program) (sets : List MethodPaths) (level : ℕ → ℕ) → IsTyped P → AreRelevant P sets → AreMarked P level → IsOrdered P (rel_of sets) level → (s : List ℕ) (q : State) → run P s ≡ Some q → Circle q → ⊥
no_circles P sets level typed relevant marked ordered s q is =
    let program = ordered_program P sets level typed relevant ordered in
    let alike : AreAlikeResults P = λ c m n method running runs there at. (same_result P typed c m n runs).same method running there at in
    no_circle P (rel_of sets) level program alike q
    (runs_keep P (IsRankedState P (rel_of sets) level program alike) (λ q t move numbered state is. next_state P (rel_of sets) level program alike (suited_program P level marked typed) q t move numbered state is) s (initial P) q (initial_numbered P)
    (first_state P (rel_of sets) level program alike (initial_typed P level typed marked)) is)
