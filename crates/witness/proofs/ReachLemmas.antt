-- A thread whose next instruction reaches what is always the same has a step that nobody else sees.
use Rattle.std.proofs.Common.{◌≡◌, ℕ, zero, suc, Bool, false, List, [], ◌∷◌, refl, sym, ap, subst, ◌∙◌, Some, None}
use Rattle.std.specs.Prelude.{slice_get, map}
use Rattle.std.specs.Option.{option_map}
use Rattle.std.proofs.lemmas.Option.{same_Some, slice_get-map}
use Rattle.core_program.specs.Core.{Program}
use Rattle.state.specs.declared.value.Address.{Address}
use Rattle.state.specs.declared.value.ThreadState.TheVariants as status
use Rattle.state.specs.Values.{top, address_of}
use Rattle.state.specs.Memory.{IsNumbered}
use Rattle.state.specs.Work as W
use Rattle.state.specs.Work.{Action, Item}
use Rattle.state.specs.States.{Frame, ThreadOf, Thread, Ready, Running, Done, Faulted, State}
use Rattle.state.specs.Frames.{CellFrame, CodeFrame, code_frame, code_thread, thread_status}
use Rattle.compile.specs.declared.stack.Code.{Code}
use Rattle.compile.specs.Standing.{Relation, Agree}
use Rattle.semantics.specs.Run.{inside}
use Rattle.semantics.specs.Step.{has_result}
use Rattle.machine.specs.Likeness.{FramesStand, more_frames, ThreadStands, ready_stands, running_stands, done_stands, faulted_stands, ThreadsStand, no_threads, more_threads, with_work}
use Rattle.witness.specs.Unseen.{action_reach, instr_reach, IsLasting, IsNextLasting, HasUnseenStep}

-- an instruction reaches as far as the action that it stands for
reach_same : (result : Bool) (K : Relation) (c : Code) (taken : List Address) (more : List Item) (a : Action) → Agree result K c taken more a → instr_reach c.instr ≡ action_reach a
reach_same result K c taken more (W.Push v) agree = ap instr_reach agree.0
reach_same result K c taken more (W.Load x) agree = ap instr_reach agree.0
reach_same result K c taken more (W.Store x) agree = ap instr_reach agree.0
reach_same result K c taken more W.Drop agree = ap instr_reach agree.0
reach_same result K c taken more (W.Unary op) agree = ap instr_reach agree.0
reach_same result K c taken more (W.Binary op) agree = ap instr_reach agree.0
reach_same result K c taken more (W.AndThen e) agree = ap instr_reach agree.1
reach_same result K c taken more (W.OrElse e) agree = ap instr_reach agree.1
reach_same result K c taken more (W.Choose s u) agree = ap instr_reach agree.1
reach_same result K c taken more (W.Loop e s) agree = ap instr_reach agree.1
reach_same result K c taken more (W.Get x) agree = ap instr_reach agree.0
reach_same result K c taken more (W.Put x) agree = ap instr_reach agree.0
reach_same result K c taken more (W.New class) agree = ap instr_reach agree.0
reach_same result K c taken more (W.Call m) agree = ap instr_reach agree.0
reach_same result K c taken more (W.Acquire s) agree = ap instr_reach agree.0
reach_same result K c taken more (W.Release a) agree = ap instr_reach agree.1
reach_same result K c taken more W.Ret agree = ap instr_reach agree
reach_same result K c taken more W.Print agree = ap instr_reach agree.0
reach_same result K c taken more W.Start agree = ap instr_reach agree.0

module _ (P : Program) (code : List Code) where
  -- the thread that one stands for
  thread_for : (n : ℕ) (c : ThreadOf CodeFrame) (cs : List (ThreadOf CodeFrame)) (ts : List Thread) → slice_get cs n ≡ Some c → ThreadsStand P code cs ts → (u : Thread) × (slice_get ts n ≡ Some u) × ThreadStands P code c u
  thread_for n c _ _ there no_threads = absurd cc
  thread_for zero c _ _ there (more_threads d u ds us one more) = (u, refl, subst (λ x. ThreadStands P code x u) (same_Some d c there) one)
  thread_for (suc n) c _ _ there (more_threads d u ds us one more) = thread_for n c ds us there more

  module _ (q : State) (t : ℕ) (numbered : IsNumbered q.heap) (outside : inside P q t ≡ false) where
    frames_unseen : (f : CellFrame) (fs : List CodeFrame) (gs : List Frame) → FramesStand P code (code_frame f ∷ fs) gs → slice_get q.threads t ≡ Some (Running gs) → (place : ℕ) (line : Code) → f.place ≡ place → slice_get code place ≡ Some line
        → IsLasting P q.heap (instr_reach line.instr) (address_of (top f.operands)) → HasUnseenStep P q t
    frames_unseen f fs _ (more_frames _ work _ gs left stand) here place line same there lasts =
        let once = left 1 in
        let is_line : once.line ≡ line = same_Some once.line line (sym once.there ∙ ap (slice_get code) same ∙ there) in
        let reaches : instr_reach line.instr ≡ action_reach once.action = ap (λ (c : Code). instr_reach c.instr) (sym is_line) ∙ reach_same (has_result (slice_get P.methods f.method)) (λ x y z. Unit {0}) once.line f.taken once.rest once.action once.agree in
        record {
          numbered = numbered;
          frame = with_work (code_frame f) work;
          below = gs;
          runs = here;
          outside = outside;
          action = once.action;
          rest = once.rest;
          next = once.next;
          lasting = subst (λ r. IsLasting P q.heap r (address_of (top f.operands))) reaches lasts;
        }

    cell_unseen : (cell : ThreadOf CellFrame) (u : Thread) → slice_get q.threads t ≡ Some u → ThreadStands P code (code_thread cell) u → thread_status cell ≡ status.Running → IsNextLasting P code q.heap cell → HasUnseenStep P q t
    cell_unseen (Ready _ _) u here (ready_stands a m) runs next = absurd cc
    cell_unseen (Running []) u here (running_stands _ gs stand) runs next = absurd (let gone : None ≡ Some next.0 = next.2 in cc)
    cell_unseen (Running (f ∷ fs)) u here (running_stands _ gs stand) runs next = frames_unseen f (map code_frame fs) gs stand here next.0 next.1 (same_Some f.place next.0 next.2) next.3 next.4
    cell_unseen Done u here done_stands runs next = absurd cc
    cell_unseen (Faulted _ fs) u here (faulted_stands kind _ gs stand) runs next = absurd cc

    -- the thread at its number among the threads
    pub threads_unseen : (cells : List (ThreadOf CellFrame)) (cell : ThreadOf CellFrame) → slice_get cells t ≡ Some cell → ThreadsStand P code (map code_thread cells) q.threads → thread_status cell ≡ status.Running → IsNextLasting P code q.heap cell → HasUnseenStep P q t
    threads_unseen cells cell there stand runs next =
        let found = thread_for t (code_thread cell) (map code_thread cells) q.threads (slice_get-map code_thread cells t ∙ ap (option_map code_thread) there) stand in
        cell_unseen cell found.0 found.1 found.2 runs next
