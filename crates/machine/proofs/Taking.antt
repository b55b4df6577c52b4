-- A turn that was taken on the parts of a state.
use Rattle.std.proofs.Common.{◌≡◌, ◌+◌, ℕ, ℤ, List, [], ◌∷◌, ◌++◌, refl, sym, ap, subst, ◌∙◌}
use Rattle.std.specs.Prelude.{true, length, Option, Some, None, IsSome, option_and_then, Result, Ok, Err, OnOk, OnErr, map, slice_get, slice_set}
use Rattle.std.specs.Option.{option_map}
use Rattle.std.specs.declared.alloc.AllocError.{AllocError}
use Rattle.std.proofs.lemmas.Option.{slice_get-map}
use Rattle.std.proofs.lemmas.List.{map-set}
use Rattle.core_program.specs.Core.{Program, Method}
use Rattle.state.specs.declared.value.Address.{Address}
use Rattle.state.specs.declared.value.Value.TheVariants as value
use Rattle.state.specs.declared.value.Fault.{Fault}
use Rattle.state.specs.Memory.{Heap, Locks}
use Rattle.state.specs.States.{ThreadOf, Ready, Running, Done, Faulted, StateOf}
use Rattle.state.specs.Frames.{CellFrame, CodeFrame, code_frame, code_thread, frames_in, may_enter, is_running, on_top, top_frame, slots_of}
use Rattle.compile.specs.declared.stack.Code.{Code}
use Rattle.semantics.specs.Step.{OutcomeOf}
use Rattle.machine.specs.declared.deed.StepEnd.{StepEnd}
use Rattle.machine.specs.declared.deed.StepEnd.TheVariants as ends
use Rattle.machine.specs.Reasons.{IsReason}
use Rattle.machine.specs.declared.deed.Deed.{Deed}
use Rattle.machine.specs.declared.deed.Deed.TheVariants as deed
use Rattle.machine.specs.Rooms.{HasRoomOf}
use Rattle.machine.specs.Counts.{IsCounted}
use Rattle.machine.proofs.Cells.{the_same}
use Rattle.machine.proofs.Counting.{deed_ok}
use Rattle.machine.proofs.Following.{follows, room_followed}
use Rattle.machine.proofs.Simulation.{same_place}
use Rattle.machine.specs.declared.deed.Turn.{Turn}
use Rattle.machine.specs.declared.deed.Turn.TheVariants as turn
use Rattle.machine.specs.CodeMachine.{code_turn, code_outcome}
use Rattle.machine.specs.Deeds.{Can, deed_thread, deed_heap, deed_locks, deed_output, seen_of, operands_in, advanced}
use Rattle.machine.specs.Turns.{first_turn, deed_turn, line_deed, next_turn}
use Rattle.machine.specs.Taken.{first_thread, state_in, step_result, IsTaken}
use Rattle.machine.proofs.TurnLemmas.{TurnIs, turn_is, deed_taken, does_reason}

frames_code : (c : ThreadOf CellFrame) → map code_frame (frames_in c) ≡ frames_in (code_thread c)
frames_code (Ready a m) = refl
frames_code (Running fs) = refl
frames_code Done = refl
frames_code (Faulted kind fs) = refl

none_turn : {F : Type 0} {a : Address} {m place most : ℕ} {kind : Fault} → turn.Enters a m place most ≡ turn.Fails kind → F
none_turn is = absurd cc

none_some : {A F : Type 0} {x : A} → None ≡ Some x → F
none_some is = absurd cc

done_deed : (d e : Deed) → turn.Does d ≡ deed_turn e → e ≡ d
done_deed d (deed.Fails kind) is = absurd cc
done_deed d (deed.Goes drops gives place) is = cc
done_deed d (deed.Stores x v place) is = cc
done_deed d (deed.Reads a x v place) is = cc
done_deed d (deed.Writes a x index v place) is = cc
done_deed d (deed.Makes c n place) is = cc
done_deed d (deed.Enters m n a place at most) is = cc
done_deed d (deed.Takes a again place) is = cc
done_deed d (deed.Waits a holder) is = absurd cc
done_deed d (deed.Gives a frees place) is = cc
done_deed d (deed.Returns gives) is = cc
done_deed d (deed.Prints n place) is = cc
done_deed d (deed.Starts a m place) is = absurd cc

module _ (P : Program) (code : List Code) (entry room : List ℕ) (t : ℕ) (heap : Heap) (locks : Locks) (threads : List (ThreadOf CellFrame)) (output : List ℤ) where
  abbrev old : StateOf CodeFrame
  old = state_in heap locks threads output

  abbrev here : Option (ThreadOf CellFrame)
  here = slice_get threads t

  abbrev out : OutcomeOf CodeFrame
  out = code_outcome P code entry room old t

  abbrev IsNext : Turn → Type 0
  IsNext d = d ≡ next_turn P code entry room (seen_of t heap locks) t here

  is : (d : Turn) → IsNext d → TurnIs P (seen_of t heap locks) t here out d
  is d e =
      subst (λ x. TurnIs P (seen_of t heap locks) t here x d) (sym (ap (code_turn P code entry room (seen_of t heap locks) t) (slice_get-map code_thread threads t)))
      (subst (λ x. TurnIs P (seen_of t heap locks) t here (code_turn P code entry room (seen_of t heap locks) t (option_map code_thread here)) x) (sym e) (turn_is P (seen_of t heap locks) t code entry room here))

  first_room : (a : Address) (m place most : ℕ) (method : Method) (e r : Option ℕ) → slice_get P.methods m ≡ Some method → slice_get entry m ≡ e → slice_get room m ≡ r → length room ≡ length P.methods
      → turn.Enters a m place most ≡ first_turn a m (Some method) e r → (slice_get entry m ≡ Some place) × (slice_get room m ≡ Some most)
  first_room a m place most method None r there begins wants sized is = none_turn is
  first_room a m place most method (Some b) None there begins wants sized is = none_some (sym wants ∙ (same_place P.methods room m method sized there).1)
  first_room a m place most method (Some b) (Some k) there begins wants sized is = (begins ∙ ap Some (let same : b ≡ place = cc in same), wants ∙ ap Some (let same : k ≡ most = cc in same))

  room_of_line : (f : CellFrame) (below : List CellFrame) (o : Option Code) (d : Deed) → line_deed P entry room (seen_of t heap locks) t (Running (f ∷ below)) o ≡ d → HasRoomOf room d
  room_of_line f below None d is = subst (HasRoomOf room) is tt
  room_of_line f below (Some c) d is =
      subst (HasRoomOf room) is (room_followed P entry room (seen_of t heap locks) t f.slots f.operands f.taken (length (f ∷ below)) c.next c.instr (line_deed P entry room (seen_of t heap locks) t (Running (f ∷ below)) (Some c))
      (follows P entry room (seen_of t heap locks) t f.slots f.operands f.taken (length (f ∷ below)) c.next c.instr))

  pub ends_taken : (why : StepEnd) → IsNext (turn.Ends why) → IsTaken t (Err why) old old out
  ends_taken why e = (refl, is (turn.Ends why) e)

  pub may_fail : (kind : Fault) → IsNext (turn.Fails kind) → (c : ThreadOf CellFrame) → here ≡ Some c → may_enter c ≡ true
  may_fail kind e c there = let k = is (turn.Fails kind) e in ap may_enter (the_same here c k.0 there k.1) ∙ k.2

  pub fails_taken : (kind : Fault) (after : List (ThreadOf CellFrame)) → IsNext (turn.Fails kind) → ((c : ThreadOf CellFrame) → here ≡ Some c → after ≡ slice_set threads t (Faulted kind (frames_in c)))
      → IsTaken t (Ok tt) (state_in heap locks after output) old out
  fails_taken kind after e set =
      let k = is (turn.Fails kind) e in
      let threads_are = ap (map code_thread) (set k.0 k.1) ∙ map-set code_thread threads t (Faulted kind (frames_in k.0)) ∙ ap (λ fs. slice_set (map code_thread threads) t (Faulted kind fs)) (frames_code k.0) in
      subst (λ o. IsTaken t (Ok tt) (state_in heap locks after output) old o) (sym k.3) (λ j. record { heap = heap; locks = locks; threads = threads_are j; output = output })

  pub is_ready : (a : Address) (m place most : ℕ) → IsNext (turn.Enters a m place most) → here ≡ Some (Ready a m)
  is_ready a m place most e = (is (turn.Enters a m place most) e).1

  pub enters_taken : (r : Result (Unit {0}) AllocError) (a : Address) (m place most : ℕ) (after : List (ThreadOf CellFrame)) → IsNext (turn.Enters a m place most)
      → OnOk r ((method : Method) → slice_get P.methods m ≡ Some method → map code_thread after ≡ slice_set (map code_thread threads) t (first_thread m method (value.Ref a) place))
      → OnErr r (after ≡ threads) → IsTaken t (step_result r) (state_in heap locks after output) old out
  enters_taken (Ok u) a m place most after e ok err =
      let k = is (turn.Enters a m place most) e in
      let threads_are = ok k.0 k.2 in
      subst (λ o. IsTaken t (Ok tt) (state_in heap locks after output) old o) (sym k.3) (λ j. record { heap = heap; locks = locks; threads = threads_are j; output = output })
  enters_taken (Err x) a m place most after e ok err =
      let k = is (turn.Enters a m place most) e in
      (ap (λ ts. state_in heap locks ts output) err, subst (λ o. IsReason ends.NoMemory o) (sym k.3) refl)

  pub starts_taken : (r : Result (Unit {0}) AllocError) (a : Address) (m place : ℕ) (after : List (ThreadOf CellFrame)) → IsNext (turn.Starts a m place)
      → OnOk r ((c : ThreadOf CellFrame) → here ≡ Some c → map code_thread after ≡ slice_set (map code_thread threads) t (on_top (advanced 1 None place) (code_thread c)) ++ Ready a m ∷ [])
      → OnErr r (after ≡ threads) → IsTaken t (step_result r) (state_in heap locks after output) old out
  starts_taken (Ok u) a m place after e ok err =
      let k = is (turn.Starts a m place) e in
      let threads_are = ok (Running (k.0 ∷ k.1)) k.2 in
      subst (λ o. IsTaken t (Ok tt) (state_in heap locks after output) old o) (sym k.3) (λ j. record { heap = heap; locks = locks; threads = threads_are j; output = output })
  starts_taken (Err x) a m place after e ok err =
      let k = is (turn.Starts a m place) e in
      (ap (λ ts. state_in heap locks ts output) err, subst (λ o. IsReason ends.NoMemory o) (sym k.3) refl)

  pub starts_running : (a : Address) (m place : ℕ) → IsNext (turn.Starts a m place) → IsSome (option_and_then top_frame here)
  starts_running a m place e = subst (λ o. IsSome (option_and_then top_frame o)) (sym (is (turn.Starts a m place) e).2) refl

  pub does_top : (d : Deed) → IsNext (turn.Does d) → (c : ThreadOf CellFrame) → here ≡ Some c → IsSome (top_frame c)
  does_top d e c there = let k = is (turn.Does d) e in subst (λ x. IsSome (top_frame x)) (the_same here (Running (k.0 ∷ k.1)) c k.2 there) refl

  pub does_running : (d : Deed) → IsNext (turn.Does d) → (c : ThreadOf CellFrame) → here ≡ Some c → is_running c ≡ true
  does_running d e c there = let k = is (turn.Does d) e in ap is_running (the_same here c (Running (k.0 ∷ k.1)) there k.2)

  pub does_there : (d : Deed) → IsNext (turn.Does d) → IsSome here
  does_there d e = subst IsSome (sym (is (turn.Does d) e).2) refl

  pub does_can : (d : Deed) → IsNext (turn.Does d) → (c : ThreadOf CellFrame) → here ≡ Some c → Can P (seen_of t heap locks) t (slots_of (top_frame c)) d
  does_can d e c there = let k = is (turn.Does d) e in subst (λ x. Can P (seen_of t heap locks) t (slots_of (top_frame x)) d) (the_same here (Running (k.0 ∷ k.1)) c k.2 there) k.5

  pub does_taken : (r : Result (Unit {0}) AllocError) (d : Deed) (heap_new : Heap) (locks_new : Locks) (threads_new : List (ThreadOf CellFrame)) (output_new : List ℤ) → IsNext (turn.Does d)
      → OnOk r ((c : ThreadOf CellFrame) → here ≡ Some c → map code_thread threads_new ≡ slice_set (map code_thread threads) t (deed_thread P (seen_of t heap locks) t d (code_thread c)))
      → OnOk r ((c : ThreadOf CellFrame) → here ≡ Some c → heap_new ≡ deed_heap P (seen_of t heap locks) t (operands_in (code_thread c)) d heap)
      → OnOk r (IsSome here → locks_new ≡ deed_locks (seen_of t heap locks) t d locks) → OnOk r (IsSome here → output_new ≡ deed_output d output)
      → OnErr r (map code_thread threads_new ≡ map code_thread threads) → OnErr r (heap_new ≡ heap) → OnErr r (locks_new ≡ locks) → OnErr r (output_new ≡ output)
      → IsTaken t (step_result r) (state_in heap_new locks_new threads_new output_new) old out
  does_taken (Ok u) d heap_new locks_new threads_new output_new e ts hs ls os tk hk lk ok =
      let k = is (turn.Does d) e in
      subst (λ o. IsTaken t (Ok tt) (state_in heap_new locks_new threads_new output_new) old o) (sym k.3)
      (deed_taken P t k.0.slots old (state_in heap_new locks_new threads_new output_new) (code_frame k.0) (map code_frame k.1) d k.4 k.5 (hs (Running (k.0 ∷ k.1)) k.2) (ls (does_there d e)) (ts (Running (k.0 ∷ k.1)) k.2) (os (does_there d e)))
  does_taken (Err x) d heap_new locks_new threads_new output_new e ts hs ls os tk hk lk ok =
      let k = is (turn.Does d) e in
      (λ j. record { heap = hk j; locks = lk j; threads = tk j; output = ok j }, subst (λ o. IsReason ends.NoMemory o) (sym k.3) (does_reason P (seen_of t heap locks) t (code_frame k.0) (map code_frame k.1) d k.4))

  -- a deed that is done is that of the line at the top frame's place
  pub does_deed : (d : Deed) → IsNext (turn.Does d) → (f : CellFrame) (below : List CellFrame) → here ≡ Some (Running (f ∷ below)) → line_deed P entry room (seen_of t heap locks) t (Running (f ∷ below)) (slice_get code f.place) ≡ d
  does_deed d e f below there = done_deed d (line_deed P entry room (seen_of t heap locks) t (Running (f ∷ below)) (slice_get code f.place)) (e ∙ ap (next_turn P code entry room (seen_of t heap locks) t) there)

  pub does_room : (d : Deed) → IsNext (turn.Does d) → HasRoomOf room d
  does_room d e =
      let k = is (turn.Does d) e in
      room_of_line k.0 k.1 (slice_get code k.0.place) d (does_deed d e k.0 k.1 k.2)

  pub enters_room : (a : Address) (m place most : ℕ) → IsNext (turn.Enters a m place most) → length room ≡ length P.methods → (slice_get entry m ≡ Some place) × (slice_get room m ≡ Some most)
  enters_room a m place most e sized =
      let k = is (turn.Enters a m place most) e in
      first_room a m place most k.0 (slice_get entry m) (slice_get room m) k.2 refl refl sized
      (e ∙ ap (next_turn P code entry room (seen_of t heap locks) t) k.1 ∙ ap (λ o. first_turn a m o (slice_get entry m) (slice_get room m)) k.2)

  pub does_counted : (r : Result (Unit {0}) AllocError) (answer : Result (Unit {0}) StepEnd) (d : Deed) (heap_new : Heap) (locks_new : Locks) → IsNext (turn.Does d) → answer ≡ step_result r
      → OnOk r ((c : ThreadOf CellFrame) → here ≡ Some c → heap_new ≡ deed_heap P (seen_of t heap locks) t (operands_in (code_thread c)) d heap)
      → OnOk r (IsSome here → locks_new ≡ deed_locks (seen_of t heap locks) t d locks)
      → OnOk answer ((n : ℕ) → IsCounted n heap locks → IsCounted (n + 1) heap_new locks_new)
  does_counted (Ok u) answer d heap_new locks_new e same hs ls =
      let k = is (turn.Does d) e in
      deed_ok (Ok u) answer P t (operands_in (code_thread (Running (k.0 ∷ k.1)))) d heap heap_new locks locks_new same (hs (Running (k.0 ∷ k.1)) k.2) (ls (does_there d e))
  does_counted (Err x) answer d heap_new locks_new e is hs ls = deed_ok (Err x) answer P t [] d heap heap_new locks locks_new is tt tt
