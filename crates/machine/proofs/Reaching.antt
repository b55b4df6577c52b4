-- The operands of each frame are those with which its place is reached.
use Rattle.std.proofs.Common.{◌≡◌, inl, inr, ℕ, zero, suc, ◌+◌, ◌≤◌, List, [], ◌∷◌, ◌++◌, length, refl, sym, ap, subst, ◌∙◌, add-one, arith}
use Rattle.std.specs.Prelude.{Bool, true, false, Option, Some, None, Result, Ok, Err, is_some, map, slice_get, slice_set}
use Rattle.std.specs.Option.{option_map}
use Rattle.std.proofs.lemmas.Option.{slice_get-map}
use Rattle.core_program.specs.Core.{Program, Method}
use Rattle.core_program.specs.declared.types.CoreType.{CoreType}
use Rattle.core_program.specs.Typed.{IsTyped}
use Rattle.state.specs.declared.value.Address.{Address}
use Rattle.state.specs.declared.value.Value.{Value}
use Rattle.state.specs.declared.value.Value.TheVariants as value
use Rattle.state.specs.declared.value.Fault.TheVariants as fault
use Rattle.state.specs.Values.{under, dropped, popped}
use Rattle.state.specs.Work as W
use Rattle.state.specs.Work.{Action, Item}
use Rattle.state.specs.States.{Frame, Thread, ThreadOf, Ready, Running, Done, Faulted, StateOf, State}
use Rattle.state.specs.Frames.{CellFrame, CodeFrame, code_frame, code_thread, frames_in, frame_given, rest_of, HasSpare}
use Rattle.compile.specs.declared.stack.Code.{Code}
use Rattle.compile.specs.declared.stack.Instr.TheVariants as i
use Rattle.compile.specs.IsCode.{IsCodeOf}
use Rattle.compile.specs.Standing.{Relation, Agree, Stands}
use Rattle.compile.specs.Rooms.{ReachedPlace, at_start, goes_on, turns, after_call, with_result_of}
use Rattle.compile.proofs.Depth.{stands_once}
use Rattle.semantics.specs.Step.{Shared, OutcomeOf, Outcome, has_result, seen_by, moved, outcome}
use Rattle.machine.specs.declared.deed.StepEnd.{StepEnd}
use Rattle.machine.specs.declared.deed.Deed.{Deed}
use Rattle.machine.specs.declared.deed.Deed.TheVariants as deed
use Rattle.machine.specs.CodeMachine.{code_frame_at, entered, thread_after, returned_to, deed_at, done, ready_thread_enters, code_turn, code_outcome}
use Rattle.machine.specs.Deeds.{seen_of}
use Rattle.machine.specs.Lean.{takes_memory, next_takes, step_takes, instr_takes}
use Rattle.machine.specs.Likeness.{with_work, IsLeft, FramesStand, no_frames, more_frames, ThreadStands, ready_stands, running_stands, done_stands, faulted_stands, ThreadsStand, no_threads, more_threads, StateStands}
use Rattle.machine.specs.MachineValue.{code_state}
use Rattle.machine.specs.Reaching.{HasReached, BelowReached, AreFramesReached, AllReached, IsKept}
use Rattle.machine.specs.Rooms.{IsRoomy, AreRoomy, AllRoomy, FitsIn, TurnFits}
use Rattle.machine.specs.Turns.{line_deed, deed_turn, next_turn}
use Rattle.machine.specs.Taken.{IsTaken}
use Rattle.machine.proofs.Following.{SameLeft, same_left, Leads, Follows, follows}
use Rattle.machine.proofs.RoomLemmas.{one_roomy}
use Rattle.machine.proofs.Runs.{moved_stands, outcome_like}
use Rattle.machine.proofs.Simulation.{same_place, OutcomeStands, both_move, both_absent, both_done, both_faulted, both_wait}

given_none : (r : Option CoreType) (gives : Option Value) (ops : List Value) → is_some gives ≡ is_some r → with_result_of r (length ops) ≡ length (frame_given gives ops)
given_none None None ops is = refl
given_none None (Some v) ops is = absurd cc
given_none (Some t) None ops is = absurd cc
given_none (Some t) (Some v) ops is = add-one (length ops)

given_count : (o : Option Method) (gives : Option Value) (ops : List Value) → is_some gives ≡ has_result o → after_call o (length ops) ≡ length (frame_given gives ops)
given_count None None ops is = refl
given_count None (Some v) ops is = absurd cc
given_count (Some m) gives ops is = given_none m.result gives ops is

-- a return's flag is its method's, and an instruction may take memory where its action may
module _ (R : Bool) (K : Relation) (c : Code) (locks : List Address) (rest : List Item) where
  ret_flag : (a : Action) → Agree R K c locks rest a → (r : Bool) → c.instr ≡ i.Ret r → r ≡ R
  ret_flag (W.Push v) h r is = absurd (let other = sym h.0 ∙ is in cc)
  ret_flag (W.Load x) h r is = absurd (let other = sym h.0 ∙ is in cc)
  ret_flag (W.Store x) h r is = absurd (let other = sym h.0 ∙ is in cc)
  ret_flag W.Drop h r is = absurd (let other = sym h.0 ∙ is in cc)
  ret_flag (W.Unary op) h r is = absurd (let other = sym h.0 ∙ is in cc)
  ret_flag (W.Binary op) h r is = absurd (let other = sym h.0 ∙ is in cc)
  ret_flag (W.AndThen e) h r is = absurd (let other = sym h.1 ∙ is in cc)
  ret_flag (W.OrElse e) h r is = absurd (let other = sym h.1 ∙ is in cc)
  ret_flag (W.Choose s u) h r is = absurd (let other = sym h.1 ∙ is in cc)
  ret_flag (W.Loop e s) h r is = absurd (let other = sym h.1 ∙ is in cc)
  ret_flag (W.Get f) h r is = absurd (let other = sym h.0 ∙ is in cc)
  ret_flag (W.Put f) h r is = absurd (let other = sym h.0 ∙ is in cc)
  ret_flag (W.New class) h r is = absurd (let other = sym h.0 ∙ is in cc)
  ret_flag (W.Call m) h r is = absurd (let other = sym h.0 ∙ is in cc)
  ret_flag (W.Acquire s) h r is = absurd (let other = sym h.0 ∙ is in cc)
  ret_flag (W.Release a) h r is = absurd (let other = sym h.1 ∙ is in cc)
  ret_flag W.Ret h r is = let same : i.Ret r ≡ i.Ret R = sym is ∙ h in cc
  ret_flag W.Print h r is = absurd (let other = sym h.0 ∙ is in cc)
  ret_flag W.Start h r is = absurd (let other = sym h.0 ∙ is in cc)

  takes_same : (a : Action) → Agree R K c locks rest a → takes_memory a ≡ instr_takes c.instr
  takes_same (W.Push v) h = sym (ap instr_takes h.0)
  takes_same (W.Load x) h = sym (ap instr_takes h.0)
  takes_same (W.Store x) h = sym (ap instr_takes h.0)
  takes_same W.Drop h = sym (ap instr_takes h.0)
  takes_same (W.Unary op) h = sym (ap instr_takes h.0)
  takes_same (W.Binary op) h = sym (ap instr_takes h.0)
  takes_same (W.AndThen e) h = sym (ap instr_takes h.1)
  takes_same (W.OrElse e) h = sym (ap instr_takes h.1)
  takes_same (W.Choose s u) h = sym (ap instr_takes h.1)
  takes_same (W.Loop e s) h = sym (ap instr_takes h.1)
  takes_same (W.Get f) h = sym (ap instr_takes h.0)
  takes_same (W.Put f) h = sym (ap instr_takes h.0)
  takes_same (W.New class) h = sym (ap instr_takes h.0)
  takes_same (W.Call m) h = sym (ap instr_takes h.0)
  takes_same (W.Acquire s) h = sym (ap instr_takes h.0)
  takes_same (W.Release a) h = sym (ap instr_takes h.1)
  takes_same W.Ret h = sym (ap instr_takes h)
  takes_same W.Print h = sym (ap instr_takes h.0)
  takes_same W.Start h = sym (ap instr_takes h.0)

one_line : (code : List Code) (place : ℕ) (a b : Code) → slice_get code place ≡ Some a → slice_get code place ≡ Some b → a ≡ b
one_line code place a b one two = cc

-- the frame of a thread that stands for a thread, and what is left there
module _ (P : Program) (code : List Code) (f : CodeFrame) (below : List CodeFrame) where
  pub record Leaves (u : Thread) : Type 0 where
    pub work : List Item
    pub more : List Frame
    pub left : IsLeft P code f work
    pub is : u ≡ Running (with_work f work ∷ more)

  frames_left : (fs : List CodeFrame) (gs : List Frame) → FramesStand P code fs gs → fs ≡ f ∷ below → Leaves (Running gs)
  frames_left _ _ no_frames is = absurd cc
  frames_left _ _ (more_frames g work fs gs left stand) is =
      let same : g ≡ f = cc in
      record { work = work; more = gs; left = subst (λ x. IsLeft P code x work) same left; is = ap (λ x. Running (with_work x work ∷ gs)) same }

  thread_left : (c : ThreadOf CodeFrame) (u : Thread) → ThreadStands P code c u → c ≡ Running (f ∷ below) → Leaves u
  thread_left _ _ (ready_stands a m) is = absurd cc
  thread_left _ _ (running_stands fs gs stand) is = frames_left fs gs stand (let same : fs ≡ f ∷ below = cc in same)
  thread_left _ _ done_stands is = absurd cc
  thread_left _ _ (faulted_stands kind fs gs stand) is = absurd cc

  pub left_at : (t : ℕ) (cs : List (ThreadOf CodeFrame)) (us : List Thread) → ThreadsStand P code cs us → slice_get cs t ≡ Some (Running (f ∷ below))
      → (u : Thread) × (slice_get us t ≡ Some u) × Leaves u
  left_at t _ _ no_threads there = absurd cc
  left_at zero _ _ (more_threads c u cs us one more) there = (u, refl, thread_left c u one (let same : c ≡ Running (f ∷ below) = cc in same))
  left_at (suc t) _ _ (more_threads c u cs us one more) there = left_at t cs us more there

  pub flag_is : (u : Thread) → Leaves u → (c : Code) → slice_get code f.place ≡ Some c → (r : Bool) → c.instr ≡ i.Ret r → r ≡ has_result (slice_get P.methods f.method)
  flag_is u h c there r is =
      let once = stands_once (has_result (slice_get P.methods f.method)) code f.place f.taken h.work h.left in
      let same : once.line ≡ c = one_line code f.place once.line c once.there there in
      ret_flag (has_result (slice_get P.methods f.method)) (Stands (has_result (slice_get P.methods f.method)) code) once.line f.taken once.rest once.action once.agree r (ap (λ x. x.instr) same ∙ is)

  pub takes_is : (u : Thread) → Leaves u → (c : Code) → slice_get code f.place ≡ Some c → step_takes (Some u) ≡ instr_takes c.instr
  takes_is u h c there =
      let once = stands_once (has_result (slice_get P.methods f.method)) code f.place f.taken h.work h.left in
      let same : once.line ≡ c = one_line code f.place once.line c once.there there in
      ap (λ x. step_takes (Some x)) h.is ∙ ap next_takes once.next
      ∙ takes_same (has_result (slice_get P.methods f.method)) (Stands (has_result (slice_get P.methods f.method)) code) once.line f.taken once.rest once.action once.agree ∙ ap (λ x. instr_takes x.instr) same

module _ (P : Program) (code : List Code) (entry room : List ℕ) where
  abbrev Frame_at : CodeFrame → ℕ → Type 0
  Frame_at f n = HasReached P code entry room f n

  same_frame : (f g : CodeFrame) (n k : ℕ) → g.method ≡ f.method → g.place ≡ f.place → n ≡ k → Frame_at f n → Frame_at g k
  same_frame f g n k method place count h = record {
    start = h.start;
    most = h.most;
    begins = ap (slice_get entry) method ∙ h.begins;
    wants = ap (slice_get room) method ∙ h.wants;
    reached = subst (λ p. ReachedPlace P code h.start p k) (sym place) (subst (ReachedPlace P code h.start f.place) count h.reached);
  }

  module _ (same : SameLeft P) (see : Shared) (t : ℕ) (f : CodeFrame) (below : List CodeFrame) (c : Code) (there : slice_get code f.place ≡ Some c) (depth : ℕ) where
    leads_on : (g : CodeFrame) (k : ℕ) → g.method ≡ f.method → Frame_at f (length f.operands) → Leads P entry room see t f.slots f.operands f.taken depth c.next c.instr g.place k → Frame_at g k
    leads_on g k method h (inl is) = record {
      start = h.start;
      most = h.most;
      begins = ap (slice_get entry) method ∙ h.begins;
      wants = ap (slice_get room) method ∙ h.wants;
      reached = subst (λ p. ReachedPlace P code h.start p k) (sym is.0) (goes_on f.place (length f.operands) k c h.reached there is.1);
    }
    leads_on g k method h (inr is) = record {
      start = h.start;
      most = h.most;
      begins = ap (slice_get entry) method ∙ h.begins;
      wants = ap (slice_get room) method ∙ h.wants;
      reached = subst (ReachedPlace P code h.start g.place) (sym is.1) (turns f.place (length f.operands) g.place c h.reached there is.0);
    }

    entered_reached : (m n at most place : ℕ) (this : Value) (o : Option Method) → slice_get P.methods m ≡ o → slice_get entry m ≡ Some at → slice_get room m ≡ Some most
        → Frame_at (record f { operands = under (dropped n f.operands); place = place }) (after_call (slice_get P.methods m) (length (under (dropped n f.operands))))
        → BelowReached P code entry room (slice_get P.methods f.method) below
        → AreFramesReached P code entry room (frames_in (entered m o this (popped n [] f.operands) at (record f { operands = under (dropped n f.operands); place = place } ∷ below)))
    entered_reached m n at most place this None is begins wants h more =
        (subst (λ x. Frame_at (record f { operands = under (dropped n f.operands); place = place }) (after_call x (length (under (dropped n f.operands))))) is h, more)
    entered_reached m n at most place this (Some method) is begins wants h more =
        (record { start = at; most = most; begins = begins; wants = wants; reached = at_start }, (h, more))

    pub deed_reached : ((r : Bool) → c.instr ≡ i.Ret r → r ≡ has_result (slice_get P.methods f.method)) → (d : Deed)
        → Follows P entry room see t f.slots f.operands f.taken depth c.next c.instr d → AreFramesReached P code entry room (f ∷ below) → AreFramesReached P code entry room (frames_in (thread_after P see t f below d))
    deed_reached flag (deed.Fails kind) is h = h
    deed_reached flag (deed.Goes drops gives place) is h = (leads_on (record f { operands = frame_given gives (dropped drops f.operands); place = place }) (length (frame_given gives (dropped drops f.operands))) refl h.0 is, h.1)
    deed_reached flag (deed.Stores x v place) is h = (leads_on (record f { slots = slice_set f.slots x v; operands = under f.operands; place = place }) (length (under f.operands)) refl h.0 is, h.1)
    deed_reached flag (deed.Reads a x v place) is h = (leads_on (record f { operands = v ∷ under f.operands; place = place }) (suc (length (under f.operands))) refl h.0 is, h.1)
    deed_reached flag (deed.Writes a x index v place) is h = (leads_on (record f { operands = under (under f.operands); place = place }) (length (under (under f.operands))) refl h.0 is, h.1)
    deed_reached flag (deed.Makes class n place) is h =
        (leads_on (record f { operands = value.Ref (record { thread = t; count = see.made }) ∷ dropped n f.operands; place = place }) (suc (length (dropped n f.operands))) refl h.0 is.0, h.1)
    deed_reached flag (deed.Enters m n a place at most) is h =
        entered_reached m n at most place (value.Ref a) (slice_get P.methods m) refl is.2 is.3
        (leads_on (record f { operands = under (dropped n f.operands); place = place }) (after_call (slice_get P.methods m) (length (under (dropped n f.operands)))) refl h.0 (is.0 same)) h.1
    deed_reached flag (deed.Takes a again place) is h = (leads_on (record f { operands = under f.operands; place = place; taken = a ∷ f.taken }) (length (under f.operands)) refl h.0 is.0, h.1)
    deed_reached flag (deed.Waits a holder) is h = h
    deed_reached flag (deed.Gives a frees place) is h = (leads_on (record f { place = place; taken = rest_of f.taken }) (length f.operands) refl h.0 is, h.1)
    deed_reached flag (deed.Returns gives) is h = returned below h.1
      where
        returned : (gs : List CodeFrame) → BelowReached P code entry room (slice_get P.methods f.method) gs → AreFramesReached P code entry room (frames_in (thread_after P see t f gs (deed.Returns gives)))
        returned [] more = tt
        returned (g ∷ gs) more = (
          same_frame g (record g { operands = frame_given gives g.operands }) (after_call (slice_get P.methods f.method) (length g.operands)) (length (frame_given gives g.operands)) refl refl
              (given_count (slice_get P.methods f.method) gives g.operands (is.2 ∙ flag is.0 is.1)) more.0,
          more.1,
        )
    deed_reached flag (deed.Prints n place) is h = (leads_on (record f { operands = under f.operands; place = place }) (length (under f.operands)) refl h.0 is.0, h.1)
    deed_reached flag (deed.Starts a m place) is h = (leads_on (record f { operands = under f.operands; place = place }) (length (under f.operands)) refl h.0 is.0, h.1)

  set_reached : (cs : List (ThreadOf CodeFrame)) (t : ℕ) (after : ThreadOf CodeFrame) → AllReached P code entry room cs → AreFramesReached P code entry room (frames_in after) → AllReached P code entry room (slice_set cs t after)
  set_reached [] t after all one = tt
  set_reached (c ∷ cs) zero after all one = (one, all.1)
  set_reached (c ∷ cs) (suc t) after all one = (all.0, set_reached cs t after all.1 one)

  append_reached : (cs : List (ThreadOf CodeFrame)) (a : Address) (m : ℕ) → AllReached P code entry room cs → AllReached P code entry room (cs ++ Ready a m ∷ [])
  append_reached [] a m all = (tt, tt)
  append_reached (c ∷ cs) a m all = (all.0, append_reached cs a m all.1)

  one_reached : (cs : List (ThreadOf CodeFrame)) (t : ℕ) (c : ThreadOf CodeFrame) → slice_get cs t ≡ Some c → AllReached P code entry room cs → AreFramesReached P code entry room (frames_in c)
  one_reached [] t c there all = absurd cc
  one_reached (d ∷ ds) zero c there all = let same : d ≡ c = cc in subst (λ x. AreFramesReached P code entry room (frames_in x)) same all.0
  one_reached (d ∷ ds) (suc t) c there all = one_reached ds t c there all.1

  module _ (same : SameLeft P) (is_code : IsCodeOf P code entry room) (t : ℕ) (old new : StateOf CodeFrame) (all : AllReached P code entry room old.threads) where
    done_reached : (f : CodeFrame) (below : List CodeFrame) (d : Deed) → AreFramesReached P code entry room (frames_in (thread_after P (seen_by t old) t f below d)) → IsTaken t (Ok tt) new old (done P (seen_by t old) t f below d)
        → AllReached P code entry room new.threads
    done_reached f below (deed.Fails kind) one is = subst (λ s. AllReached P code entry room s.threads) (sym is) (set_reached old.threads t (thread_after P (seen_by t old) t f below (deed.Fails kind)) all one)
    done_reached f below (deed.Goes drops gives place) one is = subst (λ s. AllReached P code entry room s.threads) (sym is) (set_reached old.threads t (thread_after P (seen_by t old) t f below (deed.Goes drops gives place)) all one)
    done_reached f below (deed.Stores x v place) one is = subst (λ s. AllReached P code entry room s.threads) (sym is) (set_reached old.threads t (thread_after P (seen_by t old) t f below (deed.Stores x v place)) all one)
    done_reached f below (deed.Reads a x v place) one is = subst (λ s. AllReached P code entry room s.threads) (sym is) (set_reached old.threads t (thread_after P (seen_by t old) t f below (deed.Reads a x v place)) all one)
    done_reached f below (deed.Writes a x index v place) one is = subst (λ s. AllReached P code entry room s.threads) (sym is) (set_reached old.threads t (thread_after P (seen_by t old) t f below (deed.Writes a x index v place)) all one)
    done_reached f below (deed.Makes c n place) one is = subst (λ s. AllReached P code entry room s.threads) (sym is) (set_reached old.threads t (thread_after P (seen_by t old) t f below (deed.Makes c n place)) all one)
    done_reached f below (deed.Enters m n a place at most) one is = subst (λ s. AllReached P code entry room s.threads) (sym is) (set_reached old.threads t (thread_after P (seen_by t old) t f below (deed.Enters m n a place at most)) all one)
    done_reached f below (deed.Takes a again place) one is = subst (λ s. AllReached P code entry room s.threads) (sym is) (set_reached old.threads t (thread_after P (seen_by t old) t f below (deed.Takes a again place)) all one)
    done_reached f below (deed.Waits a holder) one is = absurd is
    done_reached f below (deed.Gives a frees place) one is = subst (λ s. AllReached P code entry room s.threads) (sym is) (set_reached old.threads t (thread_after P (seen_by t old) t f below (deed.Gives a frees place)) all one)
    done_reached f below (deed.Returns gives) one is = subst (λ s. AllReached P code entry room s.threads) (sym is) (set_reached old.threads t (thread_after P (seen_by t old) t f below (deed.Returns gives)) all one)
    done_reached f below (deed.Prints n place) one is = subst (λ s. AllReached P code entry room s.threads) (sym is) (set_reached old.threads t (thread_after P (seen_by t old) t f below (deed.Prints n place)) all one)
    done_reached f below (deed.Starts a m place) one is = subst (λ s. AllReached P code entry room s.threads) (sym is) (append_reached (slice_set old.threads t (thread_after P (seen_by t old) t f below (deed.Starts a m place))) a m (set_reached old.threads t (thread_after P (seen_by t old) t f below (deed.Starts a m place)) all one))

    no_frames_reached : (after : ThreadOf CodeFrame) → AreFramesReached P code entry room (frames_in after) → new.threads ≡ slice_set old.threads t after → AllReached P code entry room new.threads
    no_frames_reached after one is = subst (AllReached P code entry room) (sym is) (set_reached old.threads t after all one)

    first_reached : (a : Address) (m : ℕ) (o : Option Method) (e : Option ℕ) → slice_get P.methods m ≡ o → slice_get entry m ≡ e → IsTaken t (Ok tt) new old (ready_thread_enters a m o e) → AllReached P code entry room new.threads
    first_reached a m None e there begins is = no_frames_reached (Faulted fault.Null []) tt (ap (λ s. s.threads) is)
    first_reached a m (Some method) None there begins is = no_frames_reached (Faulted fault.Null []) tt (ap (λ s. s.threads) is)
    first_reached a m (Some method) (Some place) there begins is =
        let wanted = same_place P.methods room m method is_code.rooms there in
        no_frames_reached (Running (code_frame_at m method (value.Ref a) [] place ∷ []))
        (record { start = place; most = wanted.0; begins = begins; wants = wanted.1; reached = at_start }, tt) (ap (λ s. s.threads) is)

    line_reached : (f : CodeFrame) (below : List CodeFrame) (o : Option Code) → slice_get code f.place ≡ o → ((c : Code) → slice_get code f.place ≡ Some c → (r : Bool) → c.instr ≡ i.Ret r → r ≡ has_result (slice_get P.methods f.method))
        → AreFramesReached P code entry room (f ∷ below) → AreFramesReached P code entry room (frames_in (thread_after P (seen_by t old) t f below (deed_at P entry room (seen_by t old) t f (length (f ∷ below)) o)))
    line_reached f below None there flag h = h
    line_reached f below (Some c) there flag h =
        deed_reached same (seen_by t old) t f below c there (length (f ∷ below)) (flag c there) (deed_at P entry room (seen_by t old) t f (length (f ∷ below)) (Some c))
        (follows P entry room (seen_by t old) t f.slots f.operands f.taken (length (f ∷ below)) c.next c.instr) h

    turn_reached : (q : State) → StateStands P code old q → (c : Option (ThreadOf CodeFrame)) → slice_get old.threads t ≡ c → IsTaken t (Ok tt) new old (code_turn P code entry room (seen_by t old) t c) → AllReached P code entry room new.threads
    turn_reached q stands None there is = absurd is
    turn_reached q stands (Some Done) there is = absurd is
    turn_reached q stands (Some (Faulted kind fs)) there is = absurd is
    turn_reached q stands (Some (Ready a m)) there is = first_reached a m (slice_get P.methods m) (slice_get entry m) refl refl is
    turn_reached q stands (Some (Running [])) there is = no_frames_reached (Faulted fault.Null []) tt (ap (λ s. s.threads) is)
    turn_reached q stands (Some (Running (f ∷ below))) there is =
        let left = left_at P code f below t old.threads q.threads stands.threads there in
        done_reached f below (deed_at P entry room (seen_by t old) t f (length (f ∷ below)) (slice_get code f.place))
        (line_reached f below (slice_get code f.place) refl (flag_is P code f below left.0 left.2) (one_reached old.threads t (Running (f ∷ below)) there all)) is

    pub taken_reached : (r : Result (Unit {0}) StepEnd) (q : State) → StateStands P code old q → IsTaken t r new old (code_outcome P code entry room old t) → AllReached P code entry room new.threads
    taken_reached (Ok u) q stands is = turn_reached q stands (slice_get old.threads t) refl is
    taken_reached (Err why) q stands is = subst (λ s. AllReached P code entry room s.threads) (sym is.0) all

  -- the state after a turn stands for a state, too
  stood_after : (t : ℕ) (old new : StateOf CodeFrame) (r : Result (Unit {0}) StepEnd) (q : State) (o : OutcomeOf CodeFrame) (p : Outcome) → OutcomeStands P code o p → StateStands P code old q → IsTaken t r new old o
      → (after : State) × StateStands P code new after
  stood_after t old new (Ok u) q _ _ (both_move kind c x change one) h is = (
    moved t (record { kind = kind; thread = x; change = change }) q,
    subst (λ s. StateStands P code s (moved t (record { kind = kind; thread = x; change = change }) q)) (sym is)
        (moved_stands P code t (record { kind = kind; thread = c; change = change }) (record { kind = kind; thread = x; change = change }) old q refl one h),
  )
  stood_after t old new (Ok u) q _ _ both_absent h is = absurd is
  stood_after t old new (Ok u) q _ _ both_done h is = absurd is
  stood_after t old new (Ok u) q _ _ (both_faulted kind) h is = absurd is
  stood_after t old new (Ok u) q _ _ (both_wait a holder) h is = absurd is
  stood_after t old new (Err why) q o p one h is = (q, subst (λ s. StateStands P code s q) (sym is.0) h)

  pub kept_on : IsCodeOf P code entry room → (t : ℕ) (r : Result (Unit {0}) StepEnd) (old new : StateOf CellFrame) → IsKept P code entry room old
      → IsTaken t r (code_state new) (code_state old) (code_outcome P code entry room (code_state old) t) → AllRoomy room new.threads → IsKept P code entry room new
  kept_on is_code t r old new h is roomy =
      let after = stood_after t (code_state old) (code_state new) r h.stood (code_outcome P code entry room (code_state old) t) (outcome P h.stood t)
      (outcome_like P code entry room is_code (code_state old) h.stood t h.stands) h.stands is in
      record { reached = λ typed. taken_reached (same_left P typed) is_code t (code_state old) (code_state new) (h.reached typed) r h.stood h.stands is; roomy = roomy; stood = after.0; stands = after.1 }

  -- what a deed leaves fits into the frames, where the program is typed and the instruction takes no memory
  module _ (is_code : IsCodeOf P code entry room) (typed : IsTyped P) where
    within : (f : CellFrame) (g : CodeFrame) (n : ℕ) → g.method ≡ f.method → IsRoomy room f → Frame_at g n → n ≤ length f.operands + f.room
    within f g n method roomy h =
        let most = is_code.bounds typed g.method h.start h.most g.place n h.begins h.wants h.reached in
        let enough = roomy h.most (ap (slice_get room) (sym method) ∙ h.wants) in
        omega (arith, most, enough)

    spared : (gives : Option Value) (below : List CellFrame) → AreRoomy room below → AreFramesReached P code entry room (frames_in (returned_to gives (map code_frame below))) → HasSpare gives below
    spared None [] roomy h = tt
    spared None (g ∷ more) roomy h = tt
    spared (Some v) [] roomy h = tt
    spared (Some v) (g ∷ more) roomy h =
        let enough = within g (record (code_frame g) { operands = v ∷ g.operands }) (suc (length g.operands)) refl roomy.0 h.0 in omega (arith, enough)

    module _ (see : Shared) (t : ℕ) (f : CellFrame) (below : List CellFrame) (c : Code) (depth : ℕ) (lean : instr_takes c.instr ≡ false) (roomy : AreRoomy room (f ∷ below)) where
      fits : (d : Deed) → Follows P entry room see t f.slots f.operands f.taken depth c.next c.instr d → AreFramesReached P code entry room (frames_in (thread_after P see t (code_frame f) (map code_frame below) d)) → FitsIn f below d
      fits (deed.Fails kind) is h = tt
      fits (deed.Goes drops gives place) is h = within f (record (code_frame f) { operands = frame_given gives (dropped drops f.operands); place = place }) (length (frame_given gives (dropped drops f.operands))) refl roomy.0 h.0
      fits (deed.Stores x v place) is h = tt
      fits (deed.Reads a x v place) is h = within f (record (code_frame f) { operands = v ∷ under f.operands; place = place }) (suc (length (under f.operands))) refl roomy.0 h.0
      fits (deed.Writes a x index v place) is h = tt
      fits (deed.Makes class n place) is h = absurd (let both = sym is.1 ∙ lean in cc)
      fits (deed.Enters m n a place at most) is h = absurd (let both = sym is.1 ∙ lean in cc)
      fits (deed.Takes a again place) is h = absurd (let both = sym is.1 ∙ lean in cc)
      fits (deed.Waits a holder) is h = tt
      fits (deed.Gives a frees place) is h = tt
      fits (deed.Returns gives) is h = spared gives below roomy.1 h
      fits (deed.Prints n place) is h = absurd (let both = sym is.1 ∙ lean in cc)
      fits (deed.Starts a m place) is h = absurd (let both = sym is.1 ∙ lean in cc)

  same_fit : (f g : CellFrame) (below more : List CellFrame) (d : Deed) → Some (Running (f ∷ below)) ≡ Some (Running (g ∷ more)) → FitsIn f below d → FitsIn g more d
  same_fit f g below more d is h =
      let first : f ≡ g = cc in
      let others : below ≡ more = cc in
      subst (λ x. FitsIn x more d) first (subst (λ xs. FitsIn f xs d) others h)

  fitting : (f : CellFrame) (below : List CellFrame) (d : Deed) → FitsIn f below d → TurnFits (Some (Running (f ∷ below))) (deed_turn d)
  fitting f below (deed.Fails kind) h = tt
  fitting f below (deed.Goes drops gives place) h = λ g more is. same_fit f g below more (deed.Goes drops gives place) is h
  fitting f below (deed.Stores x v place) h = λ g more is. same_fit f g below more (deed.Stores x v place) is h
  fitting f below (deed.Reads a x v place) h = λ g more is. same_fit f g below more (deed.Reads a x v place) is h
  fitting f below (deed.Writes a x index v place) h = λ g more is. same_fit f g below more (deed.Writes a x index v place) is h
  fitting f below (deed.Makes c n place) h = absurd h
  fitting f below (deed.Enters m n a place at most) h = absurd h
  fitting f below (deed.Takes a again place) h = absurd h
  fitting f below (deed.Waits a holder) h = tt
  fitting f below (deed.Gives a frees place) h = λ g more is. same_fit f g below more (deed.Gives a frees place) is h
  fitting f below (deed.Returns gives) h = λ g more is. same_fit f g below more (deed.Returns gives) is h
  fitting f below (deed.Prints n place) h = absurd h
  fitting f below (deed.Starts a m place) h = absurd h

  takes_none : {F : Type 0} → true ≡ false → F
  takes_none is = absurd cc

  ready_at : (t : ℕ) (cs : List (ThreadOf CodeFrame)) (us : List Thread) → ThreadsStand P code cs us → (a : Address) (m : ℕ) → slice_get cs t ≡ Some (Ready a m) → slice_get us t ≡ Some (Ready a m)
  ready_at t _ _ no_threads a m there = absurd cc
  ready_at zero _ _ (more_threads _ _ cs us (ready_stands b n) more) a m there = cc
  ready_at zero _ _ (more_threads _ _ cs us (running_stands fs gs stand) more) a m there = absurd cc
  ready_at zero _ _ (more_threads _ _ cs us done_stands more) a m there = absurd cc
  ready_at zero _ _ (more_threads _ _ cs us (faulted_stands kind fs gs stand) more) a m there = absurd cc
  ready_at (suc t) _ _ (more_threads c u cs us one more) a m there = ready_at t cs us more a m there

  line_fits : IsCodeOf P code entry room → IsTyped P → (t : ℕ) (s : StateOf CellFrame) → IsKept P code entry room s → (f : CellFrame) (below : List CellFrame) → slice_get s.threads t ≡ Some (Running (f ∷ below))
      → (u : Thread) → Leaves P code (code_frame f) (map code_frame below) u → step_takes (Some u) ≡ false → AreFramesReached P code entry room (code_frame f ∷ map code_frame below)
      → (o : Option Code) → slice_get code f.place ≡ o → TurnFits (Some (Running (f ∷ below))) (deed_turn (line_deed P entry room (seen_of t s.heap s.locks) t (Running (f ∷ below)) o))
  line_fits is_code typed t s kept f below there u left lean reached None line = tt
  line_fits is_code typed t s kept f below there u left lean reached (Some c) line =
      let see = seen_of t s.heap s.locks in
      let d = line_deed P entry room see t (Running (f ∷ below)) (Some c) in
      let is = follows P entry room see t f.slots f.operands f.taken (length (f ∷ below)) c.next c.instr in
      fitting f below d (fits is_code typed see t f below c (length (f ∷ below)) (sym (takes_is P code (code_frame f) (map code_frame below) u left c line) ∙ lean)
      (one_roomy room s.threads t (Running (f ∷ below)) there kept.roomy) d is
      (deed_reached (same_left P typed) see t (code_frame f) (map code_frame below) c line (length (f ∷ below)) (flag_is P code (code_frame f) (map code_frame below) u left c line) d is reached))

  -- a turn whose step takes no memory fits
  pub turn_fits : IsCodeOf P code entry room → IsTyped P → (t : ℕ) (s : StateOf CellFrame) → IsKept P code entry room s → (q : State) → StateStands P code (code_state s) q → step_takes (slice_get q.threads t) ≡ false
      → (o : Option (ThreadOf CellFrame)) → slice_get s.threads t ≡ o → TurnFits o (next_turn P code entry room (seen_of t s.heap s.locks) t o)
  turn_fits is_code typed t s kept q stands lean None there = tt
  turn_fits is_code typed t s kept q stands lean (Some Done) there = tt
  turn_fits is_code typed t s kept q stands lean (Some (Faulted kind fs)) there = tt
  turn_fits is_code typed t s kept q stands lean (Some (Ready a m)) there =
      let ready = ready_at t (map code_thread s.threads) q.threads stands.threads a m (slice_get-map code_thread s.threads t ∙ ap (option_map code_thread) there) in
      takes_none (sym (ap step_takes ready) ∙ lean)
  turn_fits is_code typed t s kept q stands lean (Some (Running [])) there = tt
  turn_fits is_code typed t s kept q stands lean (Some (Running (f ∷ below))) there =
      let code_there = slice_get-map code_thread s.threads t ∙ ap (option_map code_thread) there in
      let left = left_at P code (code_frame f) (map code_frame below) t (map code_thread s.threads) q.threads stands.threads code_there in
      let reached = one_reached (map code_thread s.threads) t (Running (code_frame f ∷ map code_frame below)) code_there (kept.reached typed) in
      line_fits is_code typed t s kept f below there left.0 left.2 (sym (ap step_takes left.1) ∙ lean) reached (slice_get code f.place) refl
