-- What it means that a state of the machine over code stands for a state of the definition.
use Rattle.std.specs.Prelude.{◌≡◌, ℕ, List, [], ◌∷◌, Option, Some, None, slice_get}
use Rattle.core_program.specs.Core.{Program}
use Rattle.state.specs.declared.value.Address.{Address}
use Rattle.state.specs.declared.value.Fault.{Fault}
use Rattle.state.specs.Work.{Item}
use Rattle.state.specs.States.{Frame, ThreadOf, Ready, Running, Done, Faulted, StateOf}
use Rattle.state.specs.Frames.{CodeFrame}
use Rattle.compile.specs.declared.stack.Code.{Code}
use Rattle.compile.specs.Standing.{Stands}
use Rattle.semantics.specs.Step.{has_result}

-- the frame of the definition with the same method, slots and operands, and this work left to do
abbrev pub with_work : CodeFrame → List Item → Frame
with_work f work = record { method = f.method; slots = f.slots; operands = f.operands; work = work }

module _ (P : Program) (code : List Code) where
  -- a frame's place, with its taken locks, stands for this work
  abbrev pub IsLeft : CodeFrame → List Item → Type 0
  IsLeft f work = Stands (has_result (slice_get P.methods f.method)) code f.place f.taken work

  -- frames that stand for frames, one by one
  pub data FramesStand : List CodeFrame → List Frame → Type 0 where
    no_frames : FramesStand [] []
    more_frames : (f : CodeFrame) (work : List Item) (fs : List CodeFrame) (gs : List Frame) → IsLeft f work → FramesStand fs gs → FramesStand (f ∷ fs) (with_work f work ∷ gs)

  -- a thread that stands for a thread: of the same status, with frames that stand for frames
  pub data ThreadStands : ThreadOf CodeFrame → ThreadOf Frame → Type 0 where
    ready_stands : (a : Address) (m : ℕ) → ThreadStands (Ready a m) (Ready a m)
    running_stands : (fs : List CodeFrame) (gs : List Frame) → FramesStand fs gs → ThreadStands (Running fs) (Running gs)
    done_stands : ThreadStands Done Done
    faulted_stands : (kind : Fault) (fs : List CodeFrame) (gs : List Frame) → FramesStand fs gs → ThreadStands (Faulted kind fs) (Faulted kind gs)

  -- threads that stand for threads, one by one
  pub data ThreadsStand : List (ThreadOf CodeFrame) → List (ThreadOf Frame) → Type 0 where
    no_threads : ThreadsStand [] []
    more_threads : (c : ThreadOf CodeFrame) (t : ThreadOf Frame) (cs : List (ThreadOf CodeFrame)) (ts : List (ThreadOf Frame)) → ThreadStands c t → ThreadsStand cs ts → ThreadsStand (c ∷ cs) (t ∷ ts)

  -- a state that stands for a state: the same heap, locks and output, and threads that stand for threads
  pub record StateStands (c : StateOf CodeFrame) (q : StateOf Frame) : Type 0 where
    pub heap : c.heap ≡ q.heap
    pub locks : c.locks ≡ q.locks
    pub threads : ThreadsStand c.threads q.threads
    pub output : c.output ≡ q.output

  -- a state that stands for a state, or none for none
  abbrev pub SomeStands : Option (StateOf CodeFrame) → Option (StateOf Frame) → Type 0
  SomeStands None None = Unit {0}
  SomeStands None (Some q) = ⊥
  SomeStands (Some c) None = ⊥
  SomeStands (Some c) (Some q) = StateStands c q
