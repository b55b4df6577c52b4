-- Frames of the machine that runs code, and the threads that keep them.
use Rattle.std.specs.Prelude.{◌≡◌, ℕ, ◌+◌, ◌-◌, ◌<◌, Bool, true, false, List, [], ◌∷◌, length, Option, Some, None, map}
use Rattle.state.specs.declared.value.Address.{Address}
use Rattle.state.specs.declared.value.Value.{Value}
use Rattle.state.specs.declared.value.ThreadState.{ThreadState}
use Rattle.state.specs.declared.value.ThreadState.TheVariants as status
use Rattle.state.specs.Values.{dropped}
use Rattle.state.specs.States.{ThreadOf, Ready, Running, Done, Faulted}

-- a frame of the machine that runs code: its method, its slots, its operands with the topmost first, its place in the
-- code, and the locks that it took, the last one first
pub record CodeFrame : Type 0 where
  pub method : ℕ
  pub slots : List Value
  pub operands : List Value
  pub place : ℕ
  pub taken : List Address

-- the same with its spare room: so many operands more take no memory
pub record CellFrame : Type 0 where
  pub method : ℕ
  pub slots : List Value
  pub operands : List Value
  pub place : ℕ
  pub taken : List Address
  pub room : ℕ

-- a frame without its room
abbrev pub code_frame : CellFrame → CodeFrame
code_frame f = record { method = f.method; slots = f.slots; operands = f.operands; place = f.place; taken = f.taken }

-- a thread whose frames are looked at otherwise
abbrev pub map_frames : {F G : Type 0} → (F → G) → ThreadOf F → ThreadOf G
map_frames g (Ready a m) = Ready a m
map_frames g (Running fs) = Running (map g fs)
map_frames g Done = Done
map_frames g (Faulted kind fs) = Faulted kind (map g fs)

-- a thread without the rooms of its frames
abbrev pub code_thread : ThreadOf CellFrame → ThreadOf CodeFrame
code_thread t = map_frames code_frame t

-- the frames of a thread, the innermost first
abbrev pub frames_in : {F : Type 0} → ThreadOf F → List F
frames_in (Ready a m) = []
frames_in (Running fs) = fs
frames_in Done = []
frames_in (Faulted kind fs) = fs

-- the innermost frame
abbrev pub first_frame : {F : Type 0} → List F → Option F
first_frame [] = None
first_frame (f ∷ fs) = Some f

-- the innermost frame of a thread, where it has one
abbrev pub top_frame : {F : Type 0} → ThreadOf F → Option F
top_frame t = first_frame (frames_in t)

-- some frames with the innermost one changed
abbrev pub on_first : {F : Type 0} → (F → F) → List F → List F
on_first g [] = []
on_first g (f ∷ fs) = g f ∷ fs

-- a thread with its top frame changed
abbrev pub on_top : {F : Type 0} → (F → F) → ThreadOf F → ThreadOf F
on_top g (Ready a m) = Ready a m
on_top g (Running fs) = Running (on_first g fs)
on_top g Done = Done
on_top g (Faulted kind fs) = Faulted kind (on_first g fs)

-- the status of a thread
abbrev pub thread_status : {F : Type 0} → ThreadOf F → ThreadState
thread_status (Ready a m) = status.Ready
thread_status (Running fs) = status.Running
thread_status Done = status.Done
thread_status (Faulted kind fs) = status.Faulted kind

-- the object and the method of a ready thread
abbrev pub waiting_of : {F : Type 0} → ThreadOf F → Option (Address × ℕ)
waiting_of (Ready a m) = Some (a, m)
waiting_of _ = None

-- whether a thread runs, or may begin to
abbrev pub is_running : {F : Type 0} → ThreadOf F → Bool
is_running (Running fs) = true
is_running _ = false

-- whether a thread runs or is ready, and so may get a frame
abbrev pub may_enter : {F : Type 0} → ThreadOf F → Bool
may_enter (Ready a m) = true
may_enter (Running fs) = true
may_enter _ = false

-- a thread without its top frame: done where that was the last
abbrev pub running_or_done : {F : Type 0} → List F → ThreadOf F
running_or_done [] = Done
running_or_done (f ∷ fs) = Running (f ∷ fs)

-- the frames below the innermost one
abbrev pub rest_of : {F : Type 0} → List F → List F
rest_of [] = []
rest_of (f ∷ fs) = fs

-- a thread whose innermost frame has returned; done where that was its last
abbrev pub popped : {F : Type 0} → ThreadOf F → ThreadOf F
popped t = running_or_done (rest_of (frames_in t))

-- a frame with a value more, or none
abbrev pub frame_given : Option Value → List Value → List Value
frame_given None operands = operands
frame_given (Some v) operands = v ∷ operands

-- a frame that drops its topmost operands, is given a value or none, and goes on at a place
abbrev pub settled_operands : ℕ → Option Value → CellFrame → List Value
settled_operands drops gives f = frame_given gives (dropped drops f.operands)

-- the whole frame then: the places that operands leave are spare room, and those that they take are room no more
abbrev pub settled : ℕ → Option Value → ℕ → CellFrame → CellFrame
settled drops gives place f = record f {
  operands = settled_operands drops gives f;
  place = place;
  room = length f.operands + f.room - length (settled_operands drops gives f);
}

-- a frame that is given a result or none
abbrev pub with_given : Option Value → CellFrame → CellFrame
with_given None f = f
with_given (Some v) f = record f { operands = v ∷ f.operands; room = f.room - 1 }

-- the innermost of some frames can be given a result or none without memory
abbrev pub HasSpare : Option Value → List CellFrame → Type 0
HasSpare (Some v) (f ∷ fs) = 0 < f.room
HasSpare _ _ = Unit {0}

-- the parts of a frame that may be missing
abbrev pub slots_of : Option CellFrame → List Value
slots_of None = []
slots_of (Some f) = f.slots

-- the operands of a frame, the topmost first; none where there is no frame
abbrev pub operands_of : Option CellFrame → List Value
operands_of None = []
operands_of (Some f) = f.operands

-- the locks that a frame took, the last one first; none where there is no frame
abbrev pub taken_of : Option CellFrame → List Address
taken_of None = []
taken_of (Some f) = f.taken

-- there is a frame, and it has spare room
abbrev pub HasRoom : Option CellFrame → Type 0
HasRoom None = ⊥
HasRoom (Some f) = 0 < f.room

-- How a thread is kept: its innermost frame apart from those below it.
abbrev pub frames_from : {F : Type 0} → Option F → List F → List F
frames_from None below = []
frames_from (Some f) below = f ∷ below

-- the thread with this status, on this object and method or with these frames
abbrev pub thread_of : {F : Type 0} → ThreadState → Address → ℕ → List F → ThreadOf F
thread_of status.Ready on method frames = Ready on method
thread_of status.Running on method frames = Running frames
thread_of status.Done on method frames = Done
thread_of (status.Faulted kind) on method frames = Faulted kind frames

-- no frame, and none below
abbrev pub HasNone : {F : Type 0} → Option F → List F → Type 0
HasNone None below = below ≡ []
HasNone (Some f) below = ⊥

-- where there is no innermost frame there is none below; a ready or done thread has no frame
abbrev pub IsThread : {F : Type 0} → ThreadState → Option F → List F → Type 0
IsThread status.Ready top below = HasNone top below
IsThread status.Done top below = HasNone top below
IsThread _ (Some f) below = Unit {0}
IsThread _ None below = below ≡ []
