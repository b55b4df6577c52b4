-- The invariant of runs that the exchange rests on: no address dangles, so that an object made by one thread can't bring
-- another's address to life.
use Rattle.std.specs.Prelude.{◌≡◌, ℕ, List, [], ◌∷◌, Some, slice_get}
use Rattle.state.specs.declared.value.Value.{Value}
use Rattle.state.specs.Memory.{Heap, IsNumbered}
use Rattle.state.specs.Work as W
use Rattle.state.specs.Work.{Action, Item, Ex, St, Act}
use Rattle.state.specs.States.{Frame, Thread, Ready, Running, Done, Faulted, State}
use Rattle.reduction.specs.Orderly.{IsObjectAt, Refers, HasNoDanglingValue}

-- each of these values that refers to an object refers to one that is there
abbrev pub AllRefer : Heap → List Value → Type 0
AllRefer heap [] = Unit {0}
AllRefer heap (v ∷ vs) = Refers heap v × AllRefer heap vs

-- an action that pushes a value pushes none that dangles
abbrev pub IsSoundAction : Heap → Action → Type 0
IsSoundAction heap (W.Push v) = Refers heap v
IsSoundAction heap _ = Unit {0}

-- an item of work that is an action pushes no value that dangles; expressions and statements have no values yet
abbrev pub IsSoundItem : Heap → Item → Type 0
IsSoundItem heap (Ex e) = Unit {0}
IsSoundItem heap (St s) = Unit {0}
IsSoundItem heap (Act a) = IsSoundAction heap a

-- no item of a work list pushes a value that dangles
abbrev pub AreSoundItems : Heap → List Item → Type 0
AreSoundItems heap [] = Unit {0}
AreSoundItems heap (i ∷ more) = IsSoundItem heap i × AreSoundItems heap more

-- no slot, no operand and no pushed value dangles
pub record IsSoundFrame (heap : Heap) (f : Frame) : Type 0 where
  pub slots : AllRefer heap f.slots
  pub operands : AllRefer heap f.operands
  pub work : AreSoundItems heap f.work

-- each frame of a thread is sound
abbrev pub AreSoundFrames : Heap → List Frame → Type 0
AreSoundFrames heap [] = Unit {0}
AreSoundFrames heap (f ∷ more) = IsSoundFrame heap f × AreSoundFrames heap more

-- a thread that is ready has its object in the heap, and one that runs has sound frames; of one that is done or has faulted nothing is asked
abbrev pub IsSoundThread : Heap → Thread → Type 0
IsSoundThread heap (Ready a m) = IsObjectAt heap a
IsSoundThread heap (Running frames) = AreSoundFrames heap frames
IsSoundThread heap Done = Unit {0}
IsSoundThread heap (Faulted kind frames) = Unit {0}

-- a state in which no address dangles: objects are numbered as they were made, the values in the heap refer to objects that are there, and each
-- thread is sound
pub record HasNoDanglingAddress (q : State) : Type 0 where
  pub numbered : IsNumbered q.heap
  pub closed : HasNoDanglingValue q.heap
  pub threads : (t : ℕ) (x : Thread) → slice_get q.threads t ≡ Some x → IsSoundThread q.heap x
