-- What it means that a thread waits for a lock.
use Rattle.std.specs.Prelude.{◌≡◌, ◌≢◌, ℕ, List, ◌∷◌, Some, slice_get}
use Rattle.std.specs.FinMap as map
use Rattle.core_program.specs.Core.{Stmt}
use Rattle.state.specs.declared.value.Address.{Address}
use Rattle.state.specs.Values.{top, address_of}
use Rattle.state.specs.Memory.{Hold}
use Rattle.state.specs.Work.{Item, Acquire, unfolded}
use Rattle.state.specs.States.{Frame, State, Running}

-- the thread's next action is an acquire of the lock of this address, which that other thread holds
pub record WaitsFor (q : State) (t : ℕ) (a : Address) (holder : ℕ) : Type 0 where
  pub frame : Frame
  pub below : List Frame
  pub running : slice_get q.threads t ≡ Some (Running (frame ∷ below))
  pub part : Stmt
  pub rest : List Item
  pub acquires : unfolded frame.work ≡ Some (Acquire part, rest)
  pub operand : address_of (top frame.operands) ≡ Some a
  pub hold : Hold
  pub held : map.get q.locks a ≡ Some hold
  pub by : hold.holder ≡ holder
  pub another : holder ≢ t
