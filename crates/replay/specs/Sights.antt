-- What is seen of a thread, in the machine and in the definition.
use Rattle.std.specs.Prelude.{ℕ, List, [], ◌∷◌, length, true, Option, Some, None}
use Rattle.state.specs.declared.value.Address.{Address}
use Rattle.state.specs.declared.value.Value.{Value}
use Rattle.state.specs.Values.{top}
use Rattle.state.specs.States.{ThreadOf, Running, Thread}
use Rattle.state.specs.Frames.{CellFrame, frames_in}
use Rattle.replay.specs.Calls.{depth, result_in}
use Rattle.replay.specs.Scanning.{first_receiver, entered_in}
use Rattle.replay.specs.declared.sight.Sight.{Sight}

-- how many frames a thread has, the method and the receiver of the innermost, and its topmost operand where the thread runs
abbrev pub sight_of : Option Thread → Sight
sight_of thread = record { frames = depth thread; call = entered_in thread; top = result_in true thread }

-- the method and the receiver of the innermost of some frames
abbrev pub frames_call : List CellFrame → Option (ℕ × Address)
frames_call [] = None
frames_call (f ∷ fs) = first_receiver f.method f.slots

-- the topmost operand of the innermost frame of a running thread
abbrev pub cell_top : ThreadOf CellFrame → Option Value
cell_top (Running (f ∷ fs)) = Some (top f.operands)
cell_top _ = None

-- the same of a thread as the machine keeps it
abbrev pub cell_sight : Option (ThreadOf CellFrame) → Sight
cell_sight None = record { frames = 0; call = None; top = None }
cell_sight (Some cell) = record { frames = length (frames_in cell); call = frames_call (frames_in cell); top = cell_top cell }
