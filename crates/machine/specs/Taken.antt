-- A turn of a thread that is taken.
use Rattle.std.specs.Prelude.{◌≡◌, ℕ, ℤ, List, [], ◌∷◌, Result, Ok, Err, slice_get}
use Rattle.std.specs.declared.alloc.AllocError.{AllocError}
use Rattle.core_program.specs.Core.{Program, Method}
use Rattle.core_program.specs.Views.{program_of}
use Rattle.state.specs.declared.value.Value.{Value}
use Rattle.state.specs.Memory.{Heap, Locks}
use Rattle.state.specs.States.{ThreadOf, Running, StateOf}
use Rattle.state.specs.Frames.{CellFrame, CodeFrame}
use Rattle.compile.specs.declared.stack.Code.{Code}
use Rattle.semantics.specs.Step.{OutcomeOf, Moves, moved}
use Rattle.machine.specs.declared.deed.StepEnd.{StepEnd}
use Rattle.machine.specs.MachineValue.{MachineValue, code_state}
use Rattle.machine.specs.Deeds.{seen_of}
use Rattle.machine.specs.Reasons.{IsReason}
use Rattle.machine.specs.declared.deed.Turn.{Turn}
use Rattle.machine.specs.declared.deed.StepEnd.TheVariants as ends
use Rattle.machine.specs.CodeMachine.{code_frame_at}
use Rattle.machine.specs.Turns.{next_turn}

-- a thread that entered its first method
abbrev pub first_thread : ℕ → Method → Value → ℕ → ThreadOf CodeFrame
first_thread m method this place = Running (code_frame_at m method this [] place ∷ [])

-- the turn of the thread of this number, over these parts of a state, comes to this
abbrev pub ComesTo : Program → List Code → (entry room : List ℕ) → ℕ → Heap → Locks → List (ThreadOf CellFrame) → Turn → Type 0
ComesTo P code entry room t heap locks threads found = found ≡ next_turn P code entry room (seen_of t heap locks) t (slice_get threads t)

-- what the turn of a machine's thread comes to
abbrev pub thread_turn : MachineValue → ℕ → Turn
thread_turn m t = next_turn (program_of m.program) m.code.code.items m.code.entry.items m.code.room.items (seen_of t m.state.heap m.state.locks) t (slice_get m.state.threads t)

-- the state of these parts, without the rooms of its frames
abbrev pub state_in : Heap → Locks → List (ThreadOf CellFrame) → List ℤ → StateOf CodeFrame
state_in heap locks threads output = code_state (record { heap = heap; locks = locks; threads = threads; output = output })

-- what a step answers, where want of memory is all that could keep it
abbrev pub step_result : Result (Unit {0}) AllocError → Result (Unit {0}) StepEnd
step_result (Ok u) = Ok u
step_result (Err e) = Err ends.NoMemory

-- The answer of a turn that comes to this outcome, and the state after it: after a step the one that it leads to, else the
-- same, and the reason is told.
abbrev pub IsTaken : ℕ → Result (Unit {0}) StepEnd → (new old : StateOf CodeFrame) → OutcomeOf CodeFrame → Type 0
IsTaken t (Ok u) new old (Moves move) = new ≡ moved t move old
IsTaken t (Ok u) new old _ = ⊥
IsTaken t (Err why) new old outcome = (new ≡ old) × IsReason why outcome
