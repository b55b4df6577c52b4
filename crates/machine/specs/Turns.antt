-- What a turn of a thread comes to, as the thread is kept: decided before anything is changed.
use Rattle.std.specs.Prelude.{ℕ, List, length, Option, Some, None, slice_get}
use Rattle.std.specs.Option.{option_map}
use Rattle.core_program.specs.Core.{Program, Method}
use Rattle.state.specs.declared.value.Fault.TheVariants as fault
use Rattle.state.specs.States.{ThreadOf, Ready, Running, Done, Faulted}
use Rattle.state.specs.Frames.{CellFrame, top_frame, frames_in, slots_of, operands_of, taken_of}
use Rattle.compile.specs.declared.stack.Code.{Code}
use Rattle.semantics.specs.Step.{Shared}
use Rattle.machine.specs.declared.deed.Deed.{Deed}
use Rattle.machine.specs.declared.deed.Deed.TheVariants as deed
use Rattle.machine.specs.declared.deed.Turn.{Turn}
use Rattle.machine.specs.declared.deed.Turn.TheVariants as turn
use Rattle.machine.specs.declared.deed.StepEnd.TheVariants as ends
use Rattle.state.specs.declared.value.Address.{Address}
use Rattle.machine.specs.CodeMachine.{deed_of, deed_kind}
use Rattle.state.specs.declared.value.StepKind.{StepKind}
use Rattle.state.specs.declared.value.StepKind.TheVariants.{Both, Other}

-- what a line does, for a thread as it is kept
abbrev pub line_deed : Program → (entry room : List ℕ) → Shared → ℕ → ThreadOf CellFrame → Option Code → Deed
line_deed P entry room see t thread None = deed.Fails fault.Null
line_deed P entry room see t thread (Some c) =
    deed_of P entry room see t (slots_of (top_frame thread)) (operands_of (top_frame thread)) (taken_of (top_frame thread)) (length (frames_in thread)) c.next c.instr

-- what a thread does next: that of the line at its top frame's place
abbrev pub placed_deed : Program → List Code → (entry room : List ℕ) → Shared → ℕ → ThreadOf CellFrame → Option ℕ → Deed
placed_deed P code entry room see t thread None = deed.Fails fault.Null
placed_deed P code entry room see t thread (Some place) = line_deed P entry room see t thread (slice_get code place)

-- what a running thread does next, by the place of its top frame
abbrev pub cell_deed : Program → List Code → (entry room : List ℕ) → Shared → ℕ → ThreadOf CellFrame → Deed
cell_deed P code entry room see t thread = placed_deed P code entry room see t thread (option_map (λ f. f.place) (top_frame thread))

-- the kind of what is done; none where the thread waits
abbrev pub kind_done : Program → Shared → ℕ → Deed → Option StepKind
kind_done P see t (deed.Waits a holder) = None
kind_done P see t d = Some (deed_kind P see t d)

-- the kind of a running thread's next step
abbrev pub cell_kind : Program → List Code → (entry room : List ℕ) → Shared → ℕ → ThreadOf CellFrame → Option StepKind
cell_kind P code entry room see t (Ready a m) = Some Both
cell_kind P code entry room see t (Running fs) = kind_done P see t (cell_deed P code entry room see t (Running fs))
cell_kind P code entry room see t Done = None
cell_kind P code entry room see t (Faulted kind fs) = None

-- a ready thread enters its method, where it is there and begins at a place; else it faults
abbrev pub first_turn : Address → ℕ → Option Method → (entry room : Option ℕ) → Turn
first_turn a m None entry room = turn.Fails fault.Null
first_turn a m (Some method) None room = turn.Fails fault.Null
first_turn a m (Some method) (Some entry) None = turn.Enters a m entry 0
first_turn a m (Some method) (Some entry) (Some most) = turn.Enters a m entry most

-- what a running thread's turn comes to, by what it does next
abbrev pub deed_turn : Deed → Turn
deed_turn (deed.Fails kind) = turn.Fails kind
deed_turn (deed.Waits a holder) = turn.Ends (ends.Waits a holder)
deed_turn (deed.Starts a m place) = turn.Starts a m place
deed_turn d = turn.Does d

-- what a thread's turn comes to, by its status
abbrev pub cell_turn : Program → List Code → (entry room : List ℕ) → Shared → ℕ → ThreadOf CellFrame → Turn
cell_turn P code entry room see t (Ready a m) = first_turn a m (slice_get P.methods m) (slice_get entry m) (slice_get room m)
cell_turn P code entry room see t (Running fs) = deed_turn (cell_deed P code entry room see t (Running fs))
cell_turn P code entry room see t Done = turn.Ends ends.Done
cell_turn P code entry room see t (Faulted kind fs) = turn.Ends (ends.Faulted kind)

-- the same of a thread that may be absent
abbrev pub next_turn : Program → List Code → (entry room : List ℕ) → Shared → ℕ → Option (ThreadOf CellFrame) → Turn
next_turn P code entry room see t None = turn.Ends ends.Absent
next_turn P code entry room see t (Some thread) = cell_turn P code entry room see t thread

-- the kind of the step that a turn comes to; Both where it comes to none
abbrev pub turn_kind : Program → Shared → ℕ → Turn → StepKind
turn_kind P see t (turn.Does d) = deed_kind P see t d
turn_kind P see t (turn.Starts a m place) = Other
turn_kind P see t _ = Both
