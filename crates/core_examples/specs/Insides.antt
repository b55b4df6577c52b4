-- Threads of the counter program, and of the program with four fields.
use Rattle.std.specs.Prelude.{pos, List, [], ◌∷◌}
use Rattle.std.specs.FinMap as map
use Rattle.core_program.specs.Core.{EmptyS}
use Rattle.state.specs.declared.value.Value.TheVariants.{Int, Ref}
use Rattle.state.specs.Work.{St, Act, Ret}
use Rattle.state.specs.States.{Frame, Thread, Ready, State}
use Rattle.core_examples.specs.Seen.{here}

-- a frame of the annotated method `inc`
abbrev pub called_frame : Frame
called_frame = record { method = 0; slots = Ref here ∷ []; operands = []; work = [] }

-- a frame of `run`, which isn't annotated
abbrev pub calling_frame : Frame
calling_frame = record { method = 1; slots = Ref here ∷ []; operands = []; work = [] }

-- a state with these threads
abbrev pub with_threads : List Thread → State
with_threads threads = record { heap = map.empty; locks = map.empty; threads = threads; output = [] }

-- two threads that are ready to run the method of the class with four fields, and the frame that each enters
abbrev pub two_ready : State
two_ready = with_threads (Ready here 0 ∷ Ready here 0 ∷ [])

-- the frame that such a thread enters: its object and two parameters that are 0, and an empty body to do before it returns
abbrev pub entered_frame : Frame
entered_frame = record { method = 0; slots = Ref here ∷ Int (pos 0) ∷ Int (pos 0) ∷ []; operands = []; work = St EmptyS ∷ Act Ret ∷ [] }
