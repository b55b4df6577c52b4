-- Actions that may take memory.
use Rattle.std.specs.Prelude.{Bool, true, false, ◌∷◌, Option, Some, None}
use Rattle.state.specs.Work as W
use Rattle.state.specs.Work.{Action, Next, unfolded}
use Rattle.state.specs.States.{Thread, Ready, Running}
use Rattle.compile.specs.declared.stack.Instr.{Instr}
use Rattle.compile.specs.declared.stack.Instr.TheVariants as i

-- whether an action may take memory: it makes an object, a frame, a hold of a lock, a printed number or a thread
abbrev pub takes_memory : Action → Bool
takes_memory (W.New c) = true
takes_memory (W.Call m) = true
takes_memory (W.Acquire s) = true
takes_memory W.Print = true
takes_memory W.Start = true
takes_memory _ = false

-- whether the next action may take memory, where there is one
abbrev pub next_takes : Option Next → Bool
next_takes None = false
next_takes (Some next) = takes_memory next.0

-- whether a thread's next step may: it enters its first method, or its next action may take memory
abbrev pub step_takes : Option Thread → Bool
step_takes (Some (Ready a m)) = true
step_takes (Some (Running (f ∷ below))) = next_takes (unfolded f.work)
step_takes _ = false

-- the same of an instruction
abbrev pub instr_takes : Instr → Bool
instr_takes (i.New c) = true
instr_takes (i.Call m) = true
instr_takes i.Acquire = true
instr_takes i.Print = true
instr_takes i.Start = true
instr_takes _ = false
