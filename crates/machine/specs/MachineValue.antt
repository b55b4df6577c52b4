-- How a contract sees the machine: the program, its code, the state and the number of steps that were made.
use Rattle.std.specs.Prelude.{ℕ, ℤ, List, refl, map}
use Rattle.std.specs.Coded.{Coded, code_by, coded×, coded_ℤ, coded_list}
use Rattle.std.specs.FinMap as finite
use Rattle.core_program.specs.declared.program.CoreProgram.{CoreProgram}
use Rattle.state.specs.Memory.{Heap, Locks}
use Rattle.state.specs.States.{ThreadOf, StateOf}
use Rattle.state.specs.Frames.{CellFrame, CodeFrame, code_thread}
use Rattle.state.specs.Slots.{address_code}
use Rattle.state.specs.Codes.{object_code, hold_code}
use Rattle.state.specs.ThreadCodes.{thread_code}
use Rattle.compile.specs.declared.stack.CodeTable.{CodeTable}

-- a machine as plain data: its program with its code, the state that it has come to, and how many steps it made
pub record MachineValue : Type 0 where
  pub program : CoreProgram
  pub code : CodeTable
  pub state : StateOf CellFrame
  pub made : ℕ

-- a state without the rooms of its frames
abbrev pub code_state : StateOf CellFrame → StateOf CodeFrame
code_state s = record { heap = s.heap; locks = s.locks; threads = map code_thread s.threads; output = s.output }

-- a state is stored as the tuple of its parts
abbrev pub state_code : Coded (StateOf CellFrame)
state_code = code_by ((Heap × Locks) × (List (ThreadOf CellFrame) × List ℤ))
    (coded× (coded× (finite.code address_code object_code) (finite.code address_code hold_code)) (coded× (coded_list thread_code) (coded_list coded_ℤ)))
    (λ s. ((s.heap, s.locks), (s.threads, s.output))) (λ p. record { heap = p.0.0; locks = p.0.1; threads = p.1.0; output = p.1.1 }) (λ _. refl)
