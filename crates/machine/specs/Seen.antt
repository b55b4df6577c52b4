-- What the machine's private functions see, as the definitions take it.
use Rattle.std.specs.Prelude.{ℕ, List}
use Rattle.std.specs.FinMap as map
use Rattle.core_program.specs.Core.{Program}
use Rattle.core_program.specs.Views.{program_of}
use Rattle.state.specs.Memory.{made_by}
use Rattle.compile.specs.declared.stack.Code.{Code}
use Rattle.semantics.specs.Step.{Shared}
use Rattle.machine.specs.declared.seen.Seen.{Seen}

-- the core program behind the one that the machine lends
abbrev pub program_in : Seen → Program
program_in s = program_of s.targets.now

-- the lines of the program's code, all methods in one list
abbrev pub code_lines_in : Seen → List Code
code_lines_in s = s.code.now.code.items

-- the place of each method's first line, by the method's number
abbrev pub entry_in : Seen → List ℕ
entry_in s = s.code.now.entry.items

-- how many operands a frame of each method may have at most, by the method's number
abbrev pub room_in : Seen → List ℕ
room_in s = s.code.now.room.items

-- what the thread sees of what all threads share: each object, each lock, and how many objects it has made itself
abbrev pub shared_in : Seen → Shared
shared_in s = record { object_at = map.get s.heap.now; lock_at = map.get s.locks.now; made = made_by s.thread s.heap.now }
