-- The first lines that are written.
use Rattle.std.specs.Prelude.{ℕ, List, ◌++◌, codes, decimal}
use Rattle.edge.specs.Lines.{line_end}
use Rattle.logs.specs.Judging.{Refusal, HasEnded, NoBlock, Impossible, Cut}
use Rattle.logs.specs.Said.{DeedData, Take, Give, Read, Write, Change, Start, Join, Stop, Begin, End, SaidData}

-- `FILE:LINE: error: KIND`
abbrev pub fault_line : (name : List ℕ) → (line : ℕ) → (kind : List ℕ) → List ℕ
fault_line name line kind = name ++ (codes ":" ++ (decimal line ++ (codes ": error: " ++ (kind ++ line_end))))

abbrev pub serial_line : List ℕ
serial_line = codes "serial" ++ line_end

abbrev pub no_line_kind : List ℕ
no_line_kind = codes "not a line of a log"

abbrev pub no_guards_kind : List ℕ
no_guards_kind = codes "not a line of guards"

-- why a deed can't have happened
abbrev pub impossible_kind : DeedData → List ℕ
impossible_kind (Take l) = codes "this can't have happened: the lock is held by another"
impossible_kind (Give l) = codes "this can't have happened: the lock is not held by this thread"
impossible_kind (Start t) = codes "this can't have happened: the thread was there already"
impossible_kind (Join t) = codes "this can't have happened: the thread has not ended"
impossible_kind (Read p v) = codes "this can't have happened: the place holds another value"
impossible_kind (Write p v) = codes "this can't have happened: the place holds another value"
impossible_kind (Change p v w) = codes "this can't have happened: the place holds another value"
impossible_kind Stop = codes "this can't have happened: the thread has ended"
impossible_kind (Begin b) = codes "this can't have happened: the thread has ended"
impossible_kind End = codes "this can't have happened: the thread has ended"

-- why a line is refused
abbrev pub refused_kind : SaidData → Refusal → List ℕ
refused_kind said HasEnded = codes "this can't have happened: the thread has ended"
refused_kind said NoBlock = codes "this can't have happened: no block is open"
refused_kind said Impossible = impossible_kind said.deed
refused_kind said Cut = said.thread ++ codes " may be cut before this event"

-- the status with which a line is refused
abbrev pub refused_status : Refusal → ℕ
refused_status HasEnded = 3
refused_status NoBlock = 3
refused_status Impossible = 3
refused_status Cut = 2

-- a thread is inside a block at the end
abbrev pub open_kind : List ℕ → List ℕ
open_kind thread = thread ++ codes " is still inside a block at the end"
