-- How a line is judged, once it is known that its thread is there. This is `noted` of the system of logs in two steps.
use Rattle.std.specs.Prelude.{◌≡◌, ℕ, Bool, true, false, not, ◌==◌, ◌&&◌, ◌||◌, Option, Some, None, unwrap_or, if◌then◌else◌}
use Rattle.logs.specs.Events.{Event, LogLine}
use Rattle.logs.specs.Judging as logs
use Rattle.logs.specs.Judging.{Known, Note, Stops, assumed, put_known, with_stepper, note_kind}
use Rattle.logs.specs.Logs.{Guard, kind_at}
use Rattle.logs.specs.Memory.{SharedCell, Cells, Content, Lock, Value, Thread, Absent, Present, Ended}
use Rattle.logs.specs.Turns.{cell_of, Turn, turn_by_content}
use Rattle.semantics.specs.Units.{is_commit}
use Rattle.semantics.specs.Words.{fits_phase}
use Rattle.logs.specs.declared.judge.Refusal.{Refusal}
use Rattle.logs.specs.declared.judge.Refusal.TheVariants as why
use Rattle.logs.specs.declared.judge.Stop.{Stop}
use Rattle.logs.specs.declared.judge.Stop.TheVariants.{Refused, NoMemory}

-- whether a thread is there, by what its cell holds
abbrev pub is_present : Content → Bool
is_present (Lock o) = false
is_present (Value v) = false
is_present (Thread Absent) = false
is_present (Thread Present) = true
is_present (Thread Ended) = false

-- what is known once a thread is there
abbrev pub known_with_thread : ℕ → Known → Known
known_with_thread t k = record { cells = with_stepper t k; depth = k.depth; committed = k.committed }

-- what cells hold, of which kinds of accesses ask: those of which nothing is known are free locks
abbrev pub locks_in : (SharedCell → Option Content) → Cells
locks_in cells = λ cell. unwrap_or (cells cell) (Lock None)

-- what the cell of an event holds, where it is known or assumed
abbrev pub found_in : (SharedCell → Option Content) → ℕ → Event → Content
found_in cells t e = unwrap_or (cells (cell_of t e)) (assumed e)

-- the turn of a line, by what is known of cells
abbrev pub turn_in : (ℕ → Guard) → (SharedCell → Option Content) → LogLine → Option Turn
turn_in guard cells line = turn_by_content (kind_at guard (locks_in cells) line.thread line.event) line.event line.thread (found_in cells line.thread line.event)

-- what is known after a turn that leaves its thread in so many blocks
abbrev pub after_in : Known → LogLine → ℕ → Turn → Known
after_in k line d x = record {
  cells = put_known (cell_of line.thread line.event) x.content k.cells;
  depth = λ u. if line.thread == u then d else k.depth u;
  committed = λ u. if u == line.thread then not (d == 0) && (k.committed line.thread || is_commit x.kind) else k.committed u;
}

abbrev pub note_turn_in : Known → LogLine → ℕ → Option Turn → Note
note_turn_in k line d None = Stops logs.Impossible
note_turn_in k line d (Some x) = note_kind (fits_phase (k.committed line.thread) x.kind) (after_in k line d x)

-- a line whose thread is there, and which leaves it in so many blocks
abbrev pub note_in : (ℕ → Guard) → Known → LogLine → ℕ → Note
note_in guard k line d = note_turn_in k line d (turn_in guard k.cells line)

-- why a line is refused
abbrev pub refusal_data : Refusal → logs.Refusal
refusal_data why.HasEnded = logs.HasEnded
refusal_data why.NoBlock = logs.NoBlock
refusal_data why.Impossible = logs.Impossible
refusal_data why.Cut = logs.Cut

-- a judge stops as the note says, or for want of memory
abbrev pub IsNotedStop : Note → Stop → Type 0
IsNotedStop note (Refused w) = note ≡ Stops (refusal_data w)
IsNotedStop note NoMemory = Unit {0}
